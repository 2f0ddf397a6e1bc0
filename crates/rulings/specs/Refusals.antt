-- The refusals of calls as replies tell them.
use Rattle.std.specs.Prelude.{ℕ, zero, suc, nat_le, nat_lt, Bool, not, ◌&&◌, List, ◌++◌, length, take, codes, decimal, slice_index, if◌then◌else◌}
use Rattle.cat_types.specs.declared.replies.Reply.{Reply}
use Rattle.cat_types.specs.declared.replies.Reply.TheVariants.{Refused}
use Rattle.rulings.specs.declared.refusal.Refusal.{Refusal}
use Rattle.rulings.specs.declared.refusal.Refusal.TheVariants.{AlreadyExists, EventNumbersUsedUp, FilterSyntax, FilterTooDeep, FilterUnknownKey, FilterWrongType, InvalidInput, InvalidObject, InvalidOperation, InvalidRequest, IsReplica, NoSuchObject}

-- the number of a refusal
abbrev pub refusal_number : Refusal → ℕ
refusal_number AlreadyExists = 1
refusal_number NoSuchObject = 2
refusal_number InvalidObject = 3
refusal_number InvalidOperation = 4
refusal_number InvalidInput = 5
refusal_number (FilterSyntax place) = 6
refusal_number FilterTooDeep = 6
refusal_number (FilterUnknownKey key) = 6
refusal_number (FilterWrongType key) = 6
refusal_number IsReplica = 7
refusal_number EventNumbersUsedUp = 12
refusal_number InvalidRequest = 13

-- a text can be cut at a place: it ends there, or a character begins there
abbrev pub can_cut : List ℕ → ℕ → Bool
can_cut text place = nat_le place (length text) && not (nat_lt place (length text) && (nat_le 128 (slice_index text place) && nat_lt (slice_index text place) 192))

-- the last place up to this one where a text can be cut
abbrev pub last_cut : List ℕ → ℕ → ℕ
last_cut text zero = 0
last_cut text (suc place) = if can_cut text (suc place) then suc place else last_cut text place

-- a key is cut to its first 128 bytes, and no character of it is cut
abbrev pub told_key : List ℕ → List ℕ
told_key key = take (last_cut key 128) key

-- the text of a refusal
abbrev pub refusal_text : Refusal → List ℕ
refusal_text AlreadyExists = codes "already exists"
refusal_text NoSuchObject = codes "no such object"
refusal_text InvalidObject = codes "invalid object"
refusal_text InvalidOperation = codes "invalid operation"
refusal_text InvalidInput = codes "invalid input"
refusal_text (FilterSyntax place) = codes "filter: syntax at " ++ decimal place
refusal_text FilterTooDeep = codes "filter: too deep"
refusal_text (FilterUnknownKey key) = codes "filter: unknown key " ++ told_key key
refusal_text (FilterWrongType key) = codes "filter: wrong type for " ++ told_key key
refusal_text IsReplica = codes "database is a replica"
refusal_text EventNumbersUsedUp = codes "event numbers used up"
refusal_text InvalidRequest = codes "invalid request"

-- the reply that tells a refusal
abbrev pub refusal_reply : Refusal → Reply
refusal_reply refusal = Refused (refusal_number refusal) (refusal_text refusal)
