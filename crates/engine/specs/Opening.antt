-- What the bytes of a store's disk open to.
use Rattle.std.specs.Prelude.{◌≡◌, ◌⊎◌, ℕ, ◌+◌, ◌==◌, nat_le, nat_lt, ⊤, Bool, ◌&&◌, List, [], ◌∷◌, take, drop, Option, None, Some, Result, Ok, Err, if◌then◌else◌}
use Rattle.cat_objects.specs.Changes.{takes_change}
use Rattle.change_codec.specs.Records.{an_entry}
use Rattle.change_codec.specs.Whole.{whole}
use Rattle.change_codec.specs.declared.entry.Entry.{Entry}
use Rattle.change_codec.specs.declared.entry.Entry.TheVariants as entry
use Rattle.change_codec.specs.declared.version.Version.TheVariants.{One}
use Rattle.desk.specs.State.{State, Written, drew, kept, start, trimmed, with_written}
use Rattle.ms_journal.specs.Files.{IsBroken, IsFile, base_in, placed}
use Rattle.ms_journal.specs.declared.fault.OpenFault.{OpenFault}
use Rattle.ms_journal.specs.declared.fault.OpenFault.TheVariants as opening

-- ---- one payload

-- what an entry says was written; no step writes one of a load so far
abbrev pub written_in : Entry → Option Written
written_in (entry.Event event) = Some (kept event)
written_in (entry.DumpBegun number) = Some (drew number)
written_in (entry.Trimmed first) = Some (trimmed first)
written_in (entry.LoadStep target row clear ops) = None

-- what was written by what was read; nothing where no entry was
abbrev pub said : Result Entry ℕ → Option Written
said (Ok read) = written_in read
said (Err place) = None

-- what a payload says was written, where all of it spells an entry
abbrev pub spelled : List ℕ → Option Written
spelled payload = said (whole (an_entry One) payload)

-- whether a state takes what was written: the event has the next number, and the catalogue can take its change; or the number of a dump is the next one; or the first kept number rises, and not past the number after the newest
abbrev pub takes : State → Written → Bool
takes state (kept event) = (event.id == state.newest + 1) && takes_change state.catalogue event.id event.change
takes state (drew number) = number == state.last_dump + 1
takes state (trimmed first) = nat_lt state.first first && nat_le first (state.newest + 1)

-- what a state becomes by what was written, where it takes that; else the place of the entry's gate
abbrev pub taken : ℕ → Option Written → State → Result State ℕ
taken at None state = Err at
taken at (Some written) state = if takes state written then Ok (with_written (Some written) state) else Err at

-- ---- all payloads

-- what comes next, unless an entry wasn't taken
abbrev pub and_then : Result State ℕ → (State → Result State ℕ) → Result State ℕ
and_then (Ok state) next = next state
and_then (Err at) next = Err at

-- payloads with the places of their gates are taken one after the other, up to the first that the state doesn't take
abbrev pub replayed : List (ℕ × List ℕ) → State → Result State ℕ
replayed [] state = Ok state
replayed (p ∷ ps) state = and_then (taken p.0 (spelled p.1) state) (λ after. replayed ps after)

-- the store's id in a head
abbrev pub id_in : List ℕ → List ℕ
id_in head = take 16 (drop 8 head)

-- what the payloads of a journal make of a new store with the head's id and base
abbrev pub opened : List ℕ → List (List ℕ) → Result State ℕ
opened head payloads = replayed (placed 40 payloads) (start (id_in head) (base_in head))

-- ---- a file

-- a file opens to a state
pub record Opens (c : List ℕ) (state : State) : Type 0 where
  pub head : List ℕ
  pub payloads : List (List ℕ)
  pub file : IsFile head payloads c
  pub gives : opened head payloads ≡ Ok state

-- a file whose entries are whole, the one at this place being the first that the state doesn't take
pub record IsUntaken (at : ℕ) (c : List ℕ) : Type 0 where
  pub head : List ℕ
  pub payloads : List (List ℕ)
  pub file : IsFile head payloads c
  pub gives : opened head payloads ≡ Err at

-- a file is broken at this place: an open gate stands there before bytes that aren't a whole entry; or all entries are whole, and this one is the first that the state doesn't take
abbrev pub IsBrokenStore : ℕ → List ℕ → Type 0
IsBrokenStore at c = IsBroken at c ⊎ IsUntaken at c

-- why payloads weren't replayed: the state doesn't take the one at this place; or memory was refused
abbrev pub RefusesReplay : OpenFault → Result State ℕ → Type 0
RefusesReplay opening.NotEmpty result = ⊥
RefusesReplay opening.Foreign result = ⊥
RefusesReplay (opening.Broken at) result = result ≡ Err at
RefusesReplay opening.DiskFault result = ⊥
RefusesReplay opening.NoMemory result = ⊤
