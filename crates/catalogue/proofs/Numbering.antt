-- A call that its own rules decide is decided once a number for its event is looked for.
use Rattle.std.proofs.Common.{◌≡◌, ℕ, Bool, true, false, ◌&&◌, Option, Some, None, if◌then◌else◌, nat_lt, nat_le, refl, subst, arith}
use Rattle.std.proofs.lemmas.Bool.Decides.{nat_tests}
use Rattle.cat_objects.specs.Changes.{has_operation}
use Rattle.cat_types.specs.declared.changes.Change.{Change}
use Rattle.cat_types.specs.declared.replies.Reply.{Reply}
use Rattle.rulings.specs.Decisions.{Decides, decided_by, told}
use Rattle.catalogue.specs.Rules.{first_refusal, lacks_number}
use Rattle.rulings.specs.declared.decided.Decided.{Decided}
use Rattle.rulings.specs.declared.decided.Decided.TheVariants as decided
use Rattle.rulings.specs.declared.refusal.Refusal.{Refusal}
use Rattle.rulings.specs.declared.refusal.Refusal.TheVariants.{EventNumbersUsedUp}

-- a call that changes something
pub numbered : (o : Option Refusal) (due : Option Change) (result : Reply) (next : ℕ) (change : Change) (reply : Reply) (answer : Decided) → decided.Change change reply ≡ told (decided_by o due result)
    → Decides (decided_by (lacks_number (Some change) next) (Some change) reply) answer → Decides (decided_by (first_refusal o (lacks_number due next)) due result) answer
numbered (Some x) due result next change reply answer is told_so = absurd cc
numbered None None result next change reply answer is told_so = absurd cc
numbered None (Some due) result next change reply answer is told_so =
    let same : change ≡ due = cc in
    let same_reply : reply ≡ result = cc in
    subst (λ (r : Reply). Decides (decided_by (lacks_number (Some due) next) (Some due) r) answer) same_reply
    (subst (λ (d : Change). Decides (decided_by (lacks_number (Some d) next) (Some d) reply) answer) same told_so)

-- a call that is refused or changes nothing
pub unnumbered : (o : Option Refusal) (due : Option Change) (result : Reply) (next : ℕ) (reply : Reply) → decided.Reply reply ≡ told (decided_by o due result) → decided.Reply reply ≡ told (decided_by (first_refusal o (lacks_number due next)) due result)
unnumbered (Some x) due result next reply is = is
unnumbered None None result next reply is = is
unnumbered None (Some due) result next reply is = absurd cc

-- ---- the number itself

room_by : (b : Bool) (x : Refusal) (next : ℕ) → nat_lt 9223372036854775807 next ≡ b → (if b then Some x else None) ≡ None → nat_le next 9223372036854775807 ≡ true
room_by true x next room is = absurd cc
room_by false x next room is = grind (arith, nat_tests, room)

number_by : (some lacking : Bool) (x : Refusal) → some ≡ true → (if some && lacking then Some x else None) ≡ None → (if lacking then Some x else None) ≡ None
number_by true lacking x some is = is
number_by false lacking x some is = absurd cc

-- where a number is left for the event of a change with an operation, it is one that an event may have
pub has_number : (change : Change) (next : ℕ) → has_operation change ≡ true → lacks_number (Some change) next ≡ None → nat_le next 9223372036854775807 ≡ true
has_number change next some is =
    room_by (nat_lt 9223372036854775807 next) EventNumbersUsedUp next refl (number_by (has_operation change) (nat_lt 9223372036854775807 next) EventNumbersUsedUp some is)
