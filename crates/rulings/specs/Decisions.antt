-- What is decided of a call, and how it is told.
use Rattle.std.specs.Prelude.{◌≡◌, Option, None, Some}
use Rattle.cat_types.specs.declared.changes.Change.{Change}
use Rattle.cat_types.specs.declared.replies.Reply.{Reply}
use Rattle.rulings.specs.Refusals.{refusal_reply}
use Rattle.rulings.specs.declared.decided.Decided.{Decided}
use Rattle.rulings.specs.declared.decided.Decided.TheVariants as decided
use Rattle.rulings.specs.declared.refusal.Refusal.{Refusal}

-- a call is refused, or it is accepted, changes this, if anything, and has this result
pub data Decision : Type 0 where
  refused : Refusal → Decision
  accepted : Option Change → Reply → Decision

-- the decision of a call with this refusal, if any, this change and this result
abbrev pub decided_by : Option Refusal → Option Change → Reply → Decision
decided_by (Some refusal) change result = refused refusal
decided_by None change result = accepted change result

-- how the code tells a decision
abbrev pub told : Decision → Decided
told (refused refusal) = decided.Reply (refusal_reply refusal)
told (accepted None result) = decided.Reply result
told (accepted (Some change) result) = decided.Change change result

-- the code tells this decision, or want of memory
abbrev pub Decides : Decision → Decided → Type 0
Decides decision decided.NoMemory = Unit {0}
Decides decision (decided.Reply reply) = decided.Reply reply ≡ told decision
Decides decision (decided.Change change reply) = decided.Change change reply ≡ told decision

-- a fact of the change that is told, where there is one
abbrev pub IfChange : Decided → (Change → Type 0) → Type 0
IfChange (decided.Change change reply) fact = fact change
IfChange (decided.Reply reply) fact = Unit {0}
IfChange decided.NoMemory fact = Unit {0}
