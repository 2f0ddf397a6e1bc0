-- Which steps a caller's open dump takes.
use Rattle.std.specs.Prelude.{◌≡◌, ℕ, Bool, true, List, Some}
use Rattle.desk.specs.History.{Entry, Start, state_after}
use Rattle.desk.specs.Walks.{Place}
use Rattle.desk.specs.Walks as walk
use Rattle.dump_steps.specs.Open.{open_dump, takes_events, takes_objects}
use Rattle.dump_steps.specs.declared.open_dumps.DumpKind.{DumpKind}
use Rattle.dump_steps.specs.declared.open_dumps.OpenDump.{OpenDump}

-- after this history the caller has an open dump of this number, and it takes such steps
pub record Takes (allows : DumpKind → Bool) (me number : ℕ) (start : Start) (history : List Entry) : Type 0 where
  pub dump : OpenDump
  pub opened : open_dump me number (state_after start history).dumps ≡ Some dump
  pub allowed : allows dump.kind ≡ true

-- every open dump takes such a step
abbrev pub any_kind : DumpKind → Bool
any_kind kind = true

-- the open dumps that take the step of a place
abbrev pub allows : Place → (DumpKind → Bool)
allows (walk.tables after) = takes_objects
allows (walk.parts table born after) = takes_objects
allows walk.seal = takes_objects
allows (walk.events after) = takes_events
allows walk.end = any_kind
allows walk.done = any_kind
