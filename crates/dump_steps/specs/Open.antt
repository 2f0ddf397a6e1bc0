-- Open dumps.
use Rattle.std.specs.Prelude.{ℕ, ◌+◌, ◌==◌, min, max, ℤ, pos, nat_abs, int_lt, Bool, true, false, not, ◌&&◌, List, [], ◌∷◌, ◌++◌, map, Option, if◌then◌else◌}
use Rattle.std.specs.List.{filter, find}
use Rattle.dump_steps.specs.declared.open_dumps.DumpKind.{DumpKind}
use Rattle.dump_steps.specs.declared.open_dumps.DumpKind.TheVariants.{Bootstrap, Incremental}
use Rattle.dump_steps.specs.declared.open_dumps.OpenDump.{OpenDump}

-- the open dumps in the order in which they were begun, and how many more have their memory already
pub record Opened : Type 0 where
  pub dumps : List OpenDump
  pub spare : ℕ

-- whether a dump is of a whole database
abbrev pub is_bootstrap : DumpKind → Bool
is_bootstrap (Bootstrap sealed) = true
is_bootstrap Incremental = false

-- whether a dump takes objects: it is of a whole database, and isn't sealed
abbrev pub takes_objects : DumpKind → Bool
takes_objects (Bootstrap sealed) = not sealed
takes_objects Incremental = false

-- whether a dump takes events: it takes no objects, or none any more
abbrev pub takes_events : DumpKind → Bool
takes_events kind = not (takes_objects kind)

-- whether a dump has this number and was begun by this caller
abbrev pub is_dump : ℕ → ℕ → OpenDump → Bool
is_dump caller number dump = (dump.caller == caller) && (dump.number == number)

-- the open dump with this number, where this caller began it
abbrev pub open_dump : ℕ → ℕ → List OpenDump → Option OpenDump
open_dump caller number dumps = find (is_dump caller number) dumps

-- open dumps without this one
abbrev pub without_dump : ℕ → ℕ → List OpenDump → List OpenDump
without_dump caller number dumps = filter (λ dump. not (is_dump caller number dump)) dumps

-- open dumps with this one, in the place of one that its caller has with its number
abbrev pub with_dump : OpenDump → List OpenDump → List OpenDump
with_dump dump dumps = without_dump dump.caller dump.number dumps ++ dump ∷ []

-- a dump that is sealed at this event
abbrev pub sealed_at : ℕ → OpenDump → OpenDump
sealed_at end dump = record { caller = dump.caller; number = dump.number; db = dump.db; born = dump.born; kind = Bootstrap true; begin = dump.begin; end = end }

-- open dumps of which this one is sealed at this event
abbrev pub with_sealed : ℕ → ℕ → ℕ → List OpenDump → List OpenDump
with_sealed caller number end dumps = map (λ dump. if is_dump caller number dump then sealed_at end dump else dump) dumps

-- the databases of which whole dumps are open, one for each dump
abbrev pub dumping : List OpenDump → List (List ℕ)
dumping dumps = map (λ dump. dump.db) (filter (λ dump. is_bootstrap dump.kind) dumps)

-- ---- trims

-- the least of this number and the begins of these dumps
abbrev pub least_begin : ℕ → List OpenDump → ℕ
least_begin number [] = number
least_begin number (dump ∷ dumps) = least_begin (min number dump.begin) dumps

-- the number that was asked for, a negative one being 0
abbrev pub number_asked : ℤ → ℕ
number_asked upto = if int_lt upto (pos 0) then 0 else nat_abs upto

-- the event up to which events are taken off: the one that was asked for, but never past the newest one or the begin of an open dump
abbrev pub trim_end : ℤ → ℕ → List OpenDump → ℕ
trim_end upto newest dumps = min (number_asked upto) (least_begin newest dumps)

-- the first kept number after the events up to this one were taken off
abbrev pub first_kept : ℕ → ℕ → ℕ
first_kept first upto = max first (upto + 1)
