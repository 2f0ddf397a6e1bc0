-- What the steps of a dump are answered.
use Rattle.std.specs.Prelude.{ℕ, ◌+◌, ◌==◌, nat_le, nat_lt, Bool, ◌&&◌, List, [], length, map, take, Option, None, Some, if◌then◌else◌}
use Rattle.std.specs.Cmp.Lexicographic.{slice_cmp}
use Rattle.std.specs.List.{filter}
use Rattle.std.specs.Ordering.{nat_cmp}
use Rattle.cat_objects.specs.Catalogue.{Catalogue, database, is_name, table, tables_of}
use Rattle.cat_objects.specs.Changes.{is_born}
use Rattle.cat_objects.specs.Parts.{PartList, parts_above}
use Rattle.cat_objects.specs.declared.held.HeldDb.{HeldDb}
use Rattle.cat_objects.specs.declared.held.HeldTable.{HeldTable}
use Rattle.cat_types.specs.declared.changes.Event.{Event}
use Rattle.cat_types.specs.declared.items.Item.{Item}
use Rattle.cat_types.specs.declared.items.Item.TheVariants as item
use Rattle.cat_types.specs.declared.steps.Answer.{Answer}
use Rattle.cat_types.specs.declared.steps.Answer.TheVariants as answer
use Rattle.cat_types.specs.declared.steps.DumpRefusal.TheVariants.{DatabaseGone}
use Rattle.cat_values.specs.Maps.{first_after}
use Rattle.dump_steps.specs.Open.{takes_events, takes_objects}
use Rattle.dump_steps.specs.Ranges.{Asked, begin_of, end_of}
use Rattle.dump_steps.specs.declared.open_dumps.DumpKind.{DumpKind}
use Rattle.dump_steps.specs.declared.open_dumps.DumpKind.TheVariants.{Bootstrap, Incremental}
use Rattle.dump_steps.specs.declared.open_dumps.OpenDump.{OpenDump}
use Rattle.dump_steps.specs.declared.taking.Takes.{Takes}
use Rattle.dump_steps.specs.declared.taking.Takes.TheVariants.{Events, Objects}
use Rattle.cat_values.specs.declared.records.PartRec.{PartRec}
use Rattle.std.specs.Prelude.{ℤ, false}

-- ---- the first step

-- a dump with a begin in its range is of events alone
abbrev pub kind_of : Option ℤ → DumpKind
kind_of None = Bootstrap false
kind_of (Some from) = Incremental

-- the dump that a caller begins of the database with this name and born, as the next one after the number `last`
abbrev pub begun : ℕ → List ℕ → ℕ → ℕ → ℕ → Asked → OpenDump
begun caller db born newest last asked = record {
  caller = caller;
  number = last + 1;
  db = db;
  born = born;
  kind = kind_of asked.from;
  begin = begin_of newest asked.from;
  end = end_of newest asked;
}

-- the database as the first item of a dump of all of it
abbrev pub first_item : DumpKind → ℕ → HeldDb → Option Item
first_item (Bootstrap sealed) newest held = Some (item.Db newest held.born held.rec)
first_item Incremental newest held = None

-- how the beginning of a dump is told: with the store's id, and the first item
abbrev pub told_begun : List ℕ → OpenDump → Option Item → Answer
told_begun id dump first = answer.Began dump.number id dump.born dump.begin dump.end first

-- ---- the steps after it

-- which dumps such a step can come next in, by their kind
abbrev pub allowed : Takes → (DumpKind → Bool)
allowed Objects = takes_objects
allowed Events = takes_events

-- the answer to a step of this open dump: none is open; or the step can't come next in it; or its database is gone, or another one; or what the step finds
abbrev pub answered_in : Option OpenDump → (DumpKind → Bool) → Catalogue → (OpenDump → Answer) → Answer
answered_in None allows cat finds = answer.NotOpen
answered_in (Some dump) allows cat finds =
    if allows dump.kind
    then (if is_born dump.born (database cat dump.db) then finds dump else answer.DumpRefused (DatabaseGone dump.born))
    else answer.NotOpen

-- whether a step of this open dump is taken
abbrev pub is_taken_in : Option OpenDump → (DumpKind → Bool) → Catalogue → Bool
is_taken_in None allows cat = false
is_taken_in (Some dump) allows cat = allows dump.kind && is_born dump.born (database cat dump.db)

-- the next table as it is at this event, where there is one
abbrev pub told_table : ℕ → Option (List ℕ × HeldTable) → Answer
told_table newest None = answer.NoTable
told_table newest (Some entry) = answer.Table (item.Table newest entry.0 entry.1.born entry.1.rec)

-- the first table of a database whose name is above this one, or the first of all
abbrev pub next_table : Catalogue → ℕ → Option (List ℕ) → OpenDump → Answer
next_table cat newest after dump = told_table newest (first_after (slice_cmp nat_cmp) after (tables_of (database cat dump.db)))

-- the partitions of a table, and none where it is absent or has another born
abbrev pub parts_under : Option HeldTable → ℕ → PartList
parts_under None born = []
parts_under (Some held) born = if held.born == born then held.parts else []

-- a partition as it is at this event
abbrev pub part_item : ℕ → List ℕ → ℕ → List (List ℕ) × PartRec → Item
part_item newest table born entry = item.Part newest table born entry.0 entry.1

-- the first 64 of these partitions, and whether others follow
abbrev pub told_parts : List Item → Answer
told_parts items = answer.Parts (take 64 items) (nat_lt 64 (length items))

-- the partitions of the table with this name and born whose values are above these, or all of them
abbrev pub next_parts : Catalogue → ℕ → List ℕ → ℕ → Option (List (List ℕ)) → OpenDump → Answer
next_parts cat newest name born after dump = told_parts (map (part_item newest name born) (parts_above after (parts_under (table cat dump.db name) born)))

-- whether an event is one of a dump's, and its number is above this one
abbrev pub is_dumped : OpenDump → ℕ → Event → Bool
is_dumped dump after event =
    (is_name dump.db event.change.db && (event.change.db_born == dump.born)) && (nat_lt after event.id && nat_le event.id dump.end)

-- the first 256 of these events, and whether others follow
abbrev pub told_events : List Event → Answer
told_events events = answer.Events (take 256 events) (nat_lt 256 (length events))

-- the events of a dump whose numbers are above this one
abbrev pub next_events : List Event → ℕ → OpenDump → Answer
next_events events after dump = told_events (filter (is_dumped dump after) events)
