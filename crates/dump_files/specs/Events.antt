-- Which events may stand in the event files of a dump.
use Rattle.std.specs.Prelude.{◌==◌, ◌&&◌, ℕ, nat_le, nat_lt, Bool, true, false, not, List, Option, None, Some}
use Rattle.std.specs.List.{list_all}
use Rattle.std.specs.Str.{bytes_eq}
use Rattle.cat_types.specs.declared.changes.Change.{Change}
use Rattle.cat_types.specs.declared.changes.Event.{Event}
use Rattle.cat_types.specs.declared.changes.EventKind.{EventKind}
use Rattle.cat_types.specs.declared.changes.EventKind.TheVariants as kind
use Rattle.cat_types.specs.declared.changes.Op.{Op}
use Rattle.cat_types.specs.declared.changes.Op.TheVariants as op
use Rattle.change_codec.specs.Forms.{Form}
use Rattle.change_codec.specs.Records.{event, newest}
use Rattle.dump_files.specs.Files.{Rule, file_of}
use Rattle.dump_files.specs.declared.bounds.Bounds.{Bounds}

-- the number above which an event's has to be: that of the last event, at first begin
abbrev pub number_before : Bounds → Option Event → ℕ
number_before bounds None = bounds.begin
number_before bounds (Some last) = last.id

-- numbers rise strictly, above begin, and are at most end
abbrev pub is_numbered : Bounds → Option Event → Event → Bool
is_numbered bounds last event = nat_lt (number_before bounds last) event.id && nat_le event.id bounds.end

-- whether an event makes a database
abbrev pub is_creation : EventKind → Bool
is_creation kind.CreateDatabase = true
is_creation kind.AlterDatabase = false
is_creation kind.DropDatabase = false
is_creation kind.CreateTable = false
is_creation kind.AlterTable = false
is_creation kind.DropTable = false
is_creation kind.AddPartition = false
is_creation kind.AlterPartition = false
is_creation kind.DropPartition = false

-- an operation neither makes the database, where the event is its creation, nor drops it
abbrev pub may_do : Bool → Op → Bool
may_do creation (op.PutDb rec) = not creation
may_do creation op.DropDb = false
may_do creation (op.PutTable table born rec) = true
may_do creation (op.DropTable table born) = true
may_do creation (op.MoveTable table born to rec) = true
may_do creation (op.PutPart table born values rec) = true
may_do creation (op.DropPart table born values) = true
may_do creation (op.MovePart table born values to rec) = true

-- a change of the manifest's database, by name and born, which it neither makes nor drops
abbrev pub is_within : Bounds → Change → Bool
is_within bounds change = (bytes_eq change.db bounds.db && change.db_born == bounds.born) && list_all (may_do (is_creation change.kind)) change.ops

-- which event may stand behind the last one and at a place in its file, which holds 256 at most
unfoldable pub event_stands : Bounds → Rule Event
event_stands bounds last place event =
    (nat_lt place 256 && is_numbered bounds last event) && is_within bounds event.change

-- an event file behind the last event of the files before it
abbrev pub event_file : Bounds → Option Event → Form (List Event)
event_file bounds = file_of (event_stands bounds) (event newest)
