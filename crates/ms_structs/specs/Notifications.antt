-- Notifications: what a request says, and how events are written.
use Rattle.std.specs.Prelude.{ℕ, ℤ, pos, List, [], ◌∷◌, codes, min, Bool, true, false, Option, Some, None, if◌then◌else◌}
use Rattle.std.specs.List.{zip}
use Rattle.cat_types.specs.declared.changes.Event.{Event}
use Rattle.cat_types.specs.declared.changes.EventKind.{EventKind}
use Rattle.cat_types.specs.declared.changes.EventKind.TheVariants.{CreateDatabase, AlterDatabase, DropDatabase, CreateTable, AlterTable, DropTable, AddPartition, AlterPartition, DropPartition}
use Rattle.cat_types.specs.declared.changes.Op.{Op}
use Rattle.cat_types.specs.declared.changes.Op.TheVariants.{PutDb, DropDb, PutTable, DropTable as DropTableOp, MoveTable, PutPart, DropPart, MovePart}
use Rattle.ms_structs.specs.declared.notification_request.NotificationRequest.{NotificationRequest}
use Rattle.ms_structs.specs.declared.notification_request.NotificationRequestFields.{NotificationRequestFields}
use Rattle.ms_structs.specs.declared.got.Got.{Got}
use Rattle.ms_structs.specs.declared.got.Got.TheVariants.{Nothing}
use Rattle.ms_structs.specs.Slots.{for_said, given_or, made_of, optional_of, slot, struct_of}
use Rattle.ms_structs.specs.Values.{number_of}
use Rattle.ms_structs.specs.Written.{optional_text}
use Rattle.thrift_binary.specs.Building.{elements_of, followed}
use Rattle.thrift_binary.specs.Tree.{Wire, Number, Bytes, Struct, Items, Fields, NoFields, Field}

-- ---- a request: 1 lastEvent, 2 maxEvents

abbrev pub request_none : NotificationRequestFields
request_none = record { last = Nothing; max = Nothing }

abbrev pub request_set : NotificationRequestFields → ℕ → ℤ → Wire → NotificationRequestFields
request_set f ty id w = record {
  last = slot (pos 1) 10 number_of f.last ty id w;
  max = slot (pos 2) 8 number_of f.max ty id w;
}

-- an absent lastEvent is 0, and an absent maxEvents stays absent
abbrev pub request_whole : NotificationRequestFields → Option NotificationRequest
request_whole f =
    for_said (given_or (pos 0) f.last) (λ last. for_said (optional_of f.max) (λ max. Some (record { last = last; max = max })))

-- the request that these fields make
abbrev pub request_made : Fields → Option NotificationRequest
request_made = made_of request_whole request_set request_none

abbrev pub request_of : Wire → Got NotificationRequest
request_of = struct_of request_whole request_set request_none

-- ---- an event

-- a number as an i64, and as an i32: a greater one is cut to the greatest
abbrev pub cut_long : ℕ → ℤ
cut_long n = pos (min n 9223372036854775807)

abbrev pub cut_int : ℕ → ℤ
cut_int n = pos (min n 2147483647)

-- the name of a kind of event
abbrev pub kind_name : EventKind → List ℕ
kind_name CreateDatabase = codes "CREATE_DATABASE"
kind_name AlterDatabase = codes "ALTER_DATABASE"
kind_name DropDatabase = codes "DROP_DATABASE"
kind_name CreateTable = codes "CREATE_TABLE"
kind_name AlterTable = codes "ALTER_TABLE"
kind_name DropTable = codes "DROP_TABLE"
kind_name AddPartition = codes "ADD_PARTITION"
kind_name AlterPartition = codes "ALTER_PARTITION"
kind_name DropPartition = codes "DROP_PARTITION"

-- whether events of this kind change a database, and no table
abbrev pub is_on_database : EventKind → Bool
is_on_database CreateDatabase = true
is_on_database AlterDatabase = true
is_on_database DropDatabase = true
is_on_database CreateTable = false
is_on_database AlterTable = false
is_on_database DropTable = false
is_on_database AddPartition = false
is_on_database AlterPartition = false
is_on_database DropPartition = false

-- the table of an operation, under its old name where it moves
abbrev pub op_table : Op → Option (List ℕ)
op_table (PutDb rec) = None
op_table DropDb = None
op_table (PutTable table born rec) = Some table
op_table (DropTableOp table born) = Some table
op_table (MoveTable table born to rec) = Some table
op_table (PutPart table born values rec) = Some table
op_table (DropPart table born values) = Some table
op_table (MovePart table born values to rec) = Some table

-- the table of the first operation
abbrev pub first_table : List Op → Option (List ℕ)
first_table [] = None
first_table (op ∷ ops) = op_table op

-- the table of an event: that of its first operation, and none where the event is one on a database
abbrev pub event_table : Event → Option (List ℕ)
event_table event = if is_on_database event.change.kind then None else first_table event.change.ops

-- an event with its message: 1 eventId, 2 eventTime, 3 eventType, 4 dbName, 5 tableName, 6 message, 7 messageFormat
abbrev pub event_fields : Event → List ℕ → Fields
event_fields event message =
    Field 10 (pos 1) (Number (cut_long event.id)) (Field 8 (pos 2) (Number (cut_int event.moment))
    (Field 11 (pos 3) (Bytes (kind_name event.change.kind)) (Field 11 (pos 4) (Bytes event.change.db)
    (followed (optional_text (pos 5) (event_table event)) (Field 11 (pos 6) (Bytes message) (Field 11 (pos 7) (Bytes (codes "hms-own-1")) NoFields))))))

abbrev pub event_tree : Event → List ℕ → Wire
event_tree event message = Struct (event_fields event message)

-- events, each with its message: 1 events
abbrev pub events_fields : List Event → List (List ℕ) → Fields
events_fields events messages = Field 15 (pos 1) (Items 12 (elements_of (λ pair. event_tree pair.0 pair.1) (zip events messages))) NoFields

-- the number of the newest event: 1 eventId
abbrev pub newest_fields : ℤ → Fields
newest_fields id = Field 10 (pos 1) (Number id) NoFields
