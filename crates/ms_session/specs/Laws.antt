-- What follows from the session relation.
use Rattle.std.specs.Prelude.{◌≡◌, ⊤, ℕ, ◌⊎◌, List, [], ◌∷◌, ◌++◌, codes, map, Option, Some}
use Rattle.std.specs.List.{AllByRecursion}
use Rattle.hms_outside.specs.Told.{Goes}
use Rattle.cat_types.specs.declared.calls.Call.TheVariants.{AddPartition, AddPartitions, AddPartitionsReq, AlterDatabase, AlterPartition, AlterPartitions, AlterTable, AppendPartition, AppendPartitionByName, CreateDatabase, CreateTable, DeletePartitionColumnStatistics, DeleteTableColumnStatistics, DropDatabase, DropPartition, DropPartitionByName, DropTable, GetAllDatabases, GetAllTables, GetCurrentNotificationEventId, GetDatabase, GetDatabases, GetFields, GetNextNotification, GetNumPartitionsByFilter, GetPartition, GetPartitionByName, GetPartitionColumnStatistics, GetPartitionNames, GetPartitionNamesPs, GetPartitions, GetPartitionsByFilter, GetPartitionsByNames, GetPartitionsPs, GetSchema, GetTable, GetTableColumnStatistics, GetTableObjectsByName, GetTableReq, GetTableStatisticsReq, GetTables, RenamePartition, UpdatePartitionColumnStatistics, UpdateTableColumnStatistics}
use Rattle.cat_types.specs.declared.replies.Reply.{Reply}
use Rattle.cat_types.specs.declared.replies.Reply.TheVariants.{Names}
use Rattle.table_rules.specs.Databases.{matching}
use Rattle.desk.specs.History.{Entry, Legal}
use Rattle.desk.specs.State.{start}
use Rattle.thrift_binary.specs.Messages.{Message, Ending, Boundary, Spells, Truncated as TruncatedAt, Bad_at, Large_at}
use Rattle.ms_calls.specs.declared.request.Asked.{Asked}
use Rattle.ms_calls.specs.declared.request.Asked.TheVariants as ask
use Rattle.ms_calls.specs.Refusals.{out_of_memory}
use Rattle.ms_session.specs.Requests.{asks}
use Rattle.ms_session.specs.Session.{Met, Session}
use Rattle.ms_session.specs.Turns.{Carried, Replied, Shelf, Turn, replies_of}
use Rattle.ms_session.specs.declared.end.End.{End}
use Rattle.ms_session.specs.declared.end.End.TheVariants.{Done, Shutdown, Truncated, BadWire, TooLarge, ReadFault, WriteFault, NoMemory}

-- ---- every whole message is answered

-- these messages were carried out in order, and answered, each that wants a reply; nothing else was written
pub record AllAnswered (old new : Met) (entries : List Entry) (messages : List Message) : Type 0 where
  pub turns : List Turn
  pub bytes : List ℕ
  pub are : map (λ turn. turn.message) turns ≡ messages
  pub carried : Carried turns bytes old.clock new.clock old.shelf new.shelf entries
  pub replied : Goes (Replied (replies_of turns)) old.held new.held

-- a session over a text that spells these messages, and ends so, answered them all, and ended as the text does; or one of them asked for its end, and those before it were answered; or something outside failed, or memory was refused
abbrev pub EndsWith : Met → Met → List Entry → List Message → Ending → End → Type 0
EndsWith old new entries messages ending Done = AllAnswered old new entries messages × (ending ≡ Boundary)
EndsWith old new entries messages ending (Truncated place) = AllAnswered old new entries messages × (ending ≡ TruncatedAt place)
EndsWith old new entries messages ending (BadWire code place) = AllAnswered old new entries messages × (ending ≡ Bad_at code place)
EndsWith old new entries messages ending (TooLarge place) = AllAnswered old new entries messages × (ending ≡ Large_at place)
EndsWith old new entries messages ending Shutdown =
    (before : List Message) × (last : Message) × (more : List Message) × (messages ≡ before ++ last ∷ more) × (asks last ≡ ask.Shutdown) × AllAnswered old new entries before
EndsWith old new entries messages ending ReadFault = ⊤
EndsWith old new entries messages ending WriteFault = ⊤
EndsWith old new entries messages ending NoMemory = ⊤

abbrev pub WholeTextsAreServed : Type 0
WholeTextsAreServed =
    (old new : Met) (entries : List Entry) (end : End) (text : List ℕ) (messages : List Message) (ending : Ending)
    → old.left ≡ Some text → Spells text messages ending → Session old new entries end → EndsWith old new entries messages ending end

-- ---- a caller alone

-- a message that asks for no new database
abbrev pub MakesNone : Asked → Type 0
MakesNone (ask.Client (CreateDatabase db)) = ⊥
MakesNone (ask.Client (GetDatabase name)) = ⊤
MakesNone (ask.Client GetAllDatabases) = ⊤
MakesNone (ask.Client (DropDatabase name cascade)) = ⊤
MakesNone (ask.Client (GetDatabases pattern)) = ⊤
MakesNone (ask.Client (AlterDatabase name db)) = ⊤
MakesNone (ask.Client (CreateTable new)) = ⊤
MakesNone (ask.Client (DropTable db name)) = ⊤
MakesNone (ask.Client (GetTables db pattern)) = ⊤
MakesNone (ask.Client (GetAllTables db)) = ⊤
MakesNone (ask.Client (GetTable db name)) = ⊤
MakesNone (ask.Client (GetTableReq db name)) = ⊤
MakesNone (ask.Client (GetTableObjectsByName db tables)) = ⊤
MakesNone (ask.Client (AlterTable db name new)) = ⊤
MakesNone (ask.Client (GetFields db name)) = ⊤
MakesNone (ask.Client (GetSchema db name)) = ⊤
MakesNone (ask.Client (AddPartition part)) = ⊤
MakesNone (ask.Client (AddPartitions parts)) = ⊤
MakesNone (ask.Client (AddPartitionsReq db name parts if_not_exists need_result)) = ⊤
MakesNone (ask.Client (AppendPartition db name values)) = ⊤
MakesNone (ask.Client (AppendPartitionByName db name called)) = ⊤
MakesNone (ask.Client (DropPartition db name values)) = ⊤
MakesNone (ask.Client (DropPartitionByName db name called)) = ⊤
MakesNone (ask.Client (GetPartition db name values)) = ⊤
MakesNone (ask.Client (GetPartitionByName db name called)) = ⊤
MakesNone (ask.Client (GetPartitions db name max)) = ⊤
MakesNone (ask.Client (GetPartitionNames db name max)) = ⊤
MakesNone (ask.Client (GetPartitionsPs db name values max)) = ⊤
MakesNone (ask.Client (GetPartitionNamesPs db name values max)) = ⊤
MakesNone (ask.Client (GetPartitionsByNames db name named)) = ⊤
MakesNone (ask.Client (AlterPartition db name part)) = ⊤
MakesNone (ask.Client (AlterPartitions db name parts)) = ⊤
MakesNone (ask.Client (RenamePartition db name values part)) = ⊤
MakesNone (ask.Client (GetPartitionsByFilter db name filter max)) = ⊤
MakesNone (ask.Client (GetNumPartitionsByFilter db name filter)) = ⊤
MakesNone (ask.Client (UpdateTableColumnStatistics stats)) = ⊤
MakesNone (ask.Client (UpdatePartitionColumnStatistics stats)) = ⊤
MakesNone (ask.Client (GetTableColumnStatistics db name col)) = ⊤
MakesNone (ask.Client (GetPartitionColumnStatistics db name part col)) = ⊤
MakesNone (ask.Client (DeleteTableColumnStatistics db name col)) = ⊤
MakesNone (ask.Client (DeletePartitionColumnStatistics db name part col)) = ⊤
MakesNone (ask.Client (GetTableStatisticsReq db name cols)) = ⊤
MakesNone (ask.Client (GetNextNotification last max)) = ⊤
MakesNone (ask.Client GetCurrentNotificationEventId) = ⊤
MakesNone (ask.Dump db from to limit) = ⊤
MakesNone (ask.Trim upto) = ⊤
MakesNone (ask.Plain reply) = ⊤
MakesNone ask.Unknown = ⊤
MakesNone (ask.BadArgument id) = ⊤
MakesNone ask.Shutdown = ⊤

-- a message that lists the databases was answered those of these names that it asks for, or want of memory
abbrev pub Lists : List (List ℕ) → Asked → Reply → Type 0
Lists names (ask.Client GetAllDatabases) reply = (reply ≡ Names names) ⊎ (reply ≡ out_of_memory)
Lists names (ask.Client (GetDatabases pattern)) reply = (reply ≡ Names (matching pattern names)) ⊎ (reply ≡ out_of_memory)
Lists names (ask.Client (CreateDatabase db)) reply = ⊤
Lists names (ask.Client (GetDatabase name)) reply = ⊤
Lists names (ask.Client (DropDatabase name cascade)) reply = ⊤
Lists names (ask.Client (AlterDatabase name db)) reply = ⊤
Lists names (ask.Client (CreateTable new)) reply = ⊤
Lists names (ask.Client (DropTable db name)) reply = ⊤
Lists names (ask.Client (GetTables db pattern)) reply = ⊤
Lists names (ask.Client (GetAllTables db)) reply = ⊤
Lists names (ask.Client (GetTable db name)) reply = ⊤
Lists names (ask.Client (GetTableReq db name)) reply = ⊤
Lists names (ask.Client (GetTableObjectsByName db tables)) reply = ⊤
Lists names (ask.Client (AlterTable db name new)) reply = ⊤
Lists names (ask.Client (GetFields db name)) reply = ⊤
Lists names (ask.Client (GetSchema db name)) reply = ⊤
Lists names (ask.Client (AddPartition part)) reply = ⊤
Lists names (ask.Client (AddPartitions parts)) reply = ⊤
Lists names (ask.Client (AddPartitionsReq db name parts if_not_exists need_result)) reply = ⊤
Lists names (ask.Client (AppendPartition db name values)) reply = ⊤
Lists names (ask.Client (AppendPartitionByName db name called)) reply = ⊤
Lists names (ask.Client (DropPartition db name values)) reply = ⊤
Lists names (ask.Client (DropPartitionByName db name called)) reply = ⊤
Lists names (ask.Client (GetPartition db name values)) reply = ⊤
Lists names (ask.Client (GetPartitionByName db name called)) reply = ⊤
Lists names (ask.Client (GetPartitions db name max)) reply = ⊤
Lists names (ask.Client (GetPartitionNames db name max)) reply = ⊤
Lists names (ask.Client (GetPartitionsPs db name values max)) reply = ⊤
Lists names (ask.Client (GetPartitionNamesPs db name values max)) reply = ⊤
Lists names (ask.Client (GetPartitionsByNames db name named)) reply = ⊤
Lists names (ask.Client (AlterPartition db name part)) reply = ⊤
Lists names (ask.Client (AlterPartitions db name parts)) reply = ⊤
Lists names (ask.Client (RenamePartition db name values part)) reply = ⊤
Lists names (ask.Client (GetPartitionsByFilter db name filter max)) reply = ⊤
Lists names (ask.Client (GetNumPartitionsByFilter db name filter)) reply = ⊤
Lists names (ask.Client (UpdateTableColumnStatistics stats)) reply = ⊤
Lists names (ask.Client (UpdatePartitionColumnStatistics stats)) reply = ⊤
Lists names (ask.Client (GetTableColumnStatistics db name col)) reply = ⊤
Lists names (ask.Client (GetPartitionColumnStatistics db name part col)) reply = ⊤
Lists names (ask.Client (DeleteTableColumnStatistics db name col)) reply = ⊤
Lists names (ask.Client (DeletePartitionColumnStatistics db name part col)) reply = ⊤
Lists names (ask.Client (GetTableStatisticsReq db name cols)) reply = ⊤
Lists names (ask.Client (GetNextNotification last max)) reply = ⊤
Lists names (ask.Client GetCurrentNotificationEventId) reply = ⊤
Lists names (ask.Dump db from to limit) reply = ⊤
Lists names (ask.Trim upto) reply = ⊤
Lists names (ask.Plain answer) reply = ⊤
Lists names ask.Unknown reply = ⊤
Lists names (ask.BadArgument id) reply = ⊤
Lists names ask.Shutdown reply = ⊤

-- where the messages of one caller are all that a new store went through, and none asks for a new database, each listing names `default` alone, if that
abbrev pub AloneListsDefault : Type 0
AloneListsDefault = (id : List ℕ) (base : ℕ) (turns : List Turn) (bytes : List ℕ) (clock clock' : Option (List ℕ)) (shelf shelf' : Shelf) (entries : List Entry)
    → Carried turns bytes clock clock' shelf shelf' entries → Legal (record { state = start id base; fault = 0; past = [] }) entries → AllByRecursion (λ turn. MakesNone (asks turn.message)) turns
    → AllByRecursion (λ turn. Lists (codes "default" ∷ []) (asks turn.message) turn.reply) turns
