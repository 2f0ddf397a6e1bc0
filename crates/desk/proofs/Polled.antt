-- Polls write nothing; which events are above a number below 0.
use Rattle.std.proofs.Common.{◌≡◌, refl, sym, ap, ◌∙◌, ℕ, ◌<◌, ℤ, pos, negsuc, ◌<ℤ◌, List, [], ◌∷◌, arith}
use Rattle.std.proofs.lemmas.Int.{ints}
use Rattle.cat_types.specs.declared.calls.Call.TheVariants.{AddPartition, AddPartitions, AddPartitionsReq, AlterDatabase, AlterPartition, AlterPartitions, AlterTable, AppendPartition, AppendPartitionByName, CreateDatabase, CreateTable, DeletePartitionColumnStatistics, DeleteTableColumnStatistics, DropDatabase, DropPartition, DropPartitionByName, DropTable, GetAllDatabases, GetAllTables, GetCurrentNotificationEventId, GetDatabase, GetDatabases, GetFields, GetNextNotification, GetNumPartitionsByFilter, GetPartition, GetPartitionByName, GetPartitionColumnStatistics, GetPartitionNames, GetPartitionNamesPs, GetPartitions, GetPartitionsByFilter, GetPartitionsByNames, GetPartitionsPs, GetSchema, GetTable, GetTableColumnStatistics, GetTableObjectsByName, GetTableReq, GetTableStatisticsReq, GetTables, RenamePartition, UpdatePartitionColumnStatistics, UpdateTableColumnStatistics}
use Rattle.cat_types.specs.declared.changes.Event.{Event}
use Rattle.desk.specs.Laws.{PollsWriteNothing}
use Rattle.desk.specs.Polls.{events_beyond}
use Rattle.notify_log.specs.Logs.{AreNumbered, events_above}
use Rattle.notify_log.proofs.Numbers.{all_above}

pub write_nothing : PollsWriteNothing
write_nothing s GetAllDatabases moment is = absurd cc
write_nothing s (GetDatabase name) moment is = absurd cc
write_nothing s (CreateDatabase db) moment is = absurd cc
write_nothing s (DropDatabase name cascade) moment is = absurd cc
write_nothing s (GetDatabases pattern) moment is = absurd cc
write_nothing s (AlterDatabase name db) moment is = absurd cc
write_nothing s (CreateTable new) moment is = absurd cc
write_nothing s (DropTable db name) moment is = absurd cc
write_nothing s (GetTables db pattern) moment is = absurd cc
write_nothing s (GetAllTables db) moment is = absurd cc
write_nothing s (GetTable db name) moment is = absurd cc
write_nothing s (GetTableReq db name) moment is = absurd cc
write_nothing s (GetTableObjectsByName db names) moment is = absurd cc
write_nothing s (AlterTable db name new) moment is = absurd cc
write_nothing s (GetFields db name) moment is = absurd cc
write_nothing s (GetSchema db name) moment is = absurd cc
write_nothing s (AddPartition part) moment is = absurd cc
write_nothing s (AddPartitions parts) moment is = absurd cc
write_nothing s (AddPartitionsReq db name parts if_not_exists need_result) moment is = absurd cc
write_nothing s (AppendPartition db name values) moment is = absurd cc
write_nothing s (AppendPartitionByName db name called) moment is = absurd cc
write_nothing s (DropPartition db name values) moment is = absurd cc
write_nothing s (DropPartitionByName db name called) moment is = absurd cc
write_nothing s (GetPartition db name values) moment is = absurd cc
write_nothing s (GetPartitionByName db name called) moment is = absurd cc
write_nothing s (GetPartitions db name max) moment is = absurd cc
write_nothing s (GetPartitionNames db name max) moment is = absurd cc
write_nothing s (GetPartitionsPs db name values max) moment is = absurd cc
write_nothing s (GetPartitionNamesPs db name values max) moment is = absurd cc
write_nothing s (GetPartitionsByNames db name names) moment is = absurd cc
write_nothing s (AlterPartition db name part) moment is = absurd cc
write_nothing s (AlterPartitions db name parts) moment is = absurd cc
write_nothing s (RenamePartition db name values part) moment is = absurd cc
write_nothing s (GetPartitionsByFilter db name filter max) moment is = absurd cc
write_nothing s (GetNumPartitionsByFilter db name filter) moment is = absurd cc
write_nothing s (UpdateTableColumnStatistics new) moment is = absurd cc
write_nothing s (UpdatePartitionColumnStatistics new) moment is = absurd cc
write_nothing s (GetTableColumnStatistics db name col) moment is = absurd cc
write_nothing s (GetPartitionColumnStatistics db name called col) moment is = absurd cc
write_nothing s (DeleteTableColumnStatistics db name col) moment is = absurd cc
write_nothing s (DeletePartitionColumnStatistics db name called col) moment is = absurd cc
write_nothing s (GetTableStatisticsReq db name cols) moment is = absurd cc
write_nothing s (GetNextNotification last max) moment is = refl
write_nothing s GetCurrentNotificationEventId moment is = refl

-- every event is above a number below 0
all_beyond : (last : ℤ) (es : List Event) → last <ℤ pos 0 → events_beyond last es ≡ es
all_beyond (pos n) es below = absurd (omega (arith, ints, below))
all_beyond (negsuc n) [] below = refl
all_beyond (negsuc n) (e ∷ es) below = ap (λ rest. e ∷ rest) (all_beyond (negsuc n) es below)

-- so are those above the number before the first
pub beyond_none : (last : ℤ) (before first : ℕ) (es : List Event) → last <ℤ pos 0 → AreNumbered first es → before < first → events_above before es ≡ events_beyond last es
beyond_none last before first es below numbered above = all_above first before es numbered above ∙ sym (all_beyond last es below)
