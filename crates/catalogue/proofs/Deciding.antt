-- A change that is decided can be taken.
use Rattle.std.proofs.Common.{◌≡◌, ℕ, Bool, true, false, List, [], ◌∷◌, Option, Some, None, if◌then◌else◌, nat_le, refl, ap, ◌∙◌}
use Rattle.cat_types.specs.declared.arguments.PartArg.{PartArg}
use Rattle.cat_types.specs.declared.calls.Call.{Call}
use Rattle.cat_types.specs.declared.calls.Call.TheVariants.{AddPartition, AddPartitions, AddPartitionsReq, AlterDatabase, AlterPartition, AlterPartitions, AlterTable, AppendPartition, AppendPartitionByName, CreateDatabase, CreateTable, DeletePartitionColumnStatistics, DeleteTableColumnStatistics, DropDatabase, DropPartition, DropPartitionByName, DropTable, GetAllDatabases, GetAllTables, GetCurrentNotificationEventId, GetDatabase, GetDatabases, GetFields, GetNextNotification, GetNumPartitionsByFilter, GetPartition, GetPartitionByName, GetPartitionColumnStatistics, GetPartitionNames, GetPartitionNamesPs, GetPartitions, GetPartitionsByFilter, GetPartitionsByNames, GetPartitionsPs, GetSchema, GetTable, GetTableColumnStatistics, GetTableObjectsByName, GetTableReq, GetTableStatisticsReq, GetTables, RenamePartition, UpdatePartitionColumnStatistics, UpdateTableColumnStatistics}
use Rattle.cat_types.specs.declared.changes.Change.{Change}
use Rattle.cat_types.specs.declared.changes.EventKind.TheVariants as kind
use Rattle.cat_types.specs.declared.replies.Reply.{Reply}
use Rattle.cat_types.specs.declared.replies.Reply.TheVariants.{Flag, Nothing}
use Rattle.cat_values.specs.Names.{lower}
use Rattle.cat_objects.specs.Catalogue.{Catalogue, table}
use Rattle.cat_objects.specs.Changes.{has_operation, takes_call}
use Rattle.cat_types.specs.declared.arguments.StatArg.{StatArg}
use Rattle.std.specs.Prelude.{ℤ}
use Rattle.stat_rules.specs.Statistics.{delete_part_rules, delete_table_rules, part_deleted, said_at, table_deleted, unless_empty, update_part_rules, update_table_rules}
use Rattle.stat_rules.proofs.DecidingStats.{delete_part_makes, delete_part_taken, delete_table_makes, delete_table_taken, part_due, table_due, update_part_makes, update_part_taken, update_table_makes, update_table_taken}
use Rattle.rulings.specs.Rules.{Rule, first_broken}
use Rattle.table_rules.specs.Databases.{alter_database_rules, create_database_rules, database_altered, database_created, database_dropped, drop_database_rules}
use Rattle.rulings.specs.Changes.{if_any, part_change, table_born}
use Rattle.rulings.specs.Names.{kept_name}
use Rattle.rulings.specs.Decisions.{Decides, IfChange, decided_by, told}
use Rattle.part_rules.specs.PartChanges.{add_list_rules, all_altered, alter_partition_rules, alter_partitions_rules, append_partition_rules, appended, drop_partition_rules, list_added, list_change, ops_under, partition_appended, partition_dropped, partition_renamed, rename_partition_rules}
use Rattle.rulings.specs.Meant.{Meaning, by_name, by_values, meant_values}
use Rattle.catalogue.specs.Rules.{breaks, decision, first_refusal, lacks_number}
use Rattle.table_rules.specs.Tables.{alter_table_rules, create_table_rules, drop_table_rules, table_altered, table_created, table_dropped}
use Rattle.rulings.specs.declared.bars.Bars.{Bars}
use Rattle.rulings.specs.declared.decided.Decided.{Decided}
use Rattle.rulings.specs.declared.decided.Decided.TheVariants as decided
use Rattle.rulings.specs.declared.refusal.Refusal.{Refusal}
use Rattle.part_rules.proofs.DecidingParts.{add_list_taken, alter_list_taken, alter_one_taken, append_taken, drop_part_taken, rename_does, rename_taken}
use Rattle.table_rules.proofs.DecidingDatabases.{alter_database_taken, create_database_taken, drop_database_taken}
use Rattle.table_rules.proofs.DecidingTables.{alter_table_makes, alter_table_taken, create_table_taken, drop_table_taken}
use Rattle.catalogue.proofs.Numbering.{has_number}

-- ---- a call that changes something

-- the change of a call that breaks no rule can be taken
by_refusals : (cat : Catalogue) (next : ℕ) (o n : Option Refusal) (change c : Change) (r s : Reply) → (o ≡ None → n ≡ None → takes_call cat next change ≡ true) → decided.Change c r ≡ told (decided_by (first_refusal o n) (Some change) s) → takes_call cat next c ≡ true
by_refusals cat next (Some x) n change c r s taken is = absurd cc
by_refusals cat next None (Some x) change c r s taken is = absurd cc
by_refusals cat next None None change c r s taken is =
    let same : c ≡ change = cc in
    ap (λ (d : Change). takes_call cat next d) same ∙ taken refl refl

by_rules : (cat : Catalogue) (next : ℕ) (rules : List Rule) (change c : Change) (r s : Reply) → (first_broken rules ≡ None → has_operation change ≡ true) → (first_broken rules ≡ None → nat_le next 9223372036854775807 ≡ true → takes_call cat next change ≡ true)
    → decided.Change c r ≡ told (decided_by (first_refusal (first_broken rules) (lacks_number (Some change) next)) (Some change) s) → takes_call cat next c ≡ true
by_rules cat next rules change c r s makes taken is =
    by_refusals cat next (first_broken rules) (lacks_number (Some change) next) change c r s (λ none room. taken none (has_number change next (makes none) room)) is

-- ---- a call that changes nothing

no_change : (P : Type 0) (o : Option Refusal) (c : Change) (r s : Reply) → decided.Change c r ≡ told (decided_by (first_refusal o None) None s) → P
no_change P None c r s is = absurd cc
no_change P (Some x) c r s is = absurd cc

-- a change that is made only where it has an operation
if_any_by : (b : Bool) (cat : Catalogue) (next : ℕ) (rules : List Rule) (due c : Change) (r s : Reply) → has_operation due ≡ b → (first_broken rules ≡ None → has_operation due ≡ true → nat_le next 9223372036854775807 ≡ true → takes_call cat next due ≡ true)
    → decided.Change c r ≡ told (decided_by (first_refusal (first_broken rules) (lacks_number (if b then Some due else None) next)) (if b then Some due else None) s) → takes_call cat next c ≡ true
if_any_by true cat next rules due c r s has taken is = by_rules cat next rules due c r s (λ _. has) (λ none room. taken none has room) is
if_any_by false cat next rules due c r s has taken is = no_change _ (first_broken rules) c r s is

by_any : (cat : Catalogue) (next : ℕ) (rules : List Rule) (due c : Change) (r s : Reply) → (first_broken rules ≡ None → has_operation due ≡ true → nat_le next 9223372036854775807 ≡ true → takes_call cat next due ≡ true)
    → decided.Change c r ≡ told (decided_by (first_refusal (first_broken rules) (lacks_number (if_any due) next)) (if_any due) s) → takes_call cat next c ≡ true
by_any cat next rules due c r s taken is = if_any_by (has_operation due) cat next rules due c r s refl taken is

-- a change that is made only where statistics are handed in
by_unless : (cat : Catalogue) (next : ℕ) (rules : List Rule) (objects : List StatArg) (due c : Change) (r s : Reply) → (first_broken rules ≡ None → has_operation due ≡ true) → (first_broken rules ≡ None → nat_le next 9223372036854775807 ≡ true → takes_call cat next due ≡ true)
    → decided.Change c r ≡ told (decided_by (first_refusal (first_broken rules) (lacks_number (unless_empty objects due) next)) (unless_empty objects due) s) → takes_call cat next c ≡ true
by_unless cat next rules [] due c r s makes taken is = no_change _ (first_broken rules) c r s is
by_unless cat next rules (object ∷ objects) due c r s makes taken is = by_rules cat next rules due c r s makes taken is

-- the changes of calls that put partitions
abbrev list_due : Catalogue → Option (List ℕ) → Option (List ℕ) → List PartArg → ℕ → Change
list_due cat db name parts moment = part_change kind.AddPartition cat (kept_name db) (ops_under (kept_name name) (table_born (table cat (kept_name db) (kept_name name))) (list_added cat db name parts moment))

abbrev append_due : Catalogue → List ℕ → List ℕ → Meaning → ℕ → Change
append_due cat db name meant moment = part_change kind.AddPartition cat db (ops_under name (table_born (table cat db name)) (appended (table cat db name) (meant_values meant) moment))

abbrev alter_due : Catalogue → List ℕ → List ℕ → List PartArg → ℕ → Change
alter_due cat db name parts moment = part_change kind.AlterPartition cat db (ops_under name (table_born (table cat db name)) (all_altered (table cat db name) parts moment))

list_taken : (needs passes : Bool) (cat : Catalogue) (bars : Bars) (db name : Option (List ℕ)) (parts : List PartArg) (moment next : ℕ) (c : Change) (r s : Reply)
    → decided.Change c r ≡ told (decided_by (first_refusal (first_broken (add_list_rules needs passes cat bars db name parts)) (lacks_number (list_change cat db name parts moment) next)) (list_change cat db name parts moment) s) → takes_call cat next c ≡ true
list_taken needs passes cat bars db name parts moment next c r s is =
    by_any cat next (add_list_rules needs passes cat bars db name parts) (list_due cat db name parts moment) c r s (add_list_taken needs passes cat bars db name parts moment next) is

append_call_taken : (cat : Catalogue) (bars : Bars) (db name : List ℕ) (meant : Meaning) (moment next : ℕ) (c : Change) (r s : Reply)
    → decided.Change c r ≡ told (decided_by (first_refusal (first_broken (append_partition_rules cat bars db name meant)) (lacks_number (partition_appended cat db name (meant_values meant) moment) next)) (partition_appended cat db name (meant_values meant) moment) s) → takes_call cat next c ≡ true
append_call_taken cat bars db name meant moment next c r s is =
    by_any cat next (append_partition_rules cat bars db name meant) (append_due cat db name meant moment) c r s (append_taken cat bars db name meant moment next) is

drop_call_taken : (cat : Catalogue) (bars : Bars) (db name : List ℕ) (meant : Meaning) (next : ℕ) (c : Change) (r s : Reply)
    → decided.Change c r ≡ told (decided_by (first_refusal (first_broken (drop_partition_rules cat bars db name meant)) (lacks_number (Some (partition_dropped cat db name (meant_values meant))) next)) (Some (partition_dropped cat db name (meant_values meant))) s)
    → takes_call cat next c ≡ true
drop_call_taken cat bars db name meant next c r s is =
    by_rules cat next (drop_partition_rules cat bars db name meant) (partition_dropped cat db name (meant_values meant)) c r s (λ _. refl) (drop_part_taken cat bars db name meant next) is

-- ---- all calls

change_taken : (cat : Catalogue) (bars : Bars) (call : Call) (moment next : ℕ) (c : Change) (r : Reply) → decided.Change c r ≡ told (decision cat bars call moment next) → takes_call cat next c ≡ true
change_taken cat bars GetAllDatabases moment next c r is = no_change _ None c r _ is
change_taken cat bars (GetDatabase name) moment next c r is = no_change _ (breaks cat bars (GetDatabase name)) c r _ is
change_taken cat bars (CreateDatabase db) moment next c r is = by_rules cat next (create_database_rules cat db) (database_created db next) c r Nothing (λ _. refl) (create_database_taken cat db next) is
change_taken cat bars (DropDatabase name cascade) moment next c r is =
    by_rules cat next (drop_database_rules cat bars (lower name) cascade) (database_dropped cat (lower name)) c r Nothing (λ _. refl) (drop_database_taken cat bars (lower name) cascade next) is
change_taken cat bars (GetDatabases pattern) moment next c r is = no_change _ None c r _ is
change_taken cat bars (AlterDatabase name db) moment next c r is =
    by_rules cat next (alter_database_rules cat bars (lower name) db) (database_altered cat (lower name) db) c r Nothing (λ _. refl) (alter_database_taken cat bars (lower name) db next) is
change_taken cat bars (CreateTable new) moment next c r is = by_rules cat next (create_table_rules cat bars new) (table_created cat new moment next) c r Nothing (λ _. refl) (create_table_taken cat bars new moment next) is
change_taken cat bars (DropTable db name) moment next c r is =
    by_rules cat next (drop_table_rules cat bars (lower db) (lower name)) (table_dropped cat (lower db) (lower name)) c r Nothing (λ _. refl) (drop_table_taken cat bars (lower db) (lower name) next) is
change_taken cat bars (GetTables db pattern) moment next c r is = no_change _ None c r _ is
change_taken cat bars (GetAllTables db) moment next c r is = no_change _ None c r _ is
change_taken cat bars (GetTable db name) moment next c r is = no_change _ (breaks cat bars (GetTable db name)) c r _ is
change_taken cat bars (GetTableReq db name) moment next c r is = no_change _ (breaks cat bars (GetTableReq db name)) c r _ is
change_taken cat bars (GetTableObjectsByName db names) moment next c r is = no_change _ None c r _ is
change_taken cat bars (AlterTable db name new) moment next c r is =
    by_rules cat next (alter_table_rules cat bars (lower db) (lower name) new) (table_altered cat (lower db) (lower name) new moment) c r Nothing (alter_table_makes cat bars (lower db) (lower name) new moment) (alter_table_taken cat bars (lower db) (lower name) new moment next) is
change_taken cat bars (GetFields db name) moment next c r is = no_change _ (breaks cat bars (GetFields db name)) c r _ is
change_taken cat bars (GetSchema db name) moment next c r is = no_change _ (breaks cat bars (GetSchema db name)) c r _ is
change_taken cat bars (AddPartition part) moment next c r is = list_taken true false cat bars part.db part.table (part ∷ []) moment next c r _ is
change_taken cat bars (AddPartitions []) moment next c r is = no_change _ None c r _ is
change_taken cat bars (AddPartitions (first ∷ more)) moment next c r is = list_taken true false cat bars first.db first.table (first ∷ more) moment next c r _ is
change_taken cat bars (AddPartitionsReq db name parts if_not_exists need_result) moment next c r is = list_taken false if_not_exists cat bars db name parts moment next c r _ is
change_taken cat bars (AppendPartition db name values) moment next c r is = append_call_taken cat bars (lower db) (lower name) (by_values values) moment next c r _ is
change_taken cat bars (AppendPartitionByName db name called) moment next c r is = append_call_taken cat bars (lower db) (lower name) (by_name called) moment next c r _ is
change_taken cat bars (DropPartition db name values) moment next c r is = drop_call_taken cat bars (lower db) (lower name) (by_values values) next c r _ is
change_taken cat bars (DropPartitionByName db name called) moment next c r is = drop_call_taken cat bars (lower db) (lower name) (by_name called) next c r _ is
change_taken cat bars (GetPartition db name values) moment next c r is = no_change _ (breaks cat bars (GetPartition db name values)) c r _ is
change_taken cat bars (GetPartitionByName db name called) moment next c r is = no_change _ (breaks cat bars (GetPartitionByName db name called)) c r _ is
change_taken cat bars (GetPartitions db name max) moment next c r is = no_change _ (breaks cat bars (GetPartitions db name max)) c r _ is
change_taken cat bars (GetPartitionNames db name max) moment next c r is = no_change _ (breaks cat bars (GetPartitionNames db name max)) c r _ is
change_taken cat bars (GetPartitionsPs db name values max) moment next c r is = no_change _ (breaks cat bars (GetPartitionsPs db name values max)) c r _ is
change_taken cat bars (GetPartitionNamesPs db name values max) moment next c r is = no_change _ (breaks cat bars (GetPartitionNamesPs db name values max)) c r _ is
change_taken cat bars (GetPartitionsByNames db name names) moment next c r is = no_change _ (breaks cat bars (GetPartitionsByNames db name names)) c r _ is
change_taken cat bars (AlterPartition db name new) moment next c r is =
    by_any cat next (alter_partition_rules cat bars (lower db) (lower name) new) (alter_due cat (lower db) (lower name) (new ∷ []) moment) c r Nothing (alter_one_taken cat bars (lower db) (lower name) new moment next) is
change_taken cat bars (AlterPartitions db name parts) moment next c r is =
    by_any cat next (alter_partitions_rules cat bars (lower db) (lower name) parts) (alter_due cat (lower db) (lower name) parts moment) c r Nothing (alter_list_taken cat bars (lower db) (lower name) parts moment next) is
change_taken cat bars (RenamePartition db name values new) moment next c r is =
    by_rules cat next (rename_partition_rules cat bars (lower db) (lower name) values new) (partition_renamed cat (lower db) (lower name) values new moment) c r Nothing
    (rename_does cat bars (lower db) (lower name) values new moment) (rename_taken cat bars (lower db) (lower name) values new moment next) is
change_taken cat bars (GetPartitionsByFilter db name filter max) moment next c r is = no_change _ (breaks cat bars (GetPartitionsByFilter db name filter max)) c r _ is
change_taken cat bars (GetNumPartitionsByFilter db name filter) moment next c r is = no_change _ (breaks cat bars (GetNumPartitionsByFilter db name filter)) c r _ is
change_taken cat bars (UpdateTableColumnStatistics new) moment next c r is =
    let at : ℤ = said_at new.desc moment in
    by_unless cat next (update_table_rules cat bars new) new.objects (table_due cat bars next new at) c r (Flag true) (update_table_makes cat bars next new at) (update_table_taken cat bars next new at) is
change_taken cat bars (UpdatePartitionColumnStatistics new) moment next c r is =
    let at : ℤ = said_at new.desc moment in
    by_unless cat next (update_part_rules cat bars new) new.objects (part_due cat bars next new at) c r (Flag true) (update_part_makes cat bars next new at) (update_part_taken cat bars next new at) is
change_taken cat bars (GetTableColumnStatistics db name col) moment next c r is = no_change _ (breaks cat bars (GetTableColumnStatistics db name col)) c r _ is
change_taken cat bars (GetPartitionColumnStatistics db name called col) moment next c r is = no_change _ (breaks cat bars (GetPartitionColumnStatistics db name called col)) c r _ is
change_taken cat bars (DeleteTableColumnStatistics db name col) moment next c r is =
    by_rules cat next (delete_table_rules cat bars (lower db) (lower name) col) (table_deleted cat (lower db) (lower name) col) c r (Flag true) (delete_table_makes cat bars next (lower db) (lower name) col) (delete_table_taken cat bars next (lower db) (lower name) col) is
change_taken cat bars (DeletePartitionColumnStatistics db name called col) moment next c r is =
    by_rules cat next (delete_part_rules cat bars (lower db) (lower name) called col) (part_deleted cat (lower db) (lower name) called col) c r (Flag true) (delete_part_makes cat bars next (lower db) (lower name) col called) (delete_part_taken cat bars next (lower db) (lower name) col called) is
change_taken cat bars (GetTableStatisticsReq db name cols) moment next c r is = no_change _ (breaks cat bars (GetTableStatisticsReq db name cols)) c r _ is
change_taken cat bars (GetNextNotification last max) moment next c r is = no_change _ None c r _ is
change_taken cat bars GetCurrentNotificationEventId moment next c r is = no_change _ None c r _ is

-- what is told of a decision can be taken
pub all_taken : (cat : Catalogue) (bars : Bars) (call : Call) (moment next : ℕ) (answer : Decided) → Decides (decision cat bars call moment next) answer → IfChange answer (λ c. takes_call cat next c ≡ true)
all_taken cat bars call moment next (decided.Change c r) is = change_taken cat bars call moment next c r is
all_taken cat bars call moment next (decided.Reply r) is = tt
all_taken cat bars call moment next decided.NoMemory is = tt
