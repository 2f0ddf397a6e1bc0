-- The calls that add, drop, alter and rename partitions: their rules, what they change, and what they result in.
use Rattle.std.specs.Prelude.{ℕ, nat_le, Bool, false, not, ◌&&◌, List, [], ◌∷◌, length, Option, None, Some, is_some, if◌then◌else◌, ◌++◌, map, true, pos, ◌+◌, ◌||◌}
use Rattle.std.specs.Cmp.Lexicographic.{pointwise}
use Rattle.std.specs.List.{list_any}
use Rattle.std.specs.Str.{bytes_eq}
use Rattle.cat_objects.specs.Catalogue.{Catalogue, table, part, parts_of, has_part}
use Rattle.cat_objects.specs.Parts.{PartList, at_values, are_values}
use Rattle.cat_objects.specs.declared.held.HeldTable.{HeldTable}
use Rattle.cat_types.specs.declared.arguments.PartArg.{PartArg}
use Rattle.cat_types.specs.declared.changes.Change.{Change}
use Rattle.cat_types.specs.declared.changes.EventKind.TheVariants as kind
use Rattle.cat_types.specs.declared.changes.EventKind.{EventKind}
use Rattle.cat_types.specs.declared.changes.Op.TheVariants.{DropPart, MovePart, PutPart}
use Rattle.cat_types.specs.declared.changes.Op.{Op}
use Rattle.cat_types.specs.declared.replies.Reply.TheVariants.{Nothing, Parts, Number}
use Rattle.cat_types.specs.declared.replies.Reply.{Reply}
use Rattle.cat_values.specs.Names.{lower}
use Rattle.cat_values.specs.declared.records.PartRec.{PartRec}
use Rattle.kept_records.specs.Partitions.{altered_part, appended_part, made_part}
use Rattle.part_rules.specs.declared.part_adds.Told.TheVariants as told
use Rattle.part_rules.specs.declared.part_adds.Told.{Told}
use Rattle.part_rules.specs.declared.part_site.Site.{Site}
use Rattle.rulings.specs.Bars.{is_replica, is_dumping}
use Rattle.rulings.specs.Changes.{table_born, in_table, part_change, if_any, may_have}
use Rattle.rulings.specs.Listed.{all_named}
use Rattle.rulings.specs.Meant.{Meaning, stored_values, table_keys, meant_values, may_mean, holds_meant}
use Rattle.rulings.specs.Names.{kept_name, names_database, names_table}
use Rattle.rulings.specs.Rules.{Rule}
use Rattle.rulings.specs.declared.bars.Bars.{Bars}
use Rattle.rulings.specs.declared.refusal.Refusal.TheVariants.{AlreadyExists, InvalidObject, InvalidOperation, IsReplica, NoSuchObject}

-- ---- adding

-- these values stand already, or a partition that the same call adds earlier has them
abbrev pub is_taken : Option HeldTable → List (List (List ℕ)) → List (List ℕ) → Bool
is_taken held earlier values = list_any (are_values values) earlier || is_some (at_values values (parts_of held))

-- a table has a million partitions, those that the same call adds earlier among them
abbrev pub is_full : Option HeldTable → List (List (List ℕ)) → Bool
is_full held earlier = nat_le 1000000 (length earlier + length (parts_of held))

-- a partition that is added has values that the table can have and that are free, and the table has fewer than a million
abbrev pub new_part_rules : Option HeldTable → List (List ℕ) → List Rule
new_part_rules held values = (not (may_have held values), InvalidObject) ∷ (is_taken held [] values, AlreadyExists) ∷ (is_full held [], InvalidObject) ∷ []

-- the values of partitions
abbrev pub values_of : PartList → List (List (List ℕ))
values_of parts = map (λ part. part.0) parts

-- the operations that put partitions under a table of this name and born
abbrev pub ops_under : List ℕ → ℕ → PartList → List Op
ops_under name born parts = map (λ part. PutPart name born part.0 part.1) parts

-- the change that puts these partitions, where there are any
abbrev pub parts_put : EventKind → Catalogue → List ℕ → List ℕ → PartList → Option Change
parts_put kind cat db name parts = if_any (part_change kind cat db (ops_under name (table_born (table cat db name)) parts))

-- the change that adds partitions to a table that was found, where there are any
abbrev pub put_here : Site → PartList → Option Change
put_here site parts = if_any (record { kind = kind.AddPartition; db = site.db.now; db_born = site.db_born; ops = ops_under site.name.now site.held.now.born parts })

-- what is told of partitions that were added: all of them with their names, or how many they are, or nothing
abbrev pub added_as : Told → List ℕ → List ℕ → PartList → Reply
added_as told.All db name parts = Parts (all_named db name parts)
added_as told.Count db name parts = Number (pos (length parts))
added_as told.Nothing db name parts = Nothing

-- ---- appending

-- a partition that is appended is meant so that it can be one of the table, and is one that may be added
abbrev pub append_partition_rules : Catalogue → Bars → List ℕ → List ℕ → Meaning → List Rule
append_partition_rules cat bars db name meant =
    in_table InvalidObject cat bars db name
    ((not (may_mean (table_keys (table cat db name)) meant), InvalidObject) ∷ new_part_rules (table cat db name) (meant_values meant))

-- what is appended to a table that is there: one partition, made of the table
abbrev pub appended : Option HeldTable → List (List ℕ) → ℕ → PartList
appended None values moment = []
appended (Some held) values moment = (values, appended_part held.rec moment) ∷ []

abbrev pub partition_appended : Catalogue → List ℕ → List ℕ → List (List ℕ) → ℕ → Option Change
partition_appended cat db name values moment = parts_put kind.AddPartition cat db name (appended (table cat db name) values moment)

abbrev pub appended_as : Catalogue → List ℕ → List ℕ → List (List ℕ) → ℕ → Reply
appended_as cat db name values moment = added_as told.All db name (appended (table cat db name) values moment)

-- ---- adding a list

-- a name is handed in that isn't this one; where it needs to be there, also none
abbrev pub names_other : Bool → Option (List ℕ) → List ℕ → Bool
names_other needs None name = needs
names_other needs (Some other) name = not (bytes_eq (lower other) name)

-- a partition is handed in for another database or table
abbrev pub is_elsewhere : Bool → List ℕ → List ℕ → PartArg → Bool
is_elsewhere needs db name new = names_other needs new.db db || names_other needs new.table name

-- the values that stand before what comes behind a partition: also its own, unless it is passed over
abbrev pub behind : Option HeldTable → List (List (List ℕ)) → List (List ℕ) → List (List (List ℕ))
behind held earlier values = if is_taken held earlier values then earlier else earlier ++ values ∷ []

-- one of the partitions that are added belongs to the table, has values that it can have, and that are free unless such are passed over; and where it is added, the table has fewer than a million
abbrev pub one_added_rules : Bool → Bool → Option HeldTable → List ℕ → List ℕ → List (List (List ℕ)) → PartArg → List Rule
one_added_rules needs passes held db name earlier new =
    (is_elsewhere needs db name new, InvalidObject)
    ∷ (not (may_have held (stored_values new.values)), InvalidObject)
    ∷ (is_taken held earlier (stored_values new.values) && not passes, AlreadyExists)
    ∷ (not (is_taken held earlier (stored_values new.values)) && is_full held earlier, InvalidObject)
    ∷ []

-- all of them so, in their order
abbrev pub each_added_rules : Bool → Bool → Option HeldTable → List ℕ → List ℕ → List (List (List ℕ)) → List PartArg → List Rule
each_added_rules needs passes held db name earlier [] = []
each_added_rules needs passes held db name earlier (new ∷ more) =
    one_added_rules needs passes held db name earlier new ++ each_added_rules needs passes held db name (behind held earlier (stored_values new.values)) more

-- one of them as it is kept, unless it is passed over
abbrev pub one_added : Option HeldTable → List (List (List ℕ)) → PartArg → ℕ → PartList
one_added held earlier new moment = if is_taken held earlier (stored_values new.values) then [] else (stored_values new.values, made_part new.rec moment) ∷ []

-- all that are added of a list, in its order
abbrev pub added : Option HeldTable → List (List (List ℕ)) → List PartArg → ℕ → PartList
added held earlier [] moment = []
added held earlier (new ∷ more) moment = one_added held earlier new moment ++ added held (behind held earlier (stored_values new.values)) more moment

-- partitions are added to a table that is named and there, in a database that is no replica
abbrev pub add_list_rules : Bool → Bool → Catalogue → Bars → Option (List ℕ) → Option (List ℕ) → List PartArg → List Rule
add_list_rules needs passes cat bars db name parts =
    (not (names_database cat db), InvalidObject)
    ∷ (is_replica bars (kept_name db), IsReplica)
    ∷ (not (names_table cat db name), InvalidObject)
    ∷ each_added_rules needs passes (table cat (kept_name db) (kept_name name)) (kept_name db) (kept_name name) [] parts

-- those of a list that are added to the named table
abbrev pub list_added : Catalogue → Option (List ℕ) → Option (List ℕ) → List PartArg → ℕ → PartList
list_added cat db name parts moment = added (table cat (kept_name db) (kept_name name)) [] parts moment

-- the change that adds them, where there are any
abbrev pub list_change : Catalogue → Option (List ℕ) → Option (List ℕ) → List PartArg → ℕ → Option Change
list_change cat db name parts moment = parts_put kind.AddPartition cat (kept_name db) (kept_name name) (list_added cat db name parts moment)

-- what is told of them
abbrev pub list_told : Told → Catalogue → Option (List ℕ) → Option (List ℕ) → List PartArg → ℕ → Reply
list_told what cat db name parts moment = added_as what (kept_name db) (kept_name name) (list_added cat db name parts moment)

-- partitions without a table of their own go to the one that the first of them names, and each names it; without any nothing is added
abbrev pub add_partitions_rules : Catalogue → Bars → List PartArg → List Rule
add_partitions_rules cat bars [] = []
add_partitions_rules cat bars (first ∷ more) = add_list_rules true false cat bars first.db first.table (first ∷ more)

abbrev pub partitions_added : Catalogue → List PartArg → ℕ → Option Change
partitions_added cat [] moment = None
partitions_added cat (first ∷ more) moment = list_change cat first.db first.table (first ∷ more) moment

-- how many partitions without a table of their own were added
abbrev pub count_added : Catalogue → List PartArg → ℕ → Reply
count_added cat [] moment = Number (pos 0)
count_added cat (first ∷ more) moment = list_told told.Count cat first.db first.table (first ∷ more) moment

-- all are told where they are wanted
abbrev pub told_if : Bool → Told
told_if wanted = if wanted then told.All else told.Nothing

-- ---- dropping

-- a partition that is dropped is there
abbrev pub drop_partition_rules : Catalogue → Bars → List ℕ → List ℕ → Meaning → List Rule
drop_partition_rules cat bars db name meant = in_table NoSuchObject cat bars db name ((not (holds_meant (table cat db name) meant), NoSuchObject) ∷ [])

abbrev pub partition_dropped : Catalogue → List ℕ → List ℕ → List (List ℕ) → Change
partition_dropped cat db name values = part_change kind.DropPartition cat db (DropPart name (table_born (table cat db name)) values ∷ [])

-- ---- altering

-- a partition that is altered is there, with values that its table can have, as all that is there has
abbrev pub alter_partition_rules : Catalogue → Bars → List ℕ → List ℕ → PartArg → List Rule
alter_partition_rules cat bars db name new =
    in_table InvalidOperation cat bars db name
    ((not (has_part cat db name (stored_values new.values)), InvalidOperation) ∷ (not (may_have (table cat db name) (stored_values new.values)), InvalidOperation) ∷ [])

-- a partition that is there with its other record
abbrev pub altered_at : Option PartRec → List (List ℕ) → PartRec → ℕ → PartList
altered_at None values rec moment = []
altered_at (Some old) values rec moment = (values, altered_part old rec moment) ∷ []

-- partitions that are there with their other records, in the order of the list
abbrev pub all_altered : Option HeldTable → List PartArg → ℕ → PartList
all_altered held [] moment = []
all_altered held (new ∷ more) moment = altered_at (at_values (stored_values new.values) (parts_of held)) (stored_values new.values) new.rec moment ++ all_altered held more moment

-- the change that gives partitions their other records, where there are any
abbrev pub parts_altered : Catalogue → List ℕ → List ℕ → List PartArg → ℕ → Option Change
parts_altered cat db name parts moment = parts_put kind.AlterPartition cat db name (all_altered (table cat db name) parts moment)

-- each partition of a list that is altered is there, with values that its table can have, and stands in the list once
abbrev pub each_altered_rules : Option HeldTable → List (List (List ℕ)) → List PartArg → List Rule
each_altered_rules held earlier [] = []
each_altered_rules held earlier (new ∷ more) =
    (not (is_some (at_values (stored_values new.values) (parts_of held))), InvalidOperation)
    ∷ (not (may_have held (stored_values new.values)), InvalidOperation)
    ∷ (list_any (are_values (stored_values new.values)) earlier, InvalidOperation)
    ∷ each_altered_rules held (earlier ++ stored_values new.values ∷ []) more

abbrev pub alter_partitions_rules : Catalogue → Bars → List ℕ → List ℕ → List PartArg → List Rule
alter_partitions_rules cat bars db name parts = in_table InvalidOperation cat bars db name (each_altered_rules (table cat db name) [] parts)

-- ---- renaming

-- a partition gets other values
abbrev pub revalues : List (List ℕ) → PartArg → Bool
revalues values new = not (pointwise bytes_eq (stored_values new.values) (stored_values values))

-- a partition that is renamed is there, and its new values are ones that the table can have; with other values no bootstrap dump of the database is open, and they are free
abbrev pub rename_partition_rules : Catalogue → Bars → List ℕ → List ℕ → List (List ℕ) → PartArg → List Rule
rename_partition_rules cat bars db name values new =
    in_table InvalidOperation cat bars db name
    ((not (has_part cat db name (stored_values values)), InvalidOperation)
    ∷ (not (may_have (table cat db name) (stored_values new.values)), InvalidOperation)
    ∷ (revalues values new && is_dumping bars db, InvalidOperation)
    ∷ (revalues values new && has_part cat db name (stored_values new.values), InvalidOperation)
    ∷ [])

-- the operation that gives a partition that is there another record, at its values or at other ones
abbrev pub renaming : Option PartRec → List ℕ → ℕ → List (List ℕ) → PartArg → ℕ → List Op
renaming None name born values new moment = []
renaming (Some old) name born values new moment =
    if revalues values new then MovePart name born (stored_values values) (stored_values new.values) (altered_part old new.rec moment) ∷ []
    else PutPart name born (stored_values values) (altered_part old new.rec moment) ∷ []

abbrev pub partition_renamed : Catalogue → List ℕ → List ℕ → List (List ℕ) → PartArg → ℕ → Change
partition_renamed cat db name values new moment =
    part_change kind.AlterPartition cat db (renaming (part cat db name (stored_values values)) name (table_born (table cat db name)) values new moment)
