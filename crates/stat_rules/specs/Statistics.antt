-- The calls on statistics of columns: their rules, what they change, and what they result in.
use Rattle.std.specs.Prelude.{ℕ, Bool, false, not, ◌&&◌, List, [], ◌∷◌, Option, None, Some, is_some, ℤ}
use Rattle.cat_values.specs.declared.records.PartRec.{PartRec}
use Rattle.cat_values.specs.declared.storage.Column.{Column}
use Rattle.cat_types.specs.declared.arguments.StatArg.{StatArg}
use Rattle.cat_types.specs.declared.arguments.StatsArg.{StatsArg}
use Rattle.cat_types.specs.declared.arguments.StatsDesc.{StatsDesc}
use Rattle.cat_types.specs.declared.changes.Change.{Change}
use Rattle.cat_types.specs.declared.changes.EventKind.TheVariants as kind
use Rattle.cat_types.specs.declared.changes.Op.{Op}
use Rattle.cat_types.specs.declared.changes.Op.TheVariants.{PutPart, PutTable}
use Rattle.cat_types.specs.declared.named.NamedStat.{NamedStat}
use Rattle.cat_types.specs.declared.replies.Reply.{Reply}
use Rattle.cat_types.specs.declared.replies.Reply.TheVariants.{ColumnStats, Stats}
use Rattle.cat_objects.specs.Catalogue.{Catalogue, at_name, has_table, part, parts_of, table}
use Rattle.cat_objects.specs.Changes.{is_lawful_table}
use Rattle.cat_objects.specs.Parts.{at_values}
use Rattle.cat_objects.specs.declared.held.HeldTable.{HeldTable}
use Rattle.part_names.specs.Making.{part_name}
use Rattle.part_names.specs.Reading.{vals}
use Rattle.rulings.specs.Bars.{is_replica}
use Rattle.rulings.specs.Changes.{in_table, may_have, part_change, table_born}
use Rattle.rulings.specs.Meant.{key_names, spells_keys, table_keys}
use Rattle.rulings.specs.Names.{kept_name, names_database, names_table}
use Rattle.rulings.specs.Rules.{Rule}
use Rattle.rulings.specs.declared.bars.Bars.{Bars}
use Rattle.rulings.specs.declared.refusal.Refusal.TheVariants.{InvalidInput, InvalidObject, IsReplica, NoSuchObject}
use Rattle.stat_rules.specs.Records.{StatMap, has_stats, part_with, put_all, stats_asked, table_with, taken_at, takes_all, told_stat, without_stats}

-- ---- of what statistics are handed in

-- it is said that they are a table's
abbrev pub are_of_table : Option StatsDesc → Bool
are_of_table None = false
are_of_table (Some desc) = desc.table_level

-- it is said that they are a partition's, and of which
abbrev pub are_of_part : Option StatsDesc → Bool
are_of_part None = false
are_of_part (Some desc) = not desc.table_level && is_some desc.part

-- the names that were said, where there are any
abbrev pub said_db : Option StatsDesc → Option (List ℕ)
said_db None = None
said_db (Some desc) = desc.db

abbrev pub said_table : Option StatsDesc → Option (List ℕ)
said_table None = None
said_table (Some desc) = desc.table

abbrev pub said_part : Option StatsDesc → Option (List ℕ)
said_part None = None
said_part (Some desc) = desc.part

-- when they were taken
abbrev pub said_at : Option StatsDesc → ℕ → ℤ
said_at None moment = taken_at None moment
said_at (Some desc) moment = taken_at desc.analyzed moment

-- ---- what is changed

-- the operation that changes the statistics of a table that is there so
abbrev pub table_given : Option HeldTable → List ℕ → (StatMap → StatMap) → List Op
table_given None name change = []
table_given (Some held) name change = PutTable name held.born (table_with (change held.rec.stats) held.rec) ∷ []

-- the change of a table's statistics
abbrev pub table_changed : Catalogue → List ℕ → List ℕ → (StatMap → StatMap) → Change
table_changed cat db name change = part_change kind.AlterTable cat db (table_given (table cat db name) name change)

-- the operation that changes the statistics of a partition that is there so
abbrev pub part_given : Option PartRec → List ℕ → ℕ → List (List ℕ) → (StatMap → StatMap) → List Op
part_given None name born values change = []
part_given (Some rec) name born values change = PutPart name born values (part_with (change rec.stats) rec) ∷ []

-- the change of the statistics of a partition with these values
abbrev pub part_changed : Catalogue → List ℕ → List ℕ → List (List ℕ) → (StatMap → StatMap) → Change
part_changed cat db name values change = part_change kind.AlterPartition cat db (part_given (part cat db name values) name (table_born (table cat db name)) values change)

-- where nothing is handed in, nothing changes
abbrev pub unless_empty : List StatArg → Change → Option Change
unless_empty [] change = None
unless_empty (object ∷ objects) change = Some change

-- a table that is there may be put as it is, which holds of all that calls put
abbrev pub may_put : Option HeldTable → List ℕ → Bool
may_put None name = false
may_put (Some held) name = is_lawful_table name held.rec

-- ---- updating

-- each of the handed-in statistics is one that a table that is there takes
abbrev pub are_taken : Option HeldTable → List StatArg → Bool
are_taken None objects = false
are_taken (Some held) objects = takes_all held.rec objects

-- statistics are put in a database that is named, there and no replica, in a table that is named and there; behind these come the other rules
abbrev pub in_named_table : Catalogue → Bars → Option (List ℕ) → Option (List ℕ) → List Rule → List Rule
in_named_table cat bars db name others = (not (names_database cat db), NoSuchObject) ∷ (is_replica bars (kept_name db), IsReplica) ∷ (not (names_table cat db name), NoSuchObject) ∷ others

-- a table at which statistics are put may be put itself, and takes each of them
abbrev pub put_at_rules : Option HeldTable → List ℕ → List StatArg → List Rule
put_at_rules held name objects = (not (may_put held name), NoSuchObject) ∷ (not (are_taken held objects), InvalidObject) ∷ []

abbrev pub put_at_table_rules : Catalogue → Bars → Option (List ℕ) → Option (List ℕ) → List StatArg → List Rule
put_at_table_rules cat bars db name objects = in_named_table cat bars db name (put_at_rules (table cat (kept_name db) (kept_name name)) (kept_name name) objects)

-- an update of a table's statistics says that they are a table's, and of which
abbrev pub update_table_rules : Catalogue → Bars → StatsArg → List Rule
update_table_rules cat bars new = (not (are_of_table new.desc), InvalidInput) ∷ put_at_table_rules cat bars (said_db new.desc) (said_table new.desc) new.objects

-- the change that puts them, where there are any
abbrev pub put_at_table : Catalogue → Option (List ℕ) → Option (List ℕ) → List StatArg → ℤ → Option Change
put_at_table cat db name objects at = unless_empty objects (table_changed cat (kept_name db) (kept_name name) (λ stats. put_all at stats objects))

abbrev pub table_updated : Catalogue → StatsArg → ℕ → Option Change
table_updated cat new moment = put_at_table cat (said_db new.desc) (said_table new.desc) new.objects (said_at new.desc moment)

-- a partition that is named is one of these values, if the name can be read and has the table's keys, in their order; behind this come the rules of what is done there
abbrev pub by_its_name : Option HeldTable → List ℕ → List Rule → List Rule
by_its_name held called others = (not (spells_keys (table_keys held) called), NoSuchObject) ∷ others

-- a partition at which statistics are put is there, with values that its table can have, as all that is there has; and its table takes each of them
abbrev pub put_at_values_rules : Option HeldTable → List (List ℕ) → List StatArg → List Rule
put_at_values_rules held values objects = (not (is_some (at_values values (parts_of held))), NoSuchObject) ∷ (not (may_have held values), NoSuchObject) ∷ (not (are_taken held objects), InvalidObject) ∷ []

abbrev pub put_in_rules : Option HeldTable → List ℕ → List StatArg → List Rule
put_in_rules held called objects = by_its_name held called (put_at_values_rules held (vals called) objects)

abbrev pub put_at_part_rules : Catalogue → Bars → Option (List ℕ) → Option (List ℕ) → List ℕ → List StatArg → List Rule
put_at_part_rules cat bars db name called objects = in_named_table cat bars db name (put_in_rules (table cat (kept_name db) (kept_name name)) called objects)

-- the text that was said, and none where it wasn't
abbrev pub said_text : Option (List ℕ) → List ℕ
said_text None = []
said_text (Some text) = text

-- an update of a partition's statistics says that they are a partition's, and of which
abbrev pub update_part_rules : Catalogue → Bars → StatsArg → List Rule
update_part_rules cat bars new =
    (not (are_of_part new.desc), InvalidInput) ∷ put_at_part_rules cat bars (said_db new.desc) (said_table new.desc) (said_text (said_part new.desc)) new.objects

-- the change that puts them, where there are any
abbrev pub put_at_part : Catalogue → Option (List ℕ) → Option (List ℕ) → List ℕ → List StatArg → ℤ → Option Change
put_at_part cat db name called objects at = unless_empty objects (part_changed cat (kept_name db) (kept_name name) (vals called) (λ stats. put_all at stats objects))

abbrev pub part_updated : Catalogue → StatsArg → ℕ → Option Change
part_updated cat new moment = put_at_part cat (said_db new.desc) (said_table new.desc) (said_text (said_part new.desc)) new.objects (said_at new.desc moment)

-- ---- deleting

-- the statistics of a table that is there
abbrev pub stats_of : Option HeldTable → StatMap
stats_of None = []
stats_of (Some held) = held.rec.stats

-- the statistics of a partition that is there
abbrev pub part_stats : Option PartRec → StatMap
part_stats None = []
part_stats (Some rec) = rec.stats

-- a table whose statistics are deleted may be put, and has some
abbrev pub delete_at_rules : Option HeldTable → List ℕ → Option (List ℕ) → List Rule
delete_at_rules held name col = (not (may_put held name), NoSuchObject) ∷ (not (has_stats col (stats_of held)), NoSuchObject) ∷ []

-- it is there, in a database that is there and no replica
abbrev pub delete_table_rules : Catalogue → Bars → List ℕ → List ℕ → Option (List ℕ) → List Rule
delete_table_rules cat bars db name col = in_table NoSuchObject cat bars db name (delete_at_rules (table cat db name) name col)

-- the change that deletes them
abbrev pub table_deleted : Catalogue → List ℕ → List ℕ → Option (List ℕ) → Change
table_deleted cat db name col = table_changed cat db name (without_stats col)

-- a partition whose statistics are deleted is there, with values that its table can have, and has some
abbrev pub delete_at_values_rules : Option HeldTable → List (List ℕ) → Option (List ℕ) → List Rule
delete_at_values_rules held values col =
    (not (is_some (at_values values (parts_of held))), NoSuchObject) ∷ (not (may_have held values), NoSuchObject) ∷ (not (has_stats col (part_stats (at_values values (parts_of held)))), NoSuchObject) ∷ []

abbrev pub delete_in_rules : Option HeldTable → List ℕ → Option (List ℕ) → List Rule
delete_in_rules held called col = by_its_name held called (delete_at_values_rules held (vals called) col)

-- its table is there, in a database that is there and no replica
abbrev pub delete_part_rules : Catalogue → Bars → List ℕ → List ℕ → List ℕ → Option (List ℕ) → List Rule
delete_part_rules cat bars db name called col = in_table NoSuchObject cat bars db name (delete_in_rules (table cat db name) called col)

abbrev pub part_deleted : Catalogue → List ℕ → List ℕ → List ℕ → Option (List ℕ) → Change
part_deleted cat db name called col = part_changed cat db name (vals called) (without_stats col)

-- ---- reading

-- the columns of a table that is there
abbrev pub table_cols : Option HeldTable → List Column
table_cols None = []
table_cols (Some held) = held.rec.sd.cols

-- a column's statistics that are asked for are there, of a table that is there
abbrev pub get_here_rules : Option HeldTable → List ℕ → List Rule
get_here_rules held col = (not (is_some (at_name col (stats_of held))), NoSuchObject) ∷ []

abbrev pub get_table_stat_rules : Catalogue → List ℕ → List ℕ → List ℕ → List Rule
get_table_stat_rules cat db name col = (not (has_table cat db name), NoSuchObject) ∷ get_here_rules (table cat db name) col

-- a table's statistics of one column
abbrev pub table_stat_in : Option HeldTable → List ℕ → List ℕ → List ℕ → Reply
table_stat_in held db name col = ColumnStats db name None (told_stat (at_name col (stats_of held)) (table_cols held) col)

abbrev pub table_stat : Catalogue → List ℕ → List ℕ → List ℕ → Reply
table_stat cat db name col = table_stat_in (table cat db name) db name col

-- a column's statistics that are asked for are there, of a partition that is there
abbrev pub get_at_values_rules : Option HeldTable → List (List ℕ) → List ℕ → List Rule
get_at_values_rules held values col = (not (is_some (at_values values (parts_of held))), NoSuchObject) ∷ (not (is_some (at_name col (part_stats (at_values values (parts_of held))))), NoSuchObject) ∷ []

abbrev pub get_in_rules : Option HeldTable → List ℕ → List ℕ → List Rule
get_in_rules held called col = by_its_name held called (get_at_values_rules held (vals called) col)

abbrev pub get_part_stat_rules : Catalogue → List ℕ → List ℕ → List ℕ → List ℕ → List Rule
get_part_stat_rules cat db name called col = (not (has_table cat db name), NoSuchObject) ∷ get_in_rules (table cat db name) called col

-- a partition's statistics of one column, with the partition's own name and the type that its table has for the column
abbrev pub part_stat_in : Option HeldTable → List ℕ → List ℕ → List (List ℕ) → List ℕ → Reply
part_stat_in held db name values col =
    ColumnStats db name (Some (part_name (key_names (table_keys held)) values)) (told_stat (at_name col (part_stats (at_values values (parts_of held)))) (table_cols held) col)

abbrev pub part_stat : Catalogue → List ℕ → List ℕ → List ℕ → List ℕ → Reply
part_stat cat db name called col = part_stat_in (table cat db name) db name (vals called) col

-- a table whose statistics are asked for by a request is named and there
abbrev pub get_stats_rules : Catalogue → Option (List ℕ) → Option (List ℕ) → List Rule
get_stats_rules cat db name = (not (names_table cat db name), NoSuchObject) ∷ []

-- the statistics that there are of the columns that are asked for
abbrev pub stats_told : Option HeldTable → List (List ℕ) → List NamedStat
stats_told None names = []
stats_told (Some held) names = stats_asked held.rec names

abbrev pub requested_stats : Catalogue → Option (List ℕ) → Option (List ℕ) → List (List ℕ) → Reply
requested_stats cat db name names = Stats (stats_told (table cat (kept_name db) (kept_name name)) names)
