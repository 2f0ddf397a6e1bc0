-- What the calls that change statistics of columns change can be taken.
use Rattle.std.proofs.Common.{◌≡◌, ◌==◌, ℕ, true, false, not, List, length, Option, Some, None, is_some, nat_le, refl, ap, ◌∙◌, eq-eqb}
use Rattle.std.specs.Prelude.{ℤ}
use Rattle.cat_types.specs.declared.arguments.StatsArg.{StatsArg}
use Rattle.cat_types.specs.declared.changes.Change.{Change}
use Rattle.cat_types.specs.declared.changes.EventKind.TheVariants as kind
use Rattle.cat_types.specs.declared.changes.Op.{Op}
use Rattle.cat_types.specs.declared.changes.Op.TheVariants.{PutPart, PutTable}
use Rattle.cat_values.specs.declared.records.PartRec.{PartRec}
use Rattle.cat_values.specs.declared.records.TableRec.{TableRec}
use Rattle.cat_objects.specs.Catalogue.{Catalogue, database, has_database, part, table}
use Rattle.cat_objects.specs.Changes.{are_some, can_hold, fits_op, fits_over, has_operation, is_lawful_table, takes_call}
use Rattle.cat_objects.specs.declared.held.HeldTable.{HeldTable}
use Rattle.part_names.specs.Reading.{vals}
use Rattle.rulings.specs.Changes.{born_of, may_have, part_change, table_born}
use Rattle.rulings.specs.Names.{kept_name, names_database}
use Rattle.rulings.specs.Rules.{first_broken}
use Rattle.rulings.specs.declared.bars.Bars.{Bars}
use Rattle.rulings.proofs.Rules.{both, call_taken, fits_there, holds, unbroken}
use Rattle.stat_rules.specs.Records.{StatMap, part_with, put_all, table_with, without_stats}
use Rattle.stat_rules.specs.Statistics.{delete_part_rules, delete_table_rules, may_put, part_changed, part_deleted, part_given, said_db, said_part, said_table, said_text, table_changed, table_deleted, table_given, update_part_rules, update_table_rules}

-- ---- what is there

named_there : (cat : Catalogue) (name : Option (List ℕ)) → not (names_database cat name) ≡ false → not (has_database cat (kept_name name)) ≡ false
named_there cat None is = absurd cc
named_there cat (Some name) is = is

can_hold_it : (held : Option HeldTable) (values : List (List ℕ)) → not (may_have held values) ≡ false → can_hold (table_born held) values held ≡ true
can_hold_it None values is = absurd cc
can_hold_it (Some held) values is = holds (may_have (Some held) values) is

-- ---- a table's statistics

-- the change of statistics of a table that may be put has an operation
table_makes : (held : Option HeldTable) (name : List ℕ) (change : StatMap → StatMap) → not (may_put held name) ≡ false → are_some (table_given held name change) ≡ true
table_makes None name change may = absurd cc
table_makes (Some held) name change may = refl

-- and can be taken
table_taken : (cat : Catalogue) (db name : List ℕ) (change : StatMap → StatMap) (next : ℕ) (held : Option HeldTable) → table cat db name ≡ held → not (has_database cat db) ≡ false → not (may_put held name) ≡ false → nat_le next 9223372036854775807 ≡ true
    → takes_call cat next (table_changed cat db name change) ≡ true
table_taken cat db name change next None is there may room = absurd cc
table_taken cat db name change next (Some held) is there may room =
    let rec_kept : TableRec = table_with (change held.rec.stats) held.rec in
    let op : Op = PutTable name held.born rec_kept in
    let over : fits_over held.born rec_kept (table cat db name) ≡ true =
    ap (λ (o : Option HeldTable). fits_over held.born rec_kept o) is
    ∙ both (held.born == held.born) (length held.rec.keys == length held.rec.keys) (eq-eqb held.born held.born refl) (eq-eqb (length held.rec.keys) (length held.rec.keys) refl) in
    let fits : fits_op cat db op ≡ true = both (is_lawful_table name rec_kept) (fits_over held.born rec_kept (table cat db name)) (holds (is_lawful_table name held.rec) may) over in
    ap (λ (o : Option HeldTable). takes_call cat next (part_change kind.AlterTable cat db (table_given o name change))) is
    ∙ call_taken cat kind.AlterTable db (born_of (database cat db)) op next room (fits_there cat kind.AlterTable db op there fits)

-- ---- a partition's statistics

part_makes : (old : Option PartRec) (name : List ℕ) (born : ℕ) (values : List (List ℕ)) (change : StatMap → StatMap) → not (is_some old) ≡ false → are_some (part_given old name born values change) ≡ true
part_makes None name born values change is = absurd cc
part_makes (Some rec) name born values change is = refl

part_taken : (cat : Catalogue) (db name : List ℕ) (values : List (List ℕ)) (change : StatMap → StatMap) (next : ℕ) (old : Option PartRec) → part cat db name values ≡ old → not (has_database cat db) ≡ false → not (is_some old) ≡ false
    → not (may_have (table cat db name) values) ≡ false → nat_le next 9223372036854775807 ≡ true → takes_call cat next (part_changed cat db name values change) ≡ true
part_taken cat db name values change next None is there stands may room = absurd cc
part_taken cat db name values change next (Some rec) is there stands may room =
    let op : Op = PutPart name (table_born (table cat db name)) values (part_with (change rec.stats) rec) in
    ap (λ (o : Option PartRec). takes_call cat next (part_change kind.AlterPartition cat db (part_given o name (table_born (table cat db name)) values change))) is
    ∙ call_taken cat kind.AlterPartition db (born_of (database cat db)) op next room (fits_there cat kind.AlterPartition db op there (can_hold_it (table cat db name) values may))

-- ---- the calls

module _ (cat : Catalogue) (bars : Bars) (next : ℕ) where
  module _ (new : StatsArg) (at : ℤ) where
    -- what an accepted update of a table's statistics changes, where statistics are handed in
    abbrev pub table_due : Change
    table_due = table_changed cat (kept_name (said_db new.desc)) (kept_name (said_table new.desc)) (λ stats. put_all at stats new.objects)

    pub update_table_makes : first_broken (update_table_rules cat bars new) ≡ None → has_operation table_due ≡ true
    update_table_makes none = table_makes (table cat (kept_name (said_db new.desc)) (kept_name (said_table new.desc))) (kept_name (said_table new.desc)) (λ stats. put_all at stats new.objects) (unbroken (update_table_rules cat bars new) none).1.1.1.1.0

    pub update_table_taken : first_broken (update_table_rules cat bars new) ≡ None → nat_le next 9223372036854775807 ≡ true → takes_call cat next table_due ≡ true
    update_table_taken none room =
        let tests = unbroken (update_table_rules cat bars new) none in
        table_taken cat (kept_name (said_db new.desc)) (kept_name (said_table new.desc)) (λ stats. put_all at stats new.objects) next (table cat (kept_name (said_db new.desc)) (kept_name (said_table new.desc))) refl
        (named_there cat (said_db new.desc) tests.1.0) tests.1.1.1.1.0 room

    -- what an accepted update of a partition's statistics changes, where statistics are handed in
    abbrev pub part_due : Change
    part_due = part_changed cat (kept_name (said_db new.desc)) (kept_name (said_table new.desc)) (vals (said_text (said_part new.desc))) (λ stats. put_all at stats new.objects)

    pub update_part_makes : first_broken (update_part_rules cat bars new) ≡ None → has_operation part_due ≡ true
    update_part_makes none =
        part_makes (part cat (kept_name (said_db new.desc)) (kept_name (said_table new.desc)) (vals (said_text (said_part new.desc)))) (kept_name (said_table new.desc)) (table_born (table cat (kept_name (said_db new.desc)) (kept_name (said_table new.desc))))
        (vals (said_text (said_part new.desc))) (λ stats. put_all at stats new.objects) (unbroken (update_part_rules cat bars new) none).1.1.1.1.1.0

    pub update_part_taken : first_broken (update_part_rules cat bars new) ≡ None → nat_le next 9223372036854775807 ≡ true → takes_call cat next part_due ≡ true
    update_part_taken none room =
        let tests = unbroken (update_part_rules cat bars new) none in
        part_taken cat (kept_name (said_db new.desc)) (kept_name (said_table new.desc)) (vals (said_text (said_part new.desc))) (λ stats. put_all at stats new.objects) next
        (part cat (kept_name (said_db new.desc)) (kept_name (said_table new.desc)) (vals (said_text (said_part new.desc)))) refl (named_there cat (said_db new.desc) tests.1.0) tests.1.1.1.1.1.0 tests.1.1.1.1.1.1.0 room

  module _ (db name : List ℕ) (col : Option (List ℕ)) where
    -- what an accepted deletion of a table's statistics changes has an operation, and can be taken
    pub delete_table_makes : first_broken (delete_table_rules cat bars db name col) ≡ None → has_operation (table_deleted cat db name col) ≡ true
    delete_table_makes none = table_makes (table cat db name) name (without_stats col) (unbroken (delete_table_rules cat bars db name col) none).1.1.1.0

    pub delete_table_taken : first_broken (delete_table_rules cat bars db name col) ≡ None → nat_le next 9223372036854775807 ≡ true → takes_call cat next (table_deleted cat db name col) ≡ true
    delete_table_taken none room =
        let tests = unbroken (delete_table_rules cat bars db name col) none in
        table_taken cat db name (without_stats col) next (table cat db name) refl tests.0 tests.1.1.1.0 room

    -- the same of a partition's
    pub delete_part_makes : (called : List ℕ) → first_broken (delete_part_rules cat bars db name called col) ≡ None → has_operation (part_deleted cat db name called col) ≡ true
    delete_part_makes called none =
        part_makes (part cat db name (vals called)) name (table_born (table cat db name)) (vals called) (without_stats col) (unbroken (delete_part_rules cat bars db name called col) none).1.1.1.1.0

    pub delete_part_taken : (called : List ℕ) → first_broken (delete_part_rules cat bars db name called col) ≡ None → nat_le next 9223372036854775807 ≡ true → takes_call cat next (part_deleted cat db name called col) ≡ true
    delete_part_taken called none room =
        let tests = unbroken (delete_part_rules cat bars db name called col) none in
        part_taken cat db name (vals called) (without_stats col) next (part cat db name (vals called)) refl tests.0 tests.1.1.1.1.0 tests.1.1.1.1.1.0 room
