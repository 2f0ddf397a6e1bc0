-- What the calls that change partitions change can be taken.
use Rattle.std.proofs.Common.{◌≡◌, ◌==◌, ℕ, Bool, true, false, not, ◌&&◌, List, [], ◌∷◌, ◌++◌, Option, Some, None, is_some, if◌then◌else◌, nat_le, refl, sym, ap, subst, ◌∙◌, eq-eqb}
use Rattle.std.proofs.lemmas.Slice.Eq.{bytes_eq-Decides}
use Rattle.std.specs.Cmp.Lexicographic.{pointwise, pointwise_decides}
use Rattle.std.specs.List.{list_all}
use Rattle.std.specs.Str.{bytes_eq}
use Rattle.cat_types.specs.declared.arguments.PartArg.{PartArg}
use Rattle.cat_types.specs.declared.changes.EventKind.TheVariants as kind
use Rattle.cat_types.specs.declared.changes.Op.{Op}
use Rattle.cat_types.specs.declared.changes.Op.TheVariants.{DropPart, MovePart, PutPart}
use Rattle.cat_values.specs.declared.records.PartRec.{PartRec}
use Rattle.cat_objects.specs.Catalogue.{Catalogue, database, has_database, has_part, has_table, part, parts_of, table}
use Rattle.cat_objects.specs.Changes.{can_hold, fits_op, has_operation, is_table_born, takes_call}
use Rattle.cat_objects.specs.Parts.{PartList, at_values}
use Rattle.cat_objects.specs.declared.held.HeldTable.{HeldTable}
use Rattle.rulings.specs.Changes.{born_of, may_have, part_change, table_born}
use Rattle.rulings.specs.Names.{kept_name, names_table}
use Rattle.part_rules.specs.PartChanges.{add_list_rules, added, all_altered, alter_partition_rules, alter_partitions_rules, altered_at, append_partition_rules, appended, behind, drop_partition_rules, each_added_rules, each_altered_rules, is_taken, list_added, ops_under, partition_dropped, partition_renamed, rename_partition_rules, renaming, revalues}
use Rattle.rulings.specs.Meant.{Meaning, holds_meant, may_mean, meant_values, stored_values}
use Rattle.rulings.specs.Rules.{first_broken}
use Rattle.rulings.specs.declared.bars.Bars.{Bars}
use Rattle.kept_records.specs.Partitions.{altered_part, made_part}
use Rattle.part_rules.proofs.Holding.{puts_taken}
use Rattle.rulings.proofs.Rules.{Unbroken, both, both_last, call_taken, fits_there, holds, unbroken}

-- the table can have each of these partitions
abbrev all_fit : Option HeldTable → PartList → Bool
all_fit held parts = list_all (λ p. may_have held p.0) parts

-- ---- adding

one_more : (b : Bool) (held : Option HeldTable) (values : List (List ℕ)) (rec : PartRec) (parts : PartList) → may_have held values ≡ true → all_fit held parts ≡ true → all_fit held ((if b then [] else (values, rec) ∷ []) ++ parts) ≡ true
one_more true held values rec parts fit fits = fits
one_more false held values rec parts fit fits = both (may_have held values) (all_fit held parts) fit fits

added_fit : (needs passes : Bool) (held : Option HeldTable) (db name : List ℕ) (earlier : List (List (List ℕ))) (parts : List PartArg) (moment : ℕ) → Unbroken (each_added_rules needs passes held db name earlier parts) → all_fit held (added held earlier parts moment) ≡ true
added_fit needs passes held db name earlier [] moment tests = refl
added_fit needs passes held db name earlier (new ∷ more) moment tests =
    one_more (is_taken held earlier (stored_values new.values)) held (stored_values new.values) (made_part new.rec moment) (added held (behind held earlier (stored_values new.values)) more moment)
    (holds (may_have held (stored_values new.values)) tests.1.0)
    (added_fit needs passes held db name (behind held earlier (stored_values new.values)) more moment tests.1.1.1.1)

named_is : (cat : Catalogue) (db name : Option (List ℕ)) → not (names_table cat db name) ≡ false → not (has_table cat (kept_name db) (kept_name name)) ≡ false
named_is cat None name is = absurd cc
named_is cat (Some db) None is = absurd cc
named_is cat (Some db) (Some name) is = is

-- what an accepted adding of a list changes can be taken
pub add_list_taken : (needs passes : Bool) (cat : Catalogue) (bars : Bars) (db name : Option (List ℕ)) (parts : List PartArg) (moment next : ℕ) → first_broken (add_list_rules needs passes cat bars db name parts) ≡ None
    → has_operation (part_change kind.AddPartition cat (kept_name db) (ops_under (kept_name name) (table_born (table cat (kept_name db) (kept_name name))) (list_added cat db name parts moment))) ≡ true → nat_le next 9223372036854775807 ≡ true
    → takes_call cat next (part_change kind.AddPartition cat (kept_name db) (ops_under (kept_name name) (table_born (table cat (kept_name db) (kept_name name))) (list_added cat db name parts moment))) ≡ true
add_list_taken needs passes cat bars db name parts moment next none some room =
    let tests = unbroken (add_list_rules needs passes cat bars db name parts) none in
    let held : Option HeldTable = table cat (kept_name db) (kept_name name) in
    puts_taken cat kind.AddPartition (kept_name db) (kept_name name) (list_added cat db name parts moment) next (database cat (kept_name db)) held (λ c. refl) refl refl (named_is cat db name tests.1.1.0)
    (added_fit needs passes held (kept_name db) (kept_name name) [] parts moment tests.1.1.1) some room

appended_fit : (held : Option HeldTable) (values : List (List ℕ)) (moment : ℕ) → may_have held values ≡ true → all_fit held (appended held values moment) ≡ true
appended_fit None values moment fit = refl
appended_fit (Some held) values moment fit = both (may_have (Some held) values) true fit refl

-- what an accepted appending changes can be taken
pub append_taken : (cat : Catalogue) (bars : Bars) (db name : List ℕ) (meant : Meaning) (moment next : ℕ) → first_broken (append_partition_rules cat bars db name meant) ≡ None
    → has_operation (part_change kind.AddPartition cat db (ops_under name (table_born (table cat db name)) (appended (table cat db name) (meant_values meant) moment))) ≡ true → nat_le next 9223372036854775807 ≡ true
    → takes_call cat next (part_change kind.AddPartition cat db (ops_under name (table_born (table cat db name)) (appended (table cat db name) (meant_values meant) moment))) ≡ true
append_taken cat bars db name meant moment next none some room =
    let tests = unbroken (append_partition_rules cat bars db name meant) none in
    puts_taken cat kind.AddPartition db name (appended (table cat db name) (meant_values meant) moment) next (database cat db) (table cat db name) (λ c. refl) refl refl tests.1.1.0
    (appended_fit (table cat db name) (meant_values meant) moment (holds (may_have (table cat db name) (meant_values meant)) tests.1.1.1.1.0)) some room

-- ---- altering

altered_more : (old : Option PartRec) (held : Option HeldTable) (values : List (List ℕ)) (rec : PartRec) (moment : ℕ) (parts : PartList) → may_have held values ≡ true → all_fit held parts ≡ true → all_fit held (altered_at old values rec moment ++ parts) ≡ true
altered_more None held values rec moment parts fit fits = fits
altered_more (Some old) held values rec moment parts fit fits = both (may_have held values) (all_fit held parts) fit fits

altered_fit : (held : Option HeldTable) (earlier : List (List (List ℕ))) (parts : List PartArg) (moment : ℕ) → Unbroken (each_altered_rules held earlier parts) → all_fit held (all_altered held parts moment) ≡ true
altered_fit held earlier [] moment tests = refl
altered_fit held earlier (new ∷ more) moment tests =
    altered_more (at_values (stored_values new.values) (parts_of held)) held (stored_values new.values) new.rec moment (all_altered held more moment)
    (holds (may_have held (stored_values new.values)) tests.1.0)
    (altered_fit held (earlier ++ stored_values new.values ∷ []) more moment tests.1.1.1)

-- what an accepted altering of a list changes can be taken
pub alter_list_taken : (cat : Catalogue) (bars : Bars) (db name : List ℕ) (parts : List PartArg) (moment next : ℕ) → first_broken (alter_partitions_rules cat bars db name parts) ≡ None
    → has_operation (part_change kind.AlterPartition cat db (ops_under name (table_born (table cat db name)) (all_altered (table cat db name) parts moment))) ≡ true → nat_le next 9223372036854775807 ≡ true
    → takes_call cat next (part_change kind.AlterPartition cat db (ops_under name (table_born (table cat db name)) (all_altered (table cat db name) parts moment))) ≡ true
alter_list_taken cat bars db name parts moment next none some room =
    let tests = unbroken (alter_partitions_rules cat bars db name parts) none in
    puts_taken cat kind.AlterPartition db name (all_altered (table cat db name) parts moment) next (database cat db) (table cat db name) (λ c. refl) refl refl tests.1.1.0
    (altered_fit (table cat db name) [] parts moment tests.1.1.1) some room

-- what an accepted altering of one partition changes can be taken
pub alter_one_taken : (cat : Catalogue) (bars : Bars) (db name : List ℕ) (new : PartArg) (moment next : ℕ) → first_broken (alter_partition_rules cat bars db name new) ≡ None
    → has_operation (part_change kind.AlterPartition cat db (ops_under name (table_born (table cat db name)) (all_altered (table cat db name) (new ∷ []) moment))) ≡ true → nat_le next 9223372036854775807 ≡ true
    → takes_call cat next (part_change kind.AlterPartition cat db (ops_under name (table_born (table cat db name)) (all_altered (table cat db name) (new ∷ []) moment))) ≡ true
alter_one_taken cat bars db name new moment next none some room =
    let tests = unbroken (alter_partition_rules cat bars db name new) none in
    puts_taken cat kind.AlterPartition db name (all_altered (table cat db name) (new ∷ []) moment) next (database cat db) (table cat db name) (λ c. refl) refl refl tests.1.1.0
    (altered_fit (table cat db name) [] (new ∷ []) moment (tests.1.1.1.0, (tests.1.1.1.1.0, (refl, tt)))) some room

-- ---- dropping

meant_there : (held : Option HeldTable) (meant : Meaning) → not (holds_meant held meant) ≡ false → (is_table_born (table_born held) held && is_some (at_values (meant_values meant) (parts_of held))) ≡ true
meant_there None meant is = absurd cc
meant_there (Some held) meant is =
    both (held.born == held.born) (is_some (at_values (meant_values meant) held.parts)) (eq-eqb held.born held.born refl)
    (both_last (may_mean held.rec.keys meant) (is_some (at_values (meant_values meant) held.parts)) (holds (holds_meant (Some held) meant) is))

-- what an accepted dropping of a partition changes can be taken
pub drop_part_taken : (cat : Catalogue) (bars : Bars) (db name : List ℕ) (meant : Meaning) (next : ℕ) → first_broken (drop_partition_rules cat bars db name meant) ≡ None → nat_le next 9223372036854775807 ≡ true
    → takes_call cat next (partition_dropped cat db name (meant_values meant)) ≡ true
drop_part_taken cat bars db name meant next none room =
    let tests = unbroken (drop_partition_rules cat bars db name meant) none in
    let op : Op = DropPart name (table_born (table cat db name)) (meant_values meant) in
    call_taken cat kind.DropPartition db (born_of (database cat db)) op next room (fits_there cat kind.DropPartition db op tests.0 (meant_there (table cat db name) meant tests.1.1.1.0))

-- ---- renaming

can_hold_it : (held : Option HeldTable) (values : List (List ℕ)) → not (may_have held values) ≡ false → can_hold (table_born held) values held ≡ true
can_hold_it None values is = absurd cc
can_hold_it (Some held) values is = holds (may_have (Some held) values) is

renamed_by : (cat : Catalogue) (db name : List ℕ) (values : List (List ℕ)) (new : PartArg) (old : PartRec) (moment next : ℕ) (other : Bool) → revalues values new ≡ other → not (has_database cat db) ≡ false → not (has_part cat db name (stored_values values)) ≡ false
    → not (may_have (table cat db name) (stored_values new.values)) ≡ false → (other && has_part cat db name (stored_values new.values)) ≡ false → nat_le next 9223372036854775807 ≡ true
    → takes_call cat next (part_change kind.AlterPartition cat db (if other then MovePart name (table_born (table cat db name)) (stored_values values) (stored_values new.values) (altered_part old new.rec moment) ∷ []
    else PutPart name (table_born (table cat db name)) (stored_values values) (altered_part old new.rec moment) ∷ [])) ≡ true
renamed_by cat db name values new old moment next true is there has fit free room =
    let op : Op = MovePart name (table_born (table cat db name)) (stored_values values) (stored_values new.values) (altered_part old new.rec moment) in
    let fits : fits_op cat db op ≡ true =
    both (can_hold (table_born (table cat db name)) (stored_values new.values) (table cat db name)) (has_part cat db name (stored_values values) && not (has_part cat db name (stored_values new.values))) (can_hold_it (table cat db name) (stored_values new.values) fit)
    (both (has_part cat db name (stored_values values)) (not (has_part cat db name (stored_values new.values))) (holds (has_part cat db name (stored_values values)) has) (ap not free)) in
    call_taken cat kind.AlterPartition db (born_of (database cat db)) op next room (fits_there cat kind.AlterPartition db op there fits)
renamed_by cat db name values new old moment next false is there has fit free room =
    let op : Op = PutPart name (table_born (table cat db name)) (stored_values values) (altered_part old new.rec moment) in
    let same : stored_values new.values ≡ stored_values values = (pointwise_decides bytes_eq-Decides (stored_values new.values) (stored_values values)).0 (holds (pointwise bytes_eq (stored_values new.values) (stored_values values)) is) in
    let fits : fits_op cat db op ≡ true = subst (λ (v : List (List ℕ)). can_hold (table_born (table cat db name)) v (table cat db name) ≡ true) same (can_hold_it (table cat db name) (stored_values new.values) fit) in
    call_taken cat kind.AlterPartition db (born_of (database cat db)) op next room (fits_there cat kind.AlterPartition db op there fits)

renamed : (cat : Catalogue) (bars : Bars) (db name : List ℕ) (values : List (List ℕ)) (new : PartArg) (moment next : ℕ) (old : Option PartRec) → part cat db name (stored_values values) ≡ old → first_broken (rename_partition_rules cat bars db name values new) ≡ None
    → nat_le next 9223372036854775807 ≡ true → takes_call cat next (part_change kind.AlterPartition cat db (renaming old name (table_born (table cat db name)) values new moment)) ≡ true
renamed cat bars db name values new moment next None is none room =
    let tests = unbroken (rename_partition_rules cat bars db name values new) none in
    let absent : true ≡ false = ap (λ (o : Option PartRec). not (is_some o)) (sym is) ∙ tests.1.1.1.0 in
    absurd cc
renamed cat bars db name values new moment next (Some old) is none room =
    let tests = unbroken (rename_partition_rules cat bars db name values new) none in
    renamed_by cat db name values new old moment next (revalues values new) refl tests.0 tests.1.1.1.0 tests.1.1.1.1.0 tests.1.1.1.1.1.1.0 room

rename_makes : (old : Option PartRec) (cat : Catalogue) (db name : List ℕ) (born : ℕ) (values : List (List ℕ)) (new : PartArg) (moment : ℕ) → not (is_some old) ≡ false → has_operation (part_change kind.AlterPartition cat db (renaming old name born values new moment)) ≡ true
rename_makes None cat db name born values new moment is = absurd cc
rename_makes (Some old) cat db name born values new moment is = either (revalues values new)
  where
    either : (b : Bool)
        → has_operation (part_change kind.AlterPartition cat db (if b then MovePart name born (stored_values values) (stored_values new.values) (altered_part old new.rec moment) ∷ [] else PutPart name born (stored_values values) (altered_part old new.rec moment) ∷ [])) ≡ true
    either true = refl
    either false = refl

-- an accepted renaming changes something, and that can be taken
pub rename_does : (cat : Catalogue) (bars : Bars) (db name : List ℕ) (values : List (List ℕ)) (new : PartArg) (moment : ℕ) → first_broken (rename_partition_rules cat bars db name values new) ≡ None → has_operation (partition_renamed cat db name values new moment) ≡ true
rename_does cat bars db name values new moment none =
    rename_makes (part cat db name (stored_values values)) cat db name (table_born (table cat db name)) values new moment (unbroken (rename_partition_rules cat bars db name values new) none).1.1.1.0

pub rename_taken : (cat : Catalogue) (bars : Bars) (db name : List ℕ) (values : List (List ℕ)) (new : PartArg) (moment next : ℕ) → first_broken (rename_partition_rules cat bars db name values new) ≡ None → nat_le next 9223372036854775807 ≡ true
    → takes_call cat next (partition_renamed cat db name values new moment) ≡ true
rename_taken cat bars db name values new moment next none room = renamed cat bars db name values new moment next (part cat db name (stored_values values)) refl none room
