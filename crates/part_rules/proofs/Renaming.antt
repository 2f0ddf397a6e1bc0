-- What is decided of the calls that rename a partition or alter those of a list.
use Rattle.std.proofs.Common.{◌≡◌, ℕ, Bool, true, false, not, ◌&&◌, List, [], ◌∷◌, Option, Some, None, is_some, if◌then◌else◌, refl, sym, ap, subst, ◌∙◌}
use Rattle.std.specs.Prelude.{Result, Ok, Err, IfOk, OnErr}
use Rattle.cat_types.specs.declared.arguments.PartArg.{PartArg}
use Rattle.cat_types.specs.declared.changes.Change.{Change}
use Rattle.cat_types.specs.declared.changes.EventKind.TheVariants as kind
use Rattle.cat_types.specs.declared.changes.Op.{Op}
use Rattle.cat_types.specs.declared.changes.Op.TheVariants.{MovePart, PutPart}
use Rattle.cat_types.specs.declared.replies.Reply.TheVariants.{Nothing}
use Rattle.cat_values.specs.declared.records.PartRec.{PartRec}
use Rattle.cat_objects.specs.Catalogue.{Catalogue, at_name, database, parts_of, table}
use Rattle.cat_objects.specs.Parts.{at_values}
use Rattle.cat_objects.specs.declared.held.HeldDb.{HeldDb}
use Rattle.cat_objects.specs.declared.held.HeldTable.{HeldTable}
use Rattle.rulings.specs.Rules.{Rule, first_broken}
use Rattle.rulings.specs.Changes.{born_of, in_table, may_have, part_change, table_born}
use Rattle.rulings.specs.Bars.{is_dumping, is_replica}
use Rattle.rulings.specs.Decisions.{Decides, accepted, decided_by, refused}
use Rattle.part_rules.specs.PartChanges.{alter_partitions_rules, each_altered_rules, partition_renamed, parts_altered, rename_partition_rules, renaming, revalues}
use Rattle.rulings.specs.Meant.{stored_values}
use Rattle.rulings.specs.declared.bars.Bars.{Bars}
use Rattle.rulings.specs.declared.decided.Decided.{Decided}
use Rattle.rulings.specs.declared.decided.Decided.TheVariants as decided
use Rattle.rulings.specs.declared.refusal.Refusal.{Refusal}
use Rattle.rulings.specs.declared.refusal.Refusal.TheVariants.{InvalidOperation}
use Rattle.kept_records.specs.Partitions.{altered_part}
use Rattle.rulings.proofs.Rules.{in_there, passed, table_found}

-- a change without a result is told as it is made
pub told_changed : {E : Type 0} (made : Result Change E) (due : Change) (answer : Decided) → IfOk made (λ change. change ≡ due) → IfOk made (λ change. answer ≡ decided.Change change Nothing) → OnErr made (answer ≡ decided.NoMemory) → Decides (accepted (Some due) Nothing) answer
told_changed (Ok change) due answer is tells fails =
    subst (λ (a : Decided). Decides (accepted (Some due) Nothing) a) (sym tells) (ap (λ (c : Change). decided.Change c Nothing) is)
told_changed (Err e) due answer is tells fails = subst (λ (a : Decided). Decides (accepted (Some due) Nothing) a) (sym fails) tt

module _ (cat : Catalogue) (bars : Bars) (db name : List ℕ) (within : HeldDb) (held : HeldTable) (there : database cat db ≡ Some within) (free : is_replica bars db ≡ false) (inside : at_name name within.tables ≡ Some held) where
  found : table cat db name ≡ Some held
  found = table_found cat bars db name within held there inside

  -- three rules that aren't broken in a table that is there
  in_this : (others : List Rule) → first_broken (in_table InvalidOperation cat bars db name others) ≡ first_broken others
  in_this others = in_there cat bars db name within held there inside InvalidOperation others free

  -- ---- altering a list

  pub list_barred : (parts : List PartArg) (moment : ℕ) (refusal : Refusal) (answer : Decided) → first_broken (each_altered_rules (Some held) [] parts) ≡ Some refusal → Decides (refused refusal) answer
      → Decides (decided_by (first_broken (alter_partitions_rules cat bars db name parts)) (parts_altered cat db name parts moment) Nothing) answer
  list_barred parts moment refusal answer broken told_so =
      subst (λ (o : Option Refusal). Decides (decided_by o (parts_altered cat db name parts moment) Nothing) answer)
      (sym (in_this (each_altered_rules (table cat db name) [] parts) ∙ ap (λ (t : Option HeldTable). first_broken (each_altered_rules t [] parts)) found ∙ broken)) told_so

  -- ---- renaming

  module _ (values : List (List ℕ)) (new : PartArg) (moment : ℕ) (old : PartRec) (stands : at_values (stored_values values) held.parts ≡ Some old) where
    -- the rules behind those of the table, where the partition is there
    abbrev last_rules : Bool → Bool → Bool → Bool → List Rule
    last_rules fit other dump taken = (not fit, InvalidOperation) ∷ (other && dump, InvalidOperation) ∷ (other && taken, InvalidOperation) ∷ []

    rules_are : first_broken (rename_partition_rules cat bars db name values new) ≡ first_broken (last_rules (may_have (Some held) (stored_values new.values)) (revalues values new) (is_dumping bars db) (is_some (at_values (stored_values new.values) held.parts)))
    rules_are =
        let others : Option HeldTable → List Rule = λ t. (not (is_some (at_values (stored_values values) (parts_of t))), InvalidOperation) ∷ last_rules (may_have t (stored_values new.values)) (revalues values new) (is_dumping bars db) (is_some (at_values (stored_values new.values) (parts_of t))) in
        in_this (others (table cat db name))
        ∙ ap (λ (t : Option HeldTable). first_broken (others t)) found
        ∙ passed (not (is_some (at_values (stored_values values) held.parts))) InvalidOperation
        (last_rules (may_have (Some held) (stored_values new.values)) (revalues values new) (is_dumping bars db) (is_some (at_values (stored_values new.values) held.parts))) (ap (λ (o : Option PartRec). not (is_some o)) stands)

    -- the operations of the renaming, by whether the values are other ones
    abbrev ops_by : Bool → List Op
    ops_by other = if other then MovePart name held.born (stored_values values) (stored_values new.values) (altered_part old new.rec moment) ∷ [] else PutPart name held.born (stored_values values) (altered_part old new.rec moment) ∷ []

    abbrev due_by : Bool → Change
    due_by other = record { kind = kind.AlterPartition; db = db; db_born = within.born; ops = ops_by other }

    abbrev change_with : ℕ → List Op → Change
    change_with born ops = record { kind = kind.AlterPartition; db = db; db_born = born; ops = ops }

    change_is : (other : Bool) → revalues values new ≡ other → partition_renamed cat db name values new moment ≡ due_by other
    change_is other is =
        ap (λ (t : Option HeldTable). part_change kind.AlterPartition cat db (renaming (at_values (stored_values values) (parts_of t)) name (table_born t) values new moment)) found
        ∙ ap (λ (o : Option PartRec). part_change kind.AlterPartition cat db (renaming o name held.born values new moment)) stands
        ∙ ap (λ (b : Bool). part_change kind.AlterPartition cat db (ops_by b)) is
        ∙ ap (λ (o : Option HeldDb). change_with (born_of o) (ops_by other)) there

    last_none : (fit other dump taken : Bool) → fit ≡ true → (other && dump) ≡ false → (other && taken) ≡ false → first_broken (last_rules fit other dump taken) ≡ None
    last_none true true true taken p q r = absurd cc
    last_none true true false true p q r = absurd cc
    last_none true true false false p q r = refl
    last_none true false dump taken p q r = refl
    last_none false other dump taken p q r = absurd cc

    -- the new values are none that the table can have
    pub rename_barred : (answer : Decided) → may_have (Some held) (stored_values new.values) ≡ false → Decides (refused InvalidOperation) answer
        → Decides (decided_by (first_broken (rename_partition_rules cat bars db name values new)) (Some (partition_renamed cat db name values new moment)) Nothing) answer
    rename_barred answer fit told_so =
        subst (λ (o : Option Refusal). Decides (decided_by o (Some (partition_renamed cat db name values new moment)) Nothing) answer)
        (sym (rules_are ∙ ap (λ (b : Bool). first_broken (last_rules b (revalues values new) (is_dumping bars db) (is_some (at_values (stored_values new.values) held.parts)))) fit)) told_so

    -- no rule is broken, and the change is told
    pub rename_told : {E : Type 0} (other : Bool) (made : Result Change E) (answer : Decided) → revalues values new ≡ other → may_have (Some held) (stored_values new.values) ≡ true → (other && is_dumping bars db) ≡ false
        → (other && is_some (at_values (stored_values new.values) held.parts)) ≡ false → IfOk made (λ change. change ≡ due_by other) → IfOk made (λ change. answer ≡ decided.Change change Nothing) → OnErr made (answer ≡ decided.NoMemory)
        → Decides (decided_by (first_broken (rename_partition_rules cat bars db name values new)) (Some (partition_renamed cat db name values new moment)) Nothing) answer
    rename_told other made answer is fit dump taken makes tells fails =
        let none : first_broken (rename_partition_rules cat bars db name values new) ≡ None =
        rules_are
        ∙ ap (λ (b : Bool). first_broken (last_rules (may_have (Some held) (stored_values new.values)) b (is_dumping bars db) (is_some (at_values (stored_values new.values) held.parts)))) is
        ∙ last_none (may_have (Some held) (stored_values new.values)) other (is_dumping bars db) (is_some (at_values (stored_values new.values) held.parts)) fit dump taken in
        subst (λ (o : Option Refusal). Decides (decided_by o (Some (partition_renamed cat db name values new moment)) Nothing) answer) (sym none)
        (subst (λ (d : Change). Decides (accepted (Some d) Nothing) answer) (sym (change_is other is)) (told_changed made (due_by other) answer makes tells fails))
