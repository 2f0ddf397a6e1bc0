-- What is decided of a call that adds partitions, by what is decided in a table that was found.
use Rattle.std.proofs.Common.{◌≡◌, ℕ, Bool, true, false, not, List, [], ◌∷◌, Option, Some, sym, ap, subst, ◌∙◌}
use Rattle.std.specs.Prelude.{slice_get}
use Rattle.cat_types.specs.declared.arguments.PartArg.{PartArg}
use Rattle.cat_types.specs.declared.changes.Change.{Change}
use Rattle.cat_types.specs.declared.changes.EventKind.TheVariants as kind
use Rattle.cat_types.specs.declared.replies.Reply.{Reply}
use Rattle.cat_values.specs.Names.{lower}
use Rattle.cat_objects.specs.Catalogue.{Catalogue, at_name, database, table}
use Rattle.cat_objects.specs.Parts.{PartList}
use Rattle.cat_objects.specs.declared.held.HeldDb.{HeldDb}
use Rattle.cat_objects.specs.declared.held.HeldTable.{HeldTable}
use Rattle.rulings.specs.Rules.{Rule, first_broken}
use Rattle.rulings.specs.Changes.{born_of, if_any, in_table, table_born}
use Rattle.rulings.specs.Bars.{is_replica}
use Rattle.rulings.specs.Decisions.{Decides, decided_by}
use Rattle.part_rules.specs.PartChanges.{add_list_rules, add_partitions_rules, added, added_as, append_partition_rules, appended, appended_as, count_added, each_added_rules, list_change, list_told, new_part_rules, ops_under, partition_appended, partitions_added, parts_put}
use Rattle.rulings.specs.Meant.{Meaning, may_mean, meant_values, table_keys}
use Rattle.rulings.specs.declared.bars.Bars.{Bars}
use Rattle.rulings.specs.declared.decided.Decided.{Decided}
use Rattle.part_rules.specs.declared.part_adds.Told.{Told}
use Rattle.part_rules.specs.declared.part_adds.Told.TheVariants as told
use Rattle.rulings.specs.declared.refusal.Refusal.{Refusal}
use Rattle.rulings.specs.declared.refusal.Refusal.TheVariants.{InvalidObject}
use Rattle.kept_records.specs.Partitions.{appended_part}
use Rattle.rulings.proofs.Rules.{in_there, passed, table_found}

-- the change that adds partitions under a table of this name and born
abbrev pub adds_under : List ℕ → ℕ → List ℕ → ℕ → PartList → Option Change
adds_under db db_born name born parts = if_any (record { kind = kind.AddPartition; db = db; db_born = db_born; ops = ops_under name born parts })

decided_same : (o p : Option Refusal) (due made : Option Change) (result reply : Reply) (answer : Decided) → o ≡ p → due ≡ made → result ≡ reply → Decides (decided_by p made reply) answer → Decides (decided_by o due result) answer
decided_same o p due made result reply answer rules change same told_so =
    subst (λ (q : Option Refusal). Decides (decided_by q due result) answer) (sym rules)
    (subst (λ (d : Option Change). Decides (decided_by p d result) answer) (sym change) (subst (λ (r : Reply). Decides (decided_by p made r) answer) (sym same) told_so))

module _ (cat : Catalogue) (bars : Bars) (db name : List ℕ) (within : HeldDb) (held : HeldTable) (there : database cat db ≡ Some within) (free : is_replica bars db ≡ false) (inside : at_name name within.tables ≡ Some held) where
  found : table cat db name ≡ Some held
  found = table_found cat bars db name within held there inside

  -- three rules that aren't broken in a table that is there
  in_this : (others : List Rule) → first_broken (in_table InvalidObject cat bars db name others) ≡ first_broken others
  in_this others = in_there cat bars db name within held there inside InvalidObject others free

  put_is : (parts : PartList) → parts_put kind.AddPartition cat db name parts ≡ adds_under db within.born name held.born parts
  put_is parts =
      ap (λ (o : Option HeldDb). adds_under db (born_of o) name (table_born (table cat db name)) parts) there
      ∙ ap (λ (t : Option HeldTable). adds_under db within.born name (table_born t) parts) found

  -- appending
  pub appended_here : (meant : Meaning) (values : List (List ℕ)) (moment : ℕ) (answer : Decided) → may_mean held.rec.keys meant ≡ true → values ≡ meant_values meant
      → Decides (decided_by (first_broken (new_part_rules (Some held) values)) (adds_under db within.born name held.born ((values, appended_part held.rec moment) ∷ [])) (added_as told.All db name ((values, appended_part held.rec moment) ∷ []))) answer
      → Decides (decided_by (first_broken (append_partition_rules cat bars db name meant)) (partition_appended cat db name (meant_values meant) moment) (appended_as cat db name (meant_values meant) moment)) answer
  appended_here meant values moment answer may is told_so =
      let others : Option HeldTable → List Rule = λ t. (not (may_mean (table_keys t) meant), InvalidObject) ∷ new_part_rules t (meant_values meant) in
      decided_same (first_broken (append_partition_rules cat bars db name meant)) (first_broken (new_part_rules (Some held) values))
      (partition_appended cat db name (meant_values meant) moment) (adds_under db within.born name held.born ((values, appended_part held.rec moment) ∷ []))
      (appended_as cat db name (meant_values meant) moment) (added_as told.All db name ((values, appended_part held.rec moment) ∷ [])) answer
      (in_this (others (table cat db name)) ∙ ap (λ (t : Option HeldTable). first_broken (others t)) found ∙ passed (not (may_mean held.rec.keys meant)) InvalidObject (new_part_rules (Some held) (meant_values meant)) (ap not may)
      ∙ ap (λ (v : List (List ℕ)). first_broken (new_part_rules (Some held) v)) (sym is))
      (ap (λ (t : Option HeldTable). parts_put kind.AddPartition cat db name (appended t (meant_values meant) moment)) found ∙ put_is ((meant_values meant, appended_part held.rec moment) ∷ [])
      ∙ ap (λ (v : List (List ℕ)). adds_under db within.born name held.born ((v, appended_part held.rec moment) ∷ [])) (sym is))
      (ap (λ (t : Option HeldTable). added_as told.All db name (appended t (meant_values meant) moment)) found ∙ ap (λ (v : List (List ℕ)). added_as told.All db name ((v, appended_part held.rec moment) ∷ [])) (sym is))
      told_so

-- adding a list
added_lower : (needs passes : Bool) (what : Told) (cat : Catalogue) (bars : Bars) (d n : List ℕ) (parts : List PartArg) (moment : ℕ) (within : HeldDb) (held : HeldTable) (answer : Decided) → database cat (lower d) ≡ Some within → is_replica bars (lower d) ≡ false → at_name (lower n) within.tables ≡ Some held
    → Decides (decided_by (first_broken (each_added_rules needs passes (Some held) (lower d) (lower n) [] parts)) (adds_under (lower d) within.born (lower n) held.born (added (Some held) [] parts moment)) (added_as what (lower d) (lower n) (added (Some held) [] parts moment))) answer
    → Decides (decided_by (first_broken (add_list_rules needs passes cat bars (Some d) (Some n) parts)) (list_change cat (Some d) (Some n) parts moment) (list_told what cat (Some d) (Some n) parts moment)) answer
added_lower needs passes what cat bars d n parts moment within held answer there free inside told_so =
    let is : table cat (lower d) (lower n) ≡ Some held = found cat bars (lower d) (lower n) within held there free inside in
    decided_same (first_broken (add_list_rules needs passes cat bars (Some d) (Some n) parts)) (first_broken (each_added_rules needs passes (Some held) (lower d) (lower n) [] parts))
    (list_change cat (Some d) (Some n) parts moment) (adds_under (lower d) within.born (lower n) held.born (added (Some held) [] parts moment))
    (list_told what cat (Some d) (Some n) parts moment) (added_as what (lower d) (lower n) (added (Some held) [] parts moment)) answer
    (in_this cat bars (lower d) (lower n) within held there free inside (each_added_rules needs passes (table cat (lower d) (lower n)) (lower d) (lower n) [] parts)
    ∙ ap (λ (t : Option HeldTable). first_broken (each_added_rules needs passes t (lower d) (lower n) [] parts)) is)
    (ap (λ (t : Option HeldTable). parts_put kind.AddPartition cat (lower d) (lower n) (added t [] parts moment)) is ∙ put_is cat bars (lower d) (lower n) within held there free inside (added (Some held) [] parts moment))
    (ap (λ (t : Option HeldTable). added_as what (lower d) (lower n) (added t [] parts moment)) is)
    told_so

pub added_here : (needs passes : Bool) (what : Told) (cat : Catalogue) (bars : Bars) (db_arg name_arg : Option (List ℕ)) (d n db name : List ℕ) (parts : List PartArg) (moment : ℕ) (within : HeldDb) (held : HeldTable) (answer : Decided)
    → db_arg ≡ Some d → name_arg ≡ Some n → db ≡ lower d → name ≡ lower n → database cat (lower d) ≡ Some within → is_replica bars (lower d) ≡ false → at_name (lower n) within.tables ≡ Some held
    → Decides (decided_by (first_broken (each_added_rules needs passes (Some held) db name [] parts)) (adds_under db within.born name held.born (added (Some held) [] parts moment)) (added_as what db name (added (Some held) [] parts moment))) answer
    → Decides (decided_by (first_broken (add_list_rules needs passes cat bars db_arg name_arg parts)) (list_change cat db_arg name_arg parts moment) (list_told what cat db_arg name_arg parts moment)) answer
added_here needs passes what cat bars db_arg name_arg d n db name parts moment within held answer db_is name_is lower_db lower_name there free inside told_so =
    let here : List ℕ → List ℕ → Type 0 = λ a b. Decides (decided_by (first_broken (each_added_rules needs passes (Some held) a b [] parts)) (adds_under a within.born b held.born (added (Some held) [] parts moment)) (added_as what a b (added (Some held) [] parts moment))) answer in
    subst (λ (o : Option (List ℕ)). Decides (decided_by (first_broken (add_list_rules needs passes cat bars o name_arg parts)) (list_change cat o name_arg parts moment) (list_told what cat o name_arg parts moment)) answer) (sym db_is)
    (subst (λ (o : Option (List ℕ)). Decides (decided_by (first_broken (add_list_rules needs passes cat bars (Some d) o parts)) (list_change cat (Some d) o parts moment) (list_told what cat (Some d) o parts moment)) answer) (sym name_is)
    (added_lower needs passes what cat bars d n parts moment within held answer there free inside (subst (λ (a : List ℕ). here a (lower n)) lower_db (subst (λ (b : List ℕ). here db b) lower_name told_so))))

-- adding a list that has a first element
pub added_by_first : (cat : Catalogue) (bars : Bars) (parts : List PartArg) (first : PartArg) (moment : ℕ) (answer : Decided) → slice_get parts 0 ≡ Some first
    → Decides (decided_by (first_broken (add_list_rules true false cat bars first.db first.table parts)) (list_change cat first.db first.table parts moment) (list_told told.Count cat first.db first.table parts moment)) answer
    → Decides (decided_by (first_broken (add_partitions_rules cat bars parts)) (partitions_added cat parts moment) (count_added cat parts moment)) answer
added_by_first cat bars [] first moment answer is told_so = absurd cc
added_by_first cat bars (new ∷ more) first moment answer is told_so =
    let same : first ≡ new = cc in
    subst (λ (f : PartArg). Decides (decided_by (first_broken (add_list_rules true false cat bars f.db f.table (new ∷ more))) (list_change cat f.db f.table (new ∷ more) moment) (list_told told.Count cat f.db f.table (new ∷ more) moment)) answer) same told_so
