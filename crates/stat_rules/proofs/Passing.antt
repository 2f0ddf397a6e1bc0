-- What is decided where a table is there is what is decided of the call.
use Rattle.std.proofs.Common.{◌≡◌, ℕ, Bool, true, false, not, List, ◌∷◌, Option, Some, None, is_some, if◌then◌else◌, sym, ap, subst, ◌∙◌}
use Rattle.cat_types.specs.declared.changes.Change.{Change}
use Rattle.cat_types.specs.declared.changes.EventKind.{EventKind}
use Rattle.cat_types.specs.declared.changes.Op.{Op}
use Rattle.cat_types.specs.declared.replies.Reply.{Reply}
use Rattle.cat_types.specs.declared.replies.Reply.TheVariants.{Flag}
use Rattle.cat_values.specs.Names.{lower}
use Rattle.cat_values.specs.declared.storage.Column.{Column}
use Rattle.cat_objects.specs.Catalogue.{Catalogue, at_name, database, has_database, has_table, table, tables_of}
use Rattle.cat_objects.specs.declared.held.HeldDb.{HeldDb}
use Rattle.cat_objects.specs.declared.held.HeldTable.{HeldTable}
use Rattle.part_names.specs.Reading.{vals}
use Rattle.rulings.specs.Bars.{is_replica}
use Rattle.rulings.specs.Changes.{born_of, in_table, part_change}
use Rattle.rulings.specs.Decisions.{Decides, decided_by}
use Rattle.rulings.specs.Meant.{spells_keys}
use Rattle.rulings.specs.Names.{kept_name}
use Rattle.rulings.specs.Rules.{Rule, first_broken}
use Rattle.rulings.specs.declared.bars.Bars.{Bars}
use Rattle.rulings.specs.declared.decided.Decided.{Decided}
use Rattle.rulings.specs.declared.refusal.Refusal.{Refusal}
use Rattle.rulings.specs.declared.refusal.Refusal.TheVariants.{IsReplica, NoSuchObject}
use Rattle.rulings.proofs.Rules.{passed}
use Rattle.stat_rules.specs.Statistics.{in_named_table}

module _ (cat : Catalogue) (bars : Bars) (within : HeldDb) (held : HeldTable) (kind : EventKind) (due : Change → Option Change) (answer : Decided) where
  -- the rules that a table is there are passed, where it is
  pub decided_in : (db name : List ℕ) → database cat db ≡ Some within → is_replica bars db ≡ false → at_name name within.tables ≡ Some held → (rules : Option HeldTable → List Rule) (ops : Option HeldTable → List Op)
      → Decides (decided_by (first_broken (rules (Some held))) (due (record { kind = kind; db = db; db_born = within.born; ops = ops (Some held) })) (Flag true)) answer
      → Decides (decided_by (first_broken (in_table NoSuchObject cat bars db name (rules (table cat db name)))) (due (part_change kind cat db (ops (table cat db name)))) (Flag true)) answer
  decided_in db name there free inside rules ops told =
      let found : table cat db name ≡ Some held = ap (λ (o : Option HeldDb). at_name name (tables_of o)) there ∙ inside in
      let others : List Rule = rules (table cat db name) in
      let front : first_broken (in_table NoSuchObject cat bars db name others) ≡ first_broken others =
      passed (not (has_database cat db)) NoSuchObject ((is_replica bars db, IsReplica) ∷ (not (has_table cat db name), NoSuchObject) ∷ others) (ap (λ (o : Option HeldDb). not (is_some o)) there)
      ∙ passed (is_replica bars db) IsReplica ((not (has_table cat db name), NoSuchObject) ∷ others) free
      ∙ passed (not (has_table cat db name)) NoSuchObject others (ap (λ (o : Option HeldTable). not (is_some o)) found) in
      subst (λ (o : Option Refusal). Decides (decided_by o (due (part_change kind cat db (ops (table cat db name)))) (Flag true)) answer) (sym front)
      (subst (λ (w : Option HeldDb). Decides (decided_by (first_broken others) (due (record { kind = kind; db = db; db_born = born_of w; ops = ops (table cat db name) })) (Flag true)) answer) (sym there)
      (subst (λ (t : Option HeldTable). Decides (decided_by (first_broken (rules t)) (due (record { kind = kind; db = db; db_born = within.born; ops = ops t })) (Flag true)) answer) (sym found) told))

  -- the same where the names were handed in, and `d` and `n` are the texts of them in lower case
  pub decided_named : (db name : Option (List ℕ)) (given called d n : List ℕ) → db ≡ Some given → name ≡ Some called → d ≡ lower given → n ≡ lower called → database cat (lower given) ≡ Some within → is_replica bars (lower given) ≡ false → at_name (lower called) within.tables ≡ Some held
      → (rules : List ℕ → Option HeldTable → List Rule) (ops : List ℕ → Option HeldTable → List Op)
      → Decides (decided_by (first_broken (rules n (Some held))) (due (record { kind = kind; db = d; db_born = within.born; ops = ops n (Some held) })) (Flag true)) answer
      → Decides (decided_by (first_broken (in_named_table cat bars db name (rules (kept_name name) (table cat (kept_name db) (kept_name name))))) (due (part_change kind cat (kept_name db) (ops (kept_name name) (table cat (kept_name db) (kept_name name))))) (Flag true)) answer
  decided_named db name given called d n db_is name_is d_is n_is there free inside rules ops told =
      let Told : Option (List ℕ) → Option (List ℕ) → Type 0 = λ o p. Decides (decided_by (first_broken (in_named_table cat bars o p (rules (kept_name p) (table cat (kept_name o) (kept_name p))))) (due (part_change kind cat (kept_name o) (ops (kept_name p) (table cat (kept_name o) (kept_name p))))) (Flag true)) answer in
      let Here : List ℕ → List ℕ → Type 0 = λ e m. Decides (decided_by (first_broken (rules m (Some held))) (due (record { kind = kind; db = e; db_born = within.born; ops = ops m (Some held) })) (Flag true)) answer in
      subst (λ (o : Option (List ℕ)). Told o name) (sym db_is)
      (subst (λ (p : Option (List ℕ)). Told (Some given) p) (sym name_is)
      (decided_in (lower given) (lower called) there free inside (rules (lower called)) (ops (lower called)) (subst (λ (e : List ℕ). Here e (lower called)) d_is (subst (λ (m : List ℕ). Here d m) n_is told))))

-- ---- a partition by its name

spelled_by : (b : Bool) (values named : List (List ℕ)) (rules : List (List ℕ) → List Rule) (due : List (List ℕ) → Option Change) (reply : List (List ℕ) → Reply) (answer : Decided) → Some values ≡ (if b then Some named else None)
    → Decides (decided_by (first_broken (rules values)) (due values) (reply values)) answer → Decides (decided_by (first_broken ((not b, NoSuchObject) ∷ rules named)) (due named) (reply named)) answer
spelled_by true values named rules due reply answer is told =
    let same : values ≡ named = cc in
    subst (λ (vs : List (List ℕ)). Decides (decided_by (first_broken (rules vs)) (due vs) (reply vs)) answer) same told
spelled_by false values named rules due reply answer is told = absurd cc

-- what is decided of the values that a name spells is decided of the name
pub decided_spelled : (keys : List Column) (called : List ℕ) (values : List (List ℕ)) (rules : List (List ℕ) → List Rule) (due : List (List ℕ) → Option Change) (reply : List (List ℕ) → Reply) (answer : Decided)
    → Some values ≡ (if spells_keys keys called then Some (vals called) else None) → Decides (decided_by (first_broken (rules values)) (due values) (reply values)) answer
    → Decides (decided_by (first_broken ((not (spells_keys keys called), NoSuchObject) ∷ rules (vals called))) (due (vals called)) (reply (vals called))) answer
decided_spelled keys called values rules due reply answer is told = spelled_by (spells_keys keys called) values (vals called) rules due reply answer is told
