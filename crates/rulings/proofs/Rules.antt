-- What follows from no rule being broken, and what makes a change one that can be taken.
use Rattle.std.proofs.Common.{◌≡◌, ℕ, Bool, true, false, not, ◌&&◌, List, [], ◌∷◌, map, Option, Some, None, is_some, if◌then◌else◌, nat_le, refl, ap, ◌∙◌, eq-eqb, arith}
use Rattle.std.proofs.lemmas.List.{length-map}
use Rattle.std.specs.Char.{to_ascii_lowercase}
use Rattle.std.specs.List.{list_all}
use Rattle.cat_types.specs.declared.changes.Change.{Change}
use Rattle.cat_types.specs.declared.changes.EventKind.{EventKind}
use Rattle.cat_types.specs.declared.changes.Op.{Op}
use Rattle.cat_values.specs.Names.{has_name_length, is_name_byte, is_object_name, lower}
use Rattle.cat_objects.specs.Catalogue.{Catalogue, at_name, database, has_database, has_table, table, tables_of}
use Rattle.cat_objects.specs.Changes.{fits_database, fits_kind, fits_op, is_born, takes_call, takes_change}
use Rattle.rulings.specs.Rules.{Rule, first_broken}
use Rattle.rulings.specs.Changes.{born_of, in_table}
use Rattle.rulings.specs.Bars.{is_replica}
use Rattle.rulings.specs.Names.{is_named, kept_name}
use Rattle.cat_objects.specs.declared.held.HeldDb.{HeldDb}
use Rattle.cat_objects.specs.declared.held.HeldTable.{HeldTable}
use Rattle.rulings.specs.declared.bars.Bars.{Bars}
use Rattle.rulings.specs.declared.refusal.Refusal.TheVariants.{IsReplica}
use Rattle.rulings.specs.declared.refusal.Refusal.{Refusal}

-- ---- tests

pub both : (a b : Bool) → a ≡ true → b ≡ true → (a && b) ≡ true
both a b p q = ap (λ (x : Bool). x && b) p ∙ q

pub both_first : (a b : Bool) → (a && b) ≡ true → a ≡ true
both_first true b is = refl
both_first false b is = absurd cc

pub both_last : (a b : Bool) → (a && b) ≡ true → b ≡ true
both_last true b is = is
both_last false b is = absurd cc

pub holds : (b : Bool) → not b ≡ false → b ≡ true
holds true is = refl
holds false is = absurd cc

-- ---- rules

-- none of these rules is broken
abbrev pub Unbroken : List Rule → Type 0
Unbroken [] = Unit {0}
Unbroken (rule ∷ rules) = (rule.0 ≡ false) × Unbroken rules

unbroken_by : (b : Bool) (refusal : Refusal) (rules : List Rule) → (if b then Some refusal else first_broken rules) ≡ None → (first_broken rules ≡ None → Unbroken rules) → (b ≡ false) × Unbroken rules
unbroken_by true refusal rules none later = absurd cc
unbroken_by false refusal rules none later = (refl, later none)

-- where a call breaks no rule, the test of each is false: of the first `.0`, of the second `.1.0`, of the third `.1.1.0`
pub unbroken : (rules : List Rule) → first_broken rules ≡ None → Unbroken rules
unbroken [] none = tt
unbroken (rule ∷ rules) none = unbroken_by rule.0 rule.1 rules none (unbroken rules)

-- a rule that isn't broken is passed by
pub passed : (b : Bool) (x : Refusal) (rules : List (Bool × Refusal)) → b ≡ false → first_broken ((b, x) ∷ rules) ≡ first_broken rules
passed b x rules keeps = ap (λ (c : Bool). if c then Some x else first_broken rules) keeps

-- ---- names

lower_byte : (c : ℕ) → is_name_byte c ≡ true → is_name_byte (to_ascii_lowercase c) ≡ true
lower_byte c is = grind arith

lower_bytes : (name : List ℕ) → list_all is_name_byte name ≡ true → list_all is_name_byte (map to_ascii_lowercase name) ≡ true
lower_bytes [] is = refl
lower_bytes (c ∷ cs) is =
    both (is_name_byte (to_ascii_lowercase c)) (list_all is_name_byte (map to_ascii_lowercase cs)) (lower_byte c (both_first (is_name_byte c) (list_all is_name_byte cs) is)) (lower_bytes cs (both_last (is_name_byte c) (list_all is_name_byte cs) is))

lower_named : (name : List ℕ) → is_object_name name ≡ true → is_object_name (lower name) ≡ true
lower_named name is =
    both (has_name_length (lower name)) (list_all is_name_byte (lower name))
    (ap (λ (n : ℕ). nat_le 1 n && nat_le n 128) (length-map name to_ascii_lowercase) ∙ both_first (has_name_length name) (list_all is_name_byte name) is)
    (lower_bytes name (both_last (has_name_length name) (list_all is_name_byte name) is))

-- a lawful name that is handed in is kept under a lawful name
pub kept_named : (name : Option (List ℕ)) → not (is_named name) ≡ false → is_object_name (kept_name name) ≡ true
kept_named None is = absurd cc
kept_named (Some name) is = lower_named name (holds (is_object_name name) is)

-- ---- what is there

-- a database that is there has its born
pub born_there : (held : Option HeldDb) → not (is_some held) ≡ false → is_born (born_of held) held ≡ true
born_there None is = absurd cc
born_there (Some held) is = eq-eqb held.born held.born refl

-- ---- changes

-- a change with one operation can be taken, where its kind fits and the number is one that an event may have
pub call_taken : (cat : Catalogue) (kind : EventKind) (db : List ℕ) (born : ℕ) (op : Op) (next : ℕ) → nat_le next 9223372036854775807 ≡ true → fits_kind kind cat next (record { kind = kind; db = db; db_born = born; ops = op ∷ [] }) ≡ true
    → takes_call cat next (record { kind = kind; db = db; db_born = born; ops = op ∷ [] }) ≡ true
call_taken cat kind db born op next room fits =
    let one : Change = record { kind = kind; db = db; db_born = born; ops = op ∷ [] } in
    both (takes_change cat next one) true (both (nat_le next 9223372036854775807) (fits_kind kind cat next one) room fits) refl

-- one operation on a database that is there fits it, where the operation does
pub fits_there : (cat : Catalogue) (kind : EventKind) (db : List ℕ) (op : Op) → not (has_database cat db) ≡ false → fits_op cat db op ≡ true → fits_database cat (record { kind = kind; db = db; db_born = born_of (database cat db); ops = op ∷ [] }) ≡ true
fits_there cat kind db op there fits =
    both (is_born (born_of (database cat db)) (database cat db)) (fits_op cat db op && true) (born_there (database cat db) there) (both (fits_op cat db op) true fits refl)

-- ---- a table that is there

module _ (cat : Catalogue) (bars : Bars) (db name : List ℕ) (within : HeldDb) (held : HeldTable) (there : database cat db ≡ Some within) (inside : at_name name within.tables ≡ Some held) where
  -- it is found by its names
  pub table_found : table cat db name ≡ Some held
  table_found = ap (λ (o : Option HeldDb). at_name name (tables_of o)) there ∙ inside

  -- and the rules of its database and of itself aren't broken, where that is no replica
  pub in_there : (absent : Refusal) (others : List Rule) → is_replica bars db ≡ false → first_broken (in_table absent cat bars db name others) ≡ first_broken others
  in_there absent others free =
      passed (not (has_database cat db)) absent ((is_replica bars db, IsReplica) ∷ (not (has_table cat db name), absent) ∷ others) (ap (λ (o : Option HeldDb). not (is_some o)) there)
      ∙ passed (is_replica bars db) IsReplica ((not (has_table cat db name), absent) ∷ others) free
      ∙ passed (not (has_table cat db name)) absent others (ap (λ (o : Option HeldTable). not (is_some o)) table_found)
