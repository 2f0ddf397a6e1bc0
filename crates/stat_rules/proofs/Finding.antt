-- Places of columns lead to the first column with a name.
use Rattle.std.proofs.Common.{◌≡◌, ℕ, ◌+◌, ◌<◌, Bool, true, false, List, [], ◌∷◌, ◌++◌, length, Option, Some, None, cond, get_or, if◌then◌else◌, refl, sym, ap, subst, ◌∙◌, take}
use Rattle.std.specs.BTreeMap.{is_at}
use Rattle.std.specs.Cmp.Lexicographic.{slice_cmp}
use Rattle.std.specs.List.{slice_get}
use Rattle.std.specs.Option.{option_or}
use Rattle.std.specs.Ordering.{nat_cmp}
use Rattle.std.specs.Str.{bytes_eq}
use Rattle.std.proofs.lemmas.List.{take_more}
use Rattle.std.proofs.lemmas.List.Folds.{find-append}
use Rattle.std.proofs.lemmas.Map.Text.{is_eq-slice_cmp}
use Rattle.std.proofs.lemmas.Option.{slice_get-get_or}
use Rattle.std.proofs.lemmas.Slice.Eq.{bytes_eq-Decides}
use Rattle.cat_values.specs.Columns.{column_named}
use Rattle.cat_values.specs.declared.storage.Column.{Column}
use Rattle.cat_objects.specs.Catalogue.{at_name}
use Rattle.stat_rules.specs.Places.{LeadTo, column_at, placed_first}

-- ---- one place more

placed_by : (b : Bool) (before : Option ℕ) (name other : List ℕ) (at : ℕ) → bytes_eq name other ≡ b → (b ≡ true → before ≡ None) → cond b (Some at) before ≡ placed_first before name at other
placed_by true None name other at is free = ap (λ (c : Bool). if c then Some at else None) (sym is)
placed_by false None name other at is free = ap (λ (c : Bool). if c then Some at else None) (sym is)
placed_by true (Some x) name other at is free =
    let none : Some x ≡ None = free refl in
    absurd cc
placed_by false (Some x) name other at is free = refl

-- a name that has no place gets this one, and all others keep theirs
pub added_place : (old new : List (List ℕ × ℕ)) (name key : List ℕ) (at : ℕ) → key ≡ name → at_name name old ≡ None
    → ((other : List ℕ) → at_name other new ≡ cond (is_at (slice_cmp nat_cmp key) other) (Some at) (at_name other old)) → (other : List ℕ) → at_name other new ≡ placed_first (at_name other old) name at other
added_place old new name key at same free updates other =
    updates other
    ∙ ap (λ (k : List ℕ). cond (is_at (slice_cmp nat_cmp k) other) (Some at) (at_name other old)) same
    ∙ ap (λ (b : Bool). cond b (Some at) (at_name other old)) (is_eq-slice_cmp name other)
    ∙ placed_by (bytes_eq name other) (at_name other old) name other at refl (λ eq. subst (λ (n : List ℕ). at_name n old ≡ None) ((bytes_eq-Decides name other).0 eq) free)

-- ---- all places

-- a place leads to the column that was found, and none is there where none was found
abbrev pub Leads : List Column → Option ℕ → Option Column → Type 0
Leads cols None found = found ≡ None
Leads cols (Some at) found = (column : Column) × (slice_get cols at ≡ Some column) × (found ≡ Some column)

-- the places of the first so many columns lead to them
abbrev pub LeadFirst : ℕ → List (List ℕ × ℕ) → List Column → Type 0
LeadFirst count places cols = (name : List ℕ) → Leads cols (at_name name places) (column_named (take count cols) name)

named_by : (b : Bool) (cols : List Column) (at : ℕ) (column : Column) (name : List ℕ) → bytes_eq column.name name ≡ b → slice_get cols at ≡ Some column
    → Leads cols (if b then Some at else None) (cond b (Some column) None)
named_by true cols at column name is there = (column, there, refl)
named_by false cols at column name is there = refl

leads_next : (before : Option ℕ) (cols : List Column) (at : ℕ) (column : Column) (name : List ℕ) → slice_get cols at ≡ Some column → Leads cols before (column_named (take at cols) name)
    → Leads cols (placed_first before column.name at name) (option_or (column_named (take at cols) name) (column_named (column ∷ []) name))
leads_next None cols at column name there none =
    subst (λ (o : Option Column). Leads cols (placed_first None column.name at name) (option_or o (column_named (column ∷ []) name))) (sym none)
    (named_by (bytes_eq column.name name) cols at column name refl there)
leads_next (Some before) cols at column name there found =
    (found.0, found.1, ap (λ (o : Option Column). option_or o (column_named (column ∷ []) name)) found.2)

-- one column more
lead_next : (cols : List Column) (at : ℕ) (column : Column) (old new : List (List ℕ × ℕ)) → at < length cols → column ≡ get_or cols at column → LeadFirst at old cols
    → ((other : List ℕ) → at_name other new ≡ placed_first (at_name other old) column.name at other) → LeadFirst (at + 1) new cols
lead_next cols at column old new within item leads added name =
    let there : slice_get cols at ≡ Some column = slice_get-get_or cols at column within ∙ ap (λ (c : Column). Some c) (sym item) in
    let more : take (at + 1) cols ≡ take at cols ++ column ∷ [] = take_more cols at column within ∙ ap (λ (c : Column). take at cols ++ c ∷ []) (sym item) in
    subst (λ (o : Option ℕ). Leads cols o (column_named (take (at + 1) cols) name)) (sym (added name))
    (subst (λ (o : Option Column). Leads cols (placed_first (at_name name old) column.name at name) o) (sym (ap (λ (cs : List Column). column_named cs name) more ∙ find-append (λ c. bytes_eq c.name name) (take at cols) (column ∷ [])))
    (leads_next (at_name name old) cols at column name there (leads name)))

-- the same of columns as a loop has them
pub lead_item : (items cols : List Column) (at : ℕ) (column : Column) (old new : List (List ℕ × ℕ)) → items ≡ cols → at < length items → column ≡ get_or items at column → LeadFirst at old cols
    → ((other : List ℕ) → at_name other new ≡ placed_first (at_name other old) column.name at other) → LeadFirst (at + 1) new cols
lead_item items cols at column old new same within item leads added =
    lead_next cols at column old new (subst (λ (cs : List Column). at < length cs) same within) (subst (λ (cs : List Column). column ≡ get_or cs at column) same item) leads added

leads_to : (place : Option ℕ) (cols : List Column) (found : Option Column) → Leads cols place found → column_at cols place ≡ found
leads_to None cols found none = sym none
leads_to (Some at) cols found there = there.1 ∙ sym there.2

-- all columns
pub lead_all : (cols : List Column) (count : ℕ) (places : List (List ℕ × ℕ)) → take count cols ≡ cols → LeadFirst count places cols → LeadTo places cols
lead_all cols count places all leads name = leads_to (at_name name places) cols (column_named cols name) (subst (λ (cs : List Column). Leads cols (at_name name places) (column_named cs name)) all (leads name))
