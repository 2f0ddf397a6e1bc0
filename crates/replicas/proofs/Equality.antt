-- A live replica is its source's database.
use Rattle.std.proofs.Common.{◌≡◌, ℕ, Bool, true, false, ◌&&◌, T, cond, List, [], ◌∷◌, Option, Some, None, refl, sym, ◌∙◌, ap, subst}
use Rattle.std.specs.Cmp.{IsTotalOrder}
use Rattle.std.specs.Cmp.Lexicographic.{lists_total, nat_list_cmp_total, slice_cmp}
use Rattle.std.specs.BTreeMap.{is_at}
use Rattle.std.specs.List.Sorted.{IsStrictlySortedBy}
use Rattle.std.specs.FinMap.{find, is_sorted}
use Rattle.std.specs.FinMap.Entries.{below_all, same_entries}
use Rattle.std.specs.List.{AllByRecursion}
use Rattle.std.specs.Map.{keys_of, lookup}
use Rattle.std.specs.Option.{option_map}
use Rattle.std.specs.Ordering.{is_eq, is_lt, nat_cmp}
use Rattle.std.specs.declared.cmp.Ordering.{Ordering}
use Rattle.std.specs.declared.cmp.Ordering.TheVariants.{Less}
use Rattle.cat_objects.specs.Catalogue.{Catalogue, at_name, database, parts_of, tables_of}
use Rattle.cat_objects.specs.Parts.{PartList, at_values}
use Rattle.cat_objects.specs.declared.held.HeldDb.{HeldDb}
use Rattle.cat_objects.specs.declared.held.HeldTable.{HeldTable}
use Rattle.cat_objects.proofs.Editing.{Tables}
use Rattle.cat_values.specs.declared.records.DbRec.{DbRec}
use Rattle.cat_values.specs.declared.records.TableRec.{TableRec}
use Rattle.replicas.specs.Catalogues.{IsInOrder, objects_of, shown_db, shown_table}
use Rattle.replicas.specs.Objects.{Name, Values, Table, SameObjects}
use Rattle.replicas.specs.StoreLaws.{LiveReplicasAreEqual}
use Rattle.replicas.proofs.Histories.{all_stay}
use Rattle.replicas.proofs.Keys.{Tells, name_tells, values_tell}
use Rattle.replicas.proofs.TablesDone.{Rises, ValuesRise}

-- ---- lists in order with the same look-ups

-- two spellings of std
find_is : {K X : Type 0} (R : K → K → Ordering) (q : K) (es : List (K × X)) → find R q es ≡ lookup (is_at (R q)) es
find_is R q [] = refl
find_is {X = X} R q (e ∷ es) = ap (λ (l : Option X). cond (is_eq (R q e.0)) (Some e.1) l) (find_is R q es)

both_T : (a b : Bool) → T a → T b → T (a && b)
both_T true b p q = q
both_T false b p q = p

module _ {K X : Type 0} (R : K → K → Ordering) where
  all_below : (x : K) (es : List (K × X)) → AllByRecursion (λ y. R x y ≡ Less) (keys_of es) → T (below_all R x es)
  all_below x [] all = tt
  all_below x (e ∷ es) all = both_T (is_lt (R x e.0)) (below_all R x es) (subst (λ (o : Ordering). T (is_lt o)) (sym all.0) tt) (all_below x es all.1)

  sorted_is : (es : List (K × X)) → IsStrictlySortedBy R (keys_of es) → T (is_sorted R es)
  unfolding IsStrictlySortedBy
  sorted_is [] rise = tt
  sorted_is (e ∷ es) rise = both_T (below_all R e.0 es) (is_sorted R es) (all_below e.0 es rise.0) (sorted_is es rise.1)

module _ {K X : Type 0} (R : K → K → Ordering) (laws : IsTotalOrder R) (tells : Tells R) where
  same_lists : (es fs : List (K × X)) → IsStrictlySortedBy R (keys_of es) → IsStrictlySortedBy R (keys_of fs) → ((q : K) → lookup (is_at (R q)) es ≡ lookup (is_at (R q)) fs) → es ≡ fs
  same_lists es fs rise up same =
      same_entries R laws (λ x y is. (tells x y).0 (ap is_eq is)) es fs (sorted_is R es rise) (sorted_is R fs up) (λ q. find_is R q es ∙ same q ∙ sym (find_is R q fs))

values_total : IsTotalOrder (slice_cmp (slice_cmp nat_cmp))
values_total = lists_total nat_list_cmp_total

same_parts : (es fs : PartList) → ValuesRise es → ValuesRise fs → ((v : Values) → at_values v es ≡ at_values v fs) → es ≡ fs
same_parts es fs rise up same = same_lists (slice_cmp (slice_cmp nat_cmp)) values_total values_tell es fs rise up same

same_tables : (es fs : Tables) → Rises es → Rises fs → ((n : Name) → at_name n es ≡ at_name n fs) → es ≡ fs
same_tables es fs rise up same = same_lists (slice_cmp nat_cmp) nat_list_cmp_total name_tells es fs rise up same

-- ---- tables that look the same with their partitions

-- equal parts make one table
held_again : (a b : HeldTable) → shown_table a ≡ shown_table b → a.parts ≡ b.parts → a ≡ b
held_again a b is parts =
    ap (λ (n : ℕ). table_of n a.rec a.parts) (ap (λ (x : Table). x.0) is) ∙ ap (λ (r : TableRec). table_of b.born r a.parts) (ap (λ (x : Table). x.1) is) ∙ ap (λ (l : PartList). table_of b.born b.rec l) parts
  where
    table_of : ℕ → TableRec → PartList → HeldTable
    table_of n r l = record { born = n; rec = r; parts = l }

same_table : (o p : Option HeldTable) → option_map shown_table o ≡ option_map shown_table p → parts_of o ≡ parts_of p → o ≡ p
same_table None None is parts = refl
same_table None (Some held) is parts = absurd cc
same_table (Some held) None is parts = absurd cc
same_table (Some a) (Some b) is parts = ap (λ (x : HeldTable). Some x) (held_again a b (inside (shown_table a) (shown_table b) is) parts)
  where
    inside : (x y : Table) → Some x ≡ Some y → x ≡ y
    inside x y e = cc

-- a database of its born, its record and its tables
held_db_again : (a b : HeldDb) → shown_db a ≡ shown_db b → a.tables ≡ b.tables → a ≡ b
held_db_again a b is tables =
    ap (λ (n : ℕ). database_of n a.rec a.tables) (ap (λ (x : ℕ × DbRec). x.0) is) ∙ ap (λ (r : DbRec). database_of b.born r a.tables) (ap (λ (x : ℕ × DbRec). x.1) is) ∙ ap (λ (l : Tables). database_of b.born b.rec l) tables
  where
    database_of : ℕ → DbRec → Tables → HeldDb
    database_of n r l = record { born = n; rec = r; tables = l }

same_database : (o p : Option HeldDb) → option_map shown_db o ≡ option_map shown_db p → tables_of o ≡ tables_of p → o ≡ p
same_database None None is tables = refl
same_database None (Some held) is tables = absurd cc
same_database (Some held) None is tables = absurd cc
same_database (Some a) (Some b) is tables = ap (λ (x : HeldDb). Some x) (held_db_again a b (inside (shown_db a) (shown_db b) is) tables)
  where
    inside : (x y : ℕ × DbRec) → Some x ≡ Some y → x ≡ y
    inside x y e = cc

-- the same objects in order are the same database
pub one_database : (u w : Name) (c d : Catalogue) → IsInOrder c → IsInOrder d → SameObjects (objects_of u c) (objects_of w d) → database d w ≡ database c u
one_database u w c d in_c in_d same =
    same_database (database d w) (database c u) same.db
    (same_tables (tables_of (database d w)) (tables_of (database c u)) (in_d.tables w) (in_c.tables u)
    (λ n. same_table (at_name n (tables_of (database d w))) (at_name n (tables_of (database c u))) (same.tab n)
    (same_parts (parts_of (at_name n (tables_of (database d w)))) (parts_of (at_name n (tables_of (database c u)))) (in_d.parts w n) (in_c.parts u n) (λ v. same.par n v))))

pub are_equal : LiveReplicasAreEqual
are_equal w target cats changes base newest at s h low high order stands = one_database w target (cats at) s.catalogue (all_stay cats changes base newest h at low high).order order stands.objects
