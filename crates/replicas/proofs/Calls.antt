-- What a call changes is apart, and a new store is new.
use Rattle.std.proofs.Common.{◌≡◌, ◌⊎◌, inl, inr, Bool, true, false, ◌||◌, List, [], ◌∷◌, Option, Some, None, cond, refl, sym, ◌∙◌, ap, subst}
use Rattle.std.specs.Prelude.{codes}
use Rattle.std.specs.Cmp.Lexicographic.{slice_cmp}
use Rattle.std.specs.List.{AllByRecursion, list_all}
use Rattle.std.specs.Map.{lookup}
use Rattle.std.specs.List.Sorted.{IsStrictlySortedBy}
use Rattle.std.specs.Ordering.{nat_cmp}
use Rattle.cat_objects.specs.Catalogue.{at_name, database, empty_database, is_name, parts_of, tables_of}
use Rattle.cat_objects.specs.Changes.{are_puts, is_any, is_one, puts_under}
use Rattle.cat_objects.specs.declared.held.HeldDb.{HeldDb}
use Rattle.cat_objects.specs.declared.held.HeldTable.{HeldTable}
use Rattle.cat_objects.proofs.Rising.{none_rise}
use Rattle.cat_objects.proofs.Taking.{first_of, last_of}
use Rattle.cat_types.specs.declared.changes.Op.{Op}
use Rattle.cat_types.specs.declared.changes.Op.TheVariants.{DropDb, DropPart, DropTable, MovePart, MoveTable, PutDb, PutPart, PutTable}
use Rattle.replicas.specs.Catalogues.{objects_in, shown_db}
use Rattle.replicas.specs.Histories.{OtherValues, ValuesDiffer}
use Rattle.replicas.specs.Life.{HasDb}
use Rattle.replicas.specs.Objects.{Name, Values}
use Rattle.replicas.specs.Source.{AllApart, Each, IsApart}
use Rattle.replicas.specs.StoreLaws.{CallsAreApart, NewStoresAreNew, RisingIsInOrder}
use Rattle.replicas.proofs.TablesDone.{Rises, ValuesRise}

-- ---- puts of partitions

-- an operation that puts a partition
abbrev pub PutsPart : Op → Type 0
PutsPart (PutDb rec) = ⊥
PutsPart DropDb = ⊥
PutsPart (PutTable n b rec) = ⊥
PutsPart (DropTable n b) = ⊥
PutsPart (MoveTable n b to rec) = ⊥
PutsPart (PutPart n b v rec) = Unit {0}
PutsPart (DropPart n b v) = ⊥
PutsPart (MovePart n b v to rec) = ⊥

puts_are : (n : Name) (op : Op) → puts_under n op ≡ true → PutsPart op
puts_are n (PutDb rec) is = absurd cc
puts_are n DropDb is = absurd cc
puts_are n (PutTable m b rec) is = absurd cc
puts_are n (DropTable m b) is = absurd cc
puts_are n (MoveTable m b to rec) is = absurd cc
puts_are n (PutPart m b v rec) is = tt
puts_are n (DropPart m b v) is = absurd cc
puts_are n (MovePart m b v to rec) is = absurd cc

all_put : (n : Name) (ops : List Op) → list_all (puts_under n) ops ≡ true → Each PutsPart ops
all_put n [] is = tt
all_put n (op ∷ ops) is = (puts_are n op (first_of (puts_under n op) (list_all (puts_under n) ops) is), all_put n ops (last_of (puts_under n op) (list_all (puts_under n) ops) is))

-- two of them with other values are apart
apart_of : (op later : Op) → PutsPart op → PutsPart later → OtherValues op later → IsApart op later
apart_of (PutPart n b v rec) (PutPart m c w other) p q off = record {
  db = λ t u. t;
  tabs = λ k t u. t;
  parts = λ k x t u. off v refl (ap (λ (y : Values). Some y) (sym u.1 ∙ t.1));
  under = λ k x t u. u;
}
apart_of (PutPart n b v rec) (PutDb other) p q off = absurd q
apart_of (PutPart n b v rec) DropDb p q off = absurd q
apart_of (PutPart n b v rec) (PutTable m c other) p q off = absurd q
apart_of (PutPart n b v rec) (DropTable m c) p q off = absurd q
apart_of (PutPart n b v rec) (MoveTable m c to other) p q off = absurd q
apart_of (PutPart n b v rec) (DropPart m c w) p q off = absurd q
apart_of (PutPart n b v rec) (MovePart m c w to other) p q off = absurd q
apart_of (PutDb rec) later p q off = absurd p
apart_of DropDb later p q off = absurd p
apart_of (PutTable n b rec) later p q off = absurd p
apart_of (DropTable n b) later p q off = absurd p
apart_of (MoveTable n b to rec) later p q off = absurd p
apart_of (DropPart n b v) later p q off = absurd p
apart_of (MovePart n b v to rec) later p q off = absurd p

each_apart : (op : Op) (ops : List Op) → PutsPart op → Each PutsPart ops → Each (OtherValues op) ops → Each (IsApart op) ops
each_apart op [] p all off = tt
each_apart op (later ∷ ops) p all off = (apart_of op later p all.0 off.0, each_apart op ops p all.1 off.1)

puts_apart : (ops : List Op) → Each PutsPart ops → ValuesDiffer ops → AllApart ops
puts_apart [] all off = tt
puts_apart (op ∷ ops) all off = (each_apart op ops all.0 all.1 off.0, puts_apart ops all.1 off.1)

are_put : (ops : List Op) → are_puts ops ≡ true → Each PutsPart ops
are_put [] is = absurd cc
are_put (PutDb rec ∷ ops) is = absurd cc
are_put (DropDb ∷ ops) is = absurd cc
are_put (PutTable n b rec ∷ ops) is = absurd cc
are_put (DropTable n b ∷ ops) is = absurd cc
are_put (MoveTable n b to rec ∷ ops) is = absurd cc
are_put (PutPart n b v rec ∷ ops) is = (tt, all_put n ops is)
are_put (DropPart n b v ∷ ops) is = absurd cc
are_put (MovePart n b v to rec ∷ ops) is = absurd cc

one_apart : (ops : List Op) → is_one is_any ops ≡ true → AllApart ops
one_apart [] is = tt
one_apart (op ∷ []) is = (tt, tt)
one_apart (op ∷ next ∷ ops) is = absurd cc

pub calls_are_apart : CallsAreApart
calls_are_apart ops is off = by (is_one is_any ops) refl
  where
    by : (b : Bool) → is_one is_any ops ≡ b → AllApart ops
    by true one = one_apart ops one
    by false none = puts_apart ops (are_put ops (let same : (is_one is_any ops || are_puts ops) ≡ are_puts ops = ap (λ (b : Bool). b || are_puts ops) none in sym same ∙ is)) off

-- ---- a new store

start_by : (b : Bool) → ((objects_in (cond b (Some empty_database) None)).db ≡ None) ⊎ HasDb 0 (objects_in (cond b (Some empty_database) None))
start_by true = inr (record { held = shown_db empty_database; is = refl; born = refl })
start_by false = inl refl

nothing_by : (b : Bool) (n : Name) → (objects_in (cond b (Some empty_database) None)).tab n ≡ None
nothing_by true n = refl
nothing_by false n = refl

rise_by : (b : Bool) → Rises (tables_of (cond b (Some empty_database) None))
rise_by true = none_rise (slice_cmp nat_cmp)
rise_by false = none_rise (slice_cmp nat_cmp)

parts_by : (b : Bool) (n : Name) → ValuesRise (parts_of (at_name n (tables_of (cond b (Some empty_database) None))))
parts_by true n = none_rise (slice_cmp (slice_cmp nat_cmp))
parts_by false n = none_rise (slice_cmp (slice_cmp nat_cmp))

pub new_stores : NewStoresAreNew
unfolding IsStrictlySortedBy
new_stores = record {
  databases = λ w. start_by (is_name w (codes "default"));
  no_tables = λ w n. nothing_by (is_name w (codes "default")) n;
  order = record {
    names = (tt, tt);
    tables = λ w. rise_by (is_name w (codes "default"));
    parts = λ w n. parts_by (is_name w (codes "default")) n;
  };
}

-- ---- rising entries

found_all : {K X : Type 0} (P : X → Type 0) (test : K → Bool) (es : List (K × X)) → AllByRecursion (λ e. P e.1) es → (x : X) → lookup test es ≡ Some x → P x
found_all P test [] all x is = absurd cc
found_all {X = X} P test (e ∷ es) all x is = by (test e.0) is (found_all P test es all.1 x)
  where
    by : (b : Bool) → cond b (Some e.1) (lookup test es) ≡ Some x → (lookup test es ≡ Some x → P x) → P x
    by true here more = subst P (inside e.1 x here) all.0
      where
        inside : (a b : X) → Some a ≡ Some b → a ≡ b
        inside a b f = cc
    by false later more = more later

abbrev TablesUp : HeldDb → Type 0
TablesUp held = Rises held.tables

abbrev PartsUp : HeldTable → Type 0
PartsUp held = ValuesRise held.parts

abbrev AllPartsUp : HeldDb → Type 0
AllPartsUp held = AllByRecursion (λ (t : Name × HeldTable). PartsUp t.1) held.tables

tables_up : (o : Option HeldDb) → ((held : HeldDb) → o ≡ Some held → TablesUp held) → Rises (tables_of o)
tables_up None all = none_rise (slice_cmp nat_cmp)
tables_up (Some held) all = all held refl

parts_up : (o : Option HeldTable) → ((held : HeldTable) → o ≡ Some held → PartsUp held) → ValuesRise (parts_of o)
parts_up None all = none_rise (slice_cmp (slice_cmp nat_cmp))
parts_up (Some held) all = all held refl

under_up : (o : Option HeldDb) → ((held : HeldDb) → o ≡ Some held → AllPartsUp held) → (n : Name) → ValuesRise (parts_of (at_name n (tables_of o)))
under_up None all n = none_rise (slice_cmp (slice_cmp nat_cmp))
under_up (Some held) all n = parts_up (at_name n held.tables) (λ t is. found_all PartsUp (is_name n) held.tables (all held refl) t is)

pub rising_is_in_order : RisingIsInOrder
rising_is_in_order cat names tables parts = record {
  names = names;
  tables = λ w. tables_up (database cat w) (λ held is. found_all TablesUp (is_name w) cat.databases tables held is);
  parts = λ w n. under_up (database cat w) (λ held is. found_all AllPartsUp (is_name w) cat.databases parts held is) n;
}
