-- Operations done on a catalogue are done on the objects of their database, and leave those of the others.
use Rattle.std.proofs.Common.{◌≡◌, inl, inr, ℕ, Bool, true, false, List, [], ◌∷◌, cond, Option, Some, None, refl, sym, ◌∙◌, ap, subst}
use Rattle.std.specs.Cmp.Lexicographic.{nat_list_cmp_total, slice_cmp}
use Rattle.std.specs.List.Sorted.{IsStrictlySortedBy}
use Rattle.std.specs.Map.{keys_of}
use Rattle.std.specs.Option.{option_map}
use Rattle.std.specs.Ordering.{nat_cmp}
use Rattle.cat_objects.specs.Catalogue.{Catalogue, at_name, database, is_name, parts_of, put_at, tables_of}
use Rattle.cat_objects.specs.Changes.{changed_in, changed_parts, changed_tables, done_op, done_ops, is_drop_db, moved_table, put_table, with_record, with_tables, without_table}
use Rattle.cat_objects.specs.Parts.{PartList, at_values, moved_part, put_part, without_part}
use Rattle.cat_objects.specs.declared.held.HeldDb.{HeldDb}
use Rattle.cat_objects.specs.declared.held.HeldTable.{HeldTable}
use Rattle.cat_objects.proofs.Editing.{Tables}
use Rattle.cat_objects.proofs.Found.{found_apart, found_changed, found_put, found_removed}
use Rattle.cat_objects.proofs.Maps.{set_changed}
use Rattle.cat_objects.proofs.Rising.{none_rise, rising_put, rising_remove, rising_set}
use Rattle.cat_objects.proofs.Seeing.{after_is, db_after, db_rises, tables_after}
use Rattle.cat_types.specs.declared.changes.Op.{Op}
use Rattle.cat_types.specs.declared.changes.Op.TheVariants.{DropDb, DropPart, DropTable, MovePart, MoveTable, PutDb, PutPart, PutTable}
use Rattle.cat_values.specs.declared.records.PartRec.{PartRec}
use Rattle.replicas.specs.Catalogues.{IsInOrder, objects_in, objects_of, shown_table}
use Rattle.replicas.specs.Objects.{Name, Values, Table, Objects, Has, SameObjects}
use Rattle.replicas.specs.Operations.{Fits, Done}
use Rattle.replicas.proofs.Basics.{Same, same_name, not_both}
use Rattle.replicas.proofs.Keys.{name_here, name_off}
use Rattle.replicas.proofs.TablesDone.{Rises, ValuesRise, change_absent, change_keeps, change_off, change_tab, change_there, drop_here, drop_off, made, move_from, move_off, move_to, part_drop_here, part_drop_off, part_drop_rises, part_move_from, part_move_off, part_move_rises, part_move_to, part_put_here, part_put_off, part_put_rises, put_here, put_off, put_parts, seen_par, seen_tab}

-- ---- one database

apart_names : (n to : Name) (s : Objects) → Has (s.tab n) → s.tab to ≡ None → to ≡ n → ⊥
apart_names n to s h gone e = not_both (subst (λ (k : Name). s.tab k ≡ None) e gone) h.is

apart_values : (n : Name) (v to : Values) (s : Objects) → Has (s.par n v) → s.par n to ≡ None → to ≡ v → ⊥
apart_values n v to s h gone e = not_both (subst (λ (k : Values). s.par n k ≡ None) e gone) h.is

abbrev as_shown : Option HeldTable → Option Table
as_shown o = option_map shown_table o

abbrev as_found : Values → Option HeldTable → Option PartRec
as_found w o = at_values w (parts_of o)

-- values under a name of which some were changed
by_values : (n : Name) (change : PartList → PartList) (tables : Tables) (m : Name) (w : Values) → Same m n → (m ≡ n → (parts : PartList) → at_values w (change parts) ≡ at_values w parts) → seen_par m w (changed_parts n change tables) ≡ seen_par m w tables
by_values n change tables m w (inl at) keeps = subst (λ (k : Name). seen_par k w (changed_parts n change tables) ≡ seen_par k w tables) (sym at) (change_keeps n change tables w (keeps at))
by_values n change tables m w (inr off) keeps = ap (at_values w) (change_off n change tables m off)

-- what an operation does to a database that is there
pub done_in : (born : ℕ) (op : Op) (held : HeldDb) → Rises held.tables → ((n : Name) → ValuesRise (parts_of (at_name n held.tables))) → Fits op (objects_in (Some held)) → Done op (objects_in (Some held)) (objects_in (db_after born op (Some held)))
done_in born (PutDb rec) held rise parts fits = record { tabs = λ m off. refl; parts = λ m w off. refl; puts = refl }
done_in born DropDb held rise parts fits = absurd fits
done_in born (PutTable n b rec) held rise parts fits = record {
  tabs = λ m off. ap as_shown (put_off n (made n b rec held.tables) held.tables m off);
  parts = λ m w off. ap (at_values w) (put_parts n b rec held.tables m);
  puts = (refl, ap as_shown (put_here n (made n b rec held.tables) held.tables));
}
done_in born (DropTable n b) held rise parts fits = record {
  tabs = λ m off. ap as_shown (drop_off n held.tables rise m off);
  parts = λ m w off. ap (as_found w) (drop_off n held.tables rise m off);
  puts = (refl, ap as_shown (drop_here n held.tables rise), λ w. ap (as_found w) (drop_here n held.tables rise));
}
done_in born (MoveTable n b to rec) held rise parts fits =
    let apart : to ≡ n → ⊥ = apart_names n to (objects_in (Some held)) (record { value = fits.0.table; is = fits.0.is }) fits.2 in record {
      tabs = λ m off. ap as_shown (move_off n to b rec held.tables rise m (λ x. off (inl x)) (λ x. off (inr x)));
      parts = λ m w off. ap (as_found w) (move_off n to b rec held.tables rise m (λ x. off (inl x)) (λ x. off (inr x)));
      puts = (
        refl,
        ap as_shown (move_from n to b rec held.tables rise),
        ap as_shown (move_to n to b rec held.tables rise apart),
        λ w. ap (as_found w) (move_from n to b rec held.tables rise),
        λ w. ap (as_found w) (move_to n to b rec held.tables rise apart),
      );
    }
done_in born (PutPart n b v rec) held rise parts fits = record {
  tabs = λ m off. change_tab n (put_part v rec) held.tables m;
  parts = λ m w off. by_values n (put_part v rec) held.tables m w (same_name m n) (λ at list. part_put_off v list rec w (λ x. off (at, x)));
  puts = (refl, ap (at_values v) (change_there n (put_part v rec) held.tables fits.table fits.is) ∙ part_put_here v (parts_of (at_name n held.tables)) rec);
}
done_in born (DropPart n b v) held rise parts fits = record {
  tabs = λ m off. change_tab n (without_part v) held.tables m;
  parts = λ m w off. by_values n (without_part v) held.tables m w (same_name m n) (λ at list. part_drop_off v list w (λ x. off (at, x)));
  puts = (refl, ap (at_values v) (change_there n (without_part v) held.tables fits.0.table fits.0.is) ∙ part_drop_here v (parts_of (at_name n held.tables)) (parts n));
}
done_in born (MovePart n b v to rec) held rise parts fits =
    let apart : to ≡ v → ⊥ = apart_values n v to (objects_in (Some held)) fits.1 fits.2 in
    let there = change_there n (moved_part v to rec) held.tables fits.0.table fits.0.is in record {
      tabs = λ m off. change_tab n (moved_part v to rec) held.tables m;
      parts = λ m w off. by_values n (moved_part v to rec) held.tables m w (same_name m n) (λ at list. part_move_off v to rec list w (λ x. off (at, inl x)) (λ x. off (at, inr x)));
      puts = (refl, ap (at_values v) there ∙ part_move_from v to rec (parts_of (at_name n held.tables)) (parts n), ap (at_values to) there ∙ part_move_to v to rec (parts_of (at_name n held.tables)) apart);
    }

-- ---- a catalogue

not_drop : (op : Op) (s : Objects) → Fits op s → is_drop_db op ≡ false
not_drop (PutDb rec) s fits = refl
not_drop DropDb s fits = absurd fits
not_drop (PutTable n b rec) s fits = refl
not_drop (DropTable n b) s fits = refl
not_drop (MoveTable n b to rec) s fits = refl
not_drop (PutPart n b v rec) s fits = refl
not_drop (DropPart n b v) s fits = refl
not_drop (MovePart n b v to rec) s fits = refl

pub done_by_catalogue : (d : Name) (born : ℕ) (op : Op) (cat : Catalogue) → IsInOrder cat → Has (objects_of d cat).db → Fits op (objects_of d cat) → Done op (objects_of d cat) (objects_of d (done_op d born cat op))
done_by_catalogue d born op cat order there fits =
    subst (λ (o : Option HeldDb). Done op (objects_of d cat) (objects_in o)) (sym (after_is cat d born op (not_drop op (objects_of d cat) fits)))
    (by (database cat d) refl (order.tables d) (order.parts d) there fits)
  where
    by : (o : Option HeldDb) → database cat d ≡ o → Rises (tables_of o) → ((n : Name) → ValuesRise (parts_of (at_name n (tables_of o)))) → Has (objects_in o).db → Fits op (objects_in o) → Done op (objects_in o) (objects_in (db_after born op o))
    by None is rise parts has fit = absurd (not_both refl has.is)
    by (Some held) is rise parts has fit = done_in born op held rise parts fit

-- what is the same database has the same objects
pub same_in : (o p : Option HeldDb) → p ≡ o → SameObjects (objects_in o) (objects_in p)
same_in o p is = record {
  db = ap (λ (x : Option HeldDb). (objects_in x).db) is;
  tab = λ n. ap (λ (x : Option HeldDb). (objects_in x).tab n) is;
  par = λ n w. ap (λ (x : Option HeldDb). (objects_in x).par n w) is;
}

-- other databases stay
changed_off : (o : Option HeldDb) (d u : Name) (change : Tables → Tables) (cat : Catalogue) → database cat d ≡ o → (u ≡ d → ⊥) → database (changed_in o d change cat) u ≡ database cat u
changed_off None d u change cat is off = refl
changed_off (Some held) d u change cat is off =
    ap (λ (dbs : List (Name × HeldDb)). at_name u dbs) (set_changed (is_name d) (λ (x : HeldDb). with_tables (change held.tables) held) cat.databases held is)
    ∙ found_changed (slice_cmp nat_cmp) nat_list_cmp_total u d (λ (x : HeldDb). with_tables (change held.tables) held) cat.databases
    ∙ ap (λ (c : Bool). cond c (option_map (λ (x : HeldDb). with_tables (change held.tables) held) (database cat u)) (database cat u)) (name_off u d off)

tables_off : (d u : Name) (change : Tables → Tables) (cat : Catalogue) → (u ≡ d → ⊥) → database (changed_tables d change cat) u ≡ database cat u
tables_off d u change cat off = changed_off (database cat d) d u change cat refl off

pub other_stays : (d : Name) (born : ℕ) (op : Op) (cat : Catalogue) (u : Name) → (u ≡ d → ⊥) → database (done_op d born cat op) u ≡ database cat u
other_stays d born (PutDb rec) cat u off = put_off_db d (with_record born rec (database cat d)) cat u off
  where
    put_off_db : (d : Name) (held : HeldDb) (cat : Catalogue) (u : Name) → (u ≡ d → ⊥) → at_name u (put_at d held cat.databases) ≡ database cat u
    put_off_db d held cat u off = found_put (slice_cmp nat_cmp) nat_list_cmp_total u d held cat.databases ∙ ap (λ (c : Bool). cond c (Some held) (database cat u)) (name_off u d off)
other_stays d born DropDb cat u off = found_apart (slice_cmp nat_cmp) nat_list_cmp_total u d cat.databases (name_off u d off)
other_stays d born (PutTable n b rec) cat u off = tables_off d u (put_table n b rec) cat off
other_stays d born (DropTable n b) cat u off = tables_off d u (without_table n) cat off
other_stays d born (MoveTable n b to rec) cat u off = tables_off d u (moved_table n to b rec) cat off
other_stays d born (PutPart n b v rec) cat u off = tables_off d u (changed_parts n (put_part v rec)) cat off
other_stays d born (DropPart n b v) cat u off = tables_off d u (changed_parts n (without_part v)) cat off
other_stays d born (MovePart n b v to rec) cat u off = tables_off d u (changed_parts n (moved_part v to rec)) cat off

pub others_stay : (d : Name) (born : ℕ) (ops : List Op) (cat : Catalogue) (u : Name) → (u ≡ d → ⊥) → database (done_ops d born cat ops) u ≡ database cat u
others_stay d born [] cat u off = refl
others_stay d born (op ∷ ops) cat u off = others_stay d born ops (done_op d born cat op) u off ∙ other_stays d born op cat u off

-- a dropped database is gone
pub dropped_is_gone : (d : Name) (born : ℕ) (cat : Catalogue) → IsInOrder cat → database (done_op d born cat DropDb) d ≡ None
dropped_is_gone d born cat order = found_removed (slice_cmp nat_cmp) nat_list_cmp_total d d cat.databases order.names ∙ ap (λ (c : Bool). cond c None (database cat d)) (name_here d)

-- ---- the order stays

values_by : (n : Name) (change : PartList → PartList) (tables : Tables) → ((parts : PartList) → ValuesRise parts → ValuesRise (change parts)) → ((m : Name) → ValuesRise (parts_of (at_name m tables))) → (m : Name) → ValuesRise (parts_of (at_name m (changed_parts n change tables)))
values_by n change tables keeps all m = elim (same_name m n) [
  | inl at ↦ subst (λ (k : Name). ValuesRise (parts_of (at_name k (changed_parts n change tables)))) (sym at) (here (at_name n tables) refl (seen_tab n tables) refl)
  | inr off ↦ subst ValuesRise (sym (change_off n change tables m off)) (all m)
]
  where
    here : (o : Option HeldTable) → at_name n tables ≡ o → (x : Option Table) → seen_tab n tables ≡ x → ValuesRise (parts_of (at_name n (changed_parts n change tables)))
    here o is None none = subst ValuesRise (sym (change_absent n change tables none)) (none_rise (slice_cmp (slice_cmp nat_cmp)))
    here o is (Some x) there = subst ValuesRise (sym (change_there n change tables x there)) (keeps (parts_of (at_name n tables)) (all n))

tables_keep : (op : Op) (tables : Tables) → Rises tables → ((m : Name) → ValuesRise (parts_of (at_name m tables))) → (m : Name) → ValuesRise (parts_of (at_name m (tables_after op tables)))
tables_keep (PutDb rec) tables rise all m = all m
tables_keep DropDb tables rise all m = all m
tables_keep (PutTable n b rec) tables rise all m = subst ValuesRise (sym (put_parts n b rec tables m)) (all m)
tables_keep (DropTable n b) tables rise all m = elim (same_name m n) [
  | inl at ↦ subst (λ (k : Name). ValuesRise (parts_of (at_name k (without_table n tables)))) (sym at) (subst (λ (o : Option HeldTable). ValuesRise (parts_of o)) (sym (drop_here n tables rise)) (none_rise (slice_cmp (slice_cmp nat_cmp))))
  | inr off ↦ subst (λ (o : Option HeldTable). ValuesRise (parts_of o)) (sym (drop_off n tables rise m off)) (all m)
]
tables_keep (MoveTable n b to rec) tables rise all m = elim (same_name m n) [
  | inl at ↦ subst (λ (k : Name). ValuesRise (parts_of (at_name k (moved_table n to b rec tables)))) (sym at) (subst (λ (o : Option HeldTable). ValuesRise (parts_of o)) (sym (move_from n to b rec tables rise)) (none_rise (slice_cmp (slice_cmp nat_cmp))))
  | inr off ↦ elim (same_name m to) [
    | inl at ↦ subst (λ (k : Name). (k ≡ n → ⊥) → ValuesRise (parts_of (at_name k (moved_table n to b rec tables)))) (sym at) (λ apart. subst (λ (o : Option HeldTable). ValuesRise (parts_of o)) (sym (move_to n to b rec tables rise apart)) (all n)) off
    | inr off2 ↦ subst (λ (o : Option HeldTable). ValuesRise (parts_of o)) (sym (move_off n to b rec tables rise m off off2)) (all m)
  ]
]
tables_keep (PutPart n b v rec) tables rise all m = values_by n (put_part v rec) tables (λ list up. part_put_rises v list rec up) all m
tables_keep (DropPart n b v) tables rise all m = values_by n (without_part v) tables (λ list up. part_drop_rises v list up) all m
tables_keep (MovePart n b v to rec) tables rise all m = values_by n (moved_part v to rec) tables (λ list up. part_move_rises v to rec list up) all m

no_values : ValuesRise []
no_values = none_rise (slice_cmp (slice_cmp nat_cmp))

database_keeps : (born : ℕ) (op : Op) (o : Option HeldDb) → Rises (tables_of o) → ((m : Name) → ValuesRise (parts_of (at_name m (tables_of o)))) → (m : Name) → ValuesRise (parts_of (at_name m (tables_of (db_after born op o))))
database_keeps born (PutDb rec) None rise all m = no_values
database_keeps born (PutDb rec) (Some held) rise all m = all m
database_keeps born DropDb o rise all m = all m
database_keeps born (PutTable n b rec) None rise all m = no_values
database_keeps born (PutTable n b rec) (Some held) rise all m = tables_keep (PutTable n b rec) held.tables rise all m
database_keeps born (DropTable n b) None rise all m = no_values
database_keeps born (DropTable n b) (Some held) rise all m = tables_keep (DropTable n b) held.tables rise all m
database_keeps born (MoveTable n b to rec) None rise all m = no_values
database_keeps born (MoveTable n b to rec) (Some held) rise all m = tables_keep (MoveTable n b to rec) held.tables rise all m
database_keeps born (PutPart n b v rec) None rise all m = no_values
database_keeps born (PutPart n b v rec) (Some held) rise all m = tables_keep (PutPart n b v rec) held.tables rise all m
database_keeps born (DropPart n b v) None rise all m = no_values
database_keeps born (DropPart n b v) (Some held) rise all m = tables_keep (DropPart n b v) held.tables rise all m
database_keeps born (MovePart n b v to rec) None rise all m = no_values
database_keeps born (MovePart n b v to rec) (Some held) rise all m = tables_keep (MovePart n b v to rec) held.tables rise all m

abbrev NamesRise : Catalogue → Type 0
NamesRise cat = IsStrictlySortedBy (slice_cmp nat_cmp) (keys_of cat.databases)

names_in : (o : Option HeldDb) (d : Name) (change : Tables → Tables) (cat : Catalogue) → NamesRise cat → NamesRise (changed_in o d change cat)
names_in None d change cat rise = rise
names_in (Some held) d change cat rise = rising_set (slice_cmp nat_cmp) (is_name d) cat.databases (with_tables (change held.tables) held) rise

names_keep : (d : Name) (born : ℕ) (op : Op) (cat : Catalogue) → NamesRise cat → NamesRise (done_op d born cat op)
names_keep d born (PutDb rec) cat rise = rising_put (slice_cmp nat_cmp) nat_list_cmp_total d (with_record born rec (database cat d)) cat.databases rise
names_keep d born DropDb cat rise = rising_remove (slice_cmp nat_cmp) (is_name d) cat.databases rise
names_keep d born (PutTable n b rec) cat rise = names_in (database cat d) d (put_table n b rec) cat rise
names_keep d born (DropTable n b) cat rise = names_in (database cat d) d (without_table n) cat rise
names_keep d born (MoveTable n b to rec) cat rise = names_in (database cat d) d (moved_table n to b rec) cat rise
names_keep d born (PutPart n b v rec) cat rise = names_in (database cat d) d (changed_parts n (put_part v rec)) cat rise
names_keep d born (DropPart n b v) cat rise = names_in (database cat d) d (changed_parts n (without_part v)) cat rise
names_keep d born (MovePart n b v to rec) cat rise = names_in (database cat d) d (changed_parts n (moved_part v to rec)) cat rise

-- the database itself, dropped or not
abbrev Orderly : Option HeldDb → Type 0
Orderly o = Rises (tables_of o) × ((m : Name) → ValuesRise (parts_of (at_name m (tables_of o))))

own_keeps : (b : Bool) (d : Name) (born : ℕ) (op : Op) (cat : Catalogue) → is_drop_db op ≡ b → IsInOrder cat → Orderly (database (done_op d born cat op) d)
own_keeps false d born op cat is order = subst Orderly (sym (after_is cat d born op is)) (db_rises born op (database cat d) (order.tables d), database_keeps born op (database cat d) (order.tables d) (order.parts d))
own_keeps true d born op cat is order = dropped op is
  where
    dropped : (op : Op) → is_drop_db op ≡ true → Orderly (database (done_op d born cat op) d)
    dropped (PutDb rec) off = absurd (cc)
    dropped DropDb off = subst Orderly (sym (dropped_is_gone d born cat order)) (none_rise (slice_cmp nat_cmp), λ m. no_values)
    dropped (PutTable n b rec) off = absurd (cc)
    dropped (DropTable n b) off = absurd (cc)
    dropped (MoveTable n b to rec) off = absurd (cc)
    dropped (PutPart n b v rec) off = absurd (cc)
    dropped (DropPart n b v) off = absurd (cc)
    dropped (MovePart n b v to rec) off = absurd (cc)

each_keeps : (d : Name) (born : ℕ) (op : Op) (cat : Catalogue) → IsInOrder cat → (w : Name) → Orderly (database (done_op d born cat op) w)
each_keeps d born op cat order w = elim (same_name w d) [
  | inl at ↦ subst (λ (k : Name). Orderly (database (done_op d born cat op) k)) (sym at) (own_keeps (is_drop_db op) d born op cat refl order)
  | inr off ↦ subst Orderly (sym (other_stays d born op cat w off)) (order.tables w, order.parts w)
]

pub order_stays : (d : Name) (born : ℕ) (op : Op) (cat : Catalogue) → IsInOrder cat → IsInOrder (done_op d born cat op)
order_stays d born op cat order = record {
  names = names_keep d born op cat order.names;
  tables = λ w. (each_keeps d born op cat order w).0;
  parts = λ w n. (each_keeps d born op cat order w).1 n;
}

pub orders_stay : (d : Name) (born : ℕ) (ops : List Op) (cat : Catalogue) → IsInOrder cat → IsInOrder (done_ops d born cat ops)
orders_stay d born [] cat order = order
orders_stay d born (op ∷ ops) cat order = orders_stay d born ops (done_op d born cat op) (order_stays d born op cat order)
