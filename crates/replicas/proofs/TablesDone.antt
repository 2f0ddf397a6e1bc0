-- What an operation does to tables and their partitions, seen by look-ups.
use Rattle.std.proofs.Common.{◌≡◌, inl, inr, ℕ, Bool, true, false, [], cond, Option, Some, None, refl, sym, ◌∙◌, ap, subst}
use Rattle.std.specs.Cmp.{IsTotalOrder}
use Rattle.std.specs.Cmp.Lexicographic.{lists_total, nat_list_cmp_total, slice_cmp}
use Rattle.std.specs.List.Sorted.{IsStrictlySortedBy}
use Rattle.std.specs.Map.{keys_of}
use Rattle.std.specs.Option.{option_map}
use Rattle.std.specs.Ordering.{nat_cmp}
use Rattle.cat_objects.specs.Catalogue.{at_name, is_name, parts_of, put_at}
use Rattle.cat_objects.specs.Changes.{changed_parts, moved_table, put_table, with_parts, without_table}
use Rattle.cat_objects.specs.Parts.{PartList, are_values, at_values, moved_part, put_part, without_part}
use Rattle.cat_objects.specs.declared.held.HeldTable.{HeldTable}
use Rattle.cat_objects.proofs.Editing.{Tables}
use Rattle.cat_objects.proofs.Found.{found_apart, found_changed, found_own, found_put, found_removed}
use Rattle.cat_objects.proofs.Rising.{rising_put, rising_remove}
use Rattle.cat_values.specs.declared.records.PartRec.{PartRec}
use Rattle.cat_values.specs.declared.records.TableRec.{TableRec}
use Rattle.replicas.specs.Catalogues.{shown_table}
use Rattle.replicas.specs.Objects.{Name, Values, Table}
use Rattle.replicas.proofs.Basics.{same_name}
use Rattle.replicas.proofs.Keys.{name_here, name_off, values_here, values_off}

abbrev pub Rises : Tables → Type 0
Rises tables = IsStrictlySortedBy (slice_cmp nat_cmp) (keys_of tables)

abbrev pub ValuesRise : PartList → Type 0
ValuesRise parts = IsStrictlySortedBy (slice_cmp (slice_cmp nat_cmp)) (keys_of parts)

-- what stands at a name, and at values under it
abbrev pub seen_tab : Name → Tables → Option Table
seen_tab n tables = option_map shown_table (at_name n tables)

abbrev pub seen_par : Name → Values → Tables → Option PartRec
seen_par n w tables = at_values w (parts_of (at_name n tables))

values_total : IsTotalOrder (slice_cmp (slice_cmp nat_cmp))
values_total = lists_total nat_list_cmp_total

-- ---- a table that is put

abbrev pub made : Name → ℕ → TableRec → Tables → HeldTable
made n b rec tables = record { born = b; rec = rec; parts = parts_of (at_name n tables) }

module _ (n : Name) (held : HeldTable) (tables : Tables) where
  pub put_here : at_name n (put_at n held tables) ≡ Some held
  put_here = found_own (slice_cmp nat_cmp) nat_list_cmp_total n held tables

  pub put_off : (m : Name) → (m ≡ n → ⊥) → at_name m (put_at n held tables) ≡ at_name m tables
  put_off m off = found_put (slice_cmp nat_cmp) nat_list_cmp_total m n held tables ∙ ap (λ (c : Bool). cond c (Some held) (at_name m tables)) (name_off m n off)

  pub put_rises : Rises tables → Rises (put_at n held tables)
  put_rises rise = rising_put (slice_cmp nat_cmp) nat_list_cmp_total n held tables rise

module _ (n : Name) (b : ℕ) (rec : TableRec) (tables : Tables) where
  -- its partitions stay
  pub put_parts : (m : Name) → parts_of (at_name m (put_table n b rec tables)) ≡ parts_of (at_name m tables)
  put_parts m = elim (same_name m n) [
    | inl at ↦ subst (λ (k : Name). parts_of (at_name k (put_table n b rec tables)) ≡ parts_of (at_name k tables)) (sym at) (ap parts_of (put_here n (made n b rec tables) tables))
    | inr off ↦ ap parts_of (put_off n (made n b rec tables) tables m off)
  ]

-- ---- a table that is dropped

module _ (n : Name) (tables : Tables) (rise : Rises tables) where
  pub drop_here : at_name n (without_table n tables) ≡ None
  drop_here = found_removed (slice_cmp nat_cmp) nat_list_cmp_total n n tables rise ∙ ap (λ (c : Bool). cond c None (at_name n tables)) (name_here n)

  pub drop_off : (m : Name) → (m ≡ n → ⊥) → at_name m (without_table n tables) ≡ at_name m tables
  drop_off m off = found_removed (slice_cmp nat_cmp) nat_list_cmp_total m n tables rise ∙ ap (λ (c : Bool). cond c None (at_name m tables)) (name_off m n off)

-- ---- a table that moves

module _ (n to : Name) (b : ℕ) (rec : TableRec) (tables : Tables) (rise : Rises tables) where
  rise_between : Rises (put_at to (made n b rec tables) tables)
  rise_between = put_rises to (made n b rec tables) tables rise

  pub move_from : at_name n (moved_table n to b rec tables) ≡ None
  move_from = drop_here n (put_at to (made n b rec tables) tables) rise_between

  pub move_to : (to ≡ n → ⊥) → at_name to (moved_table n to b rec tables) ≡ Some (made n b rec tables)
  move_to apart = drop_off n (put_at to (made n b rec tables) tables) rise_between to apart ∙ put_here to (made n b rec tables) tables

  pub move_off : (m : Name) → (m ≡ n → ⊥) → (m ≡ to → ⊥) → at_name m (moved_table n to b rec tables) ≡ at_name m tables
  move_off m off off2 = drop_off n (put_at to (made n b rec tables) tables) rise_between m off ∙ put_off to (made n b rec tables) tables m off2

-- ---- a table whose partitions change

abbrev on_parts : (PartList → PartList) → HeldTable → HeldTable
on_parts change held = with_parts (change held.parts) held

same_shown : (c : Bool) (change : PartList → PartList) (o : Option HeldTable) → option_map shown_table (cond c (option_map (on_parts change) o) o) ≡ option_map shown_table o
same_shown true change None = refl
same_shown true change (Some held) = refl
same_shown false change o = refl

module _ (n : Name) (change : PartList → PartList) (tables : Tables) where
  found_after : (m : Name) → at_name m (changed_parts n change tables) ≡ cond (is_name m n) (option_map (on_parts change) (at_name m tables)) (at_name m tables)
  found_after m = found_changed (slice_cmp nat_cmp) nat_list_cmp_total m n (on_parts change) tables

  -- tables stay
  pub change_tab : (m : Name) → seen_tab m (changed_parts n change tables) ≡ seen_tab m tables
  change_tab m = ap (λ (o : Option HeldTable). option_map shown_table o) (found_after m) ∙ same_shown (is_name m n) change (at_name m tables)

  pub change_off : (m : Name) → (m ≡ n → ⊥) → parts_of (at_name m (changed_parts n change tables)) ≡ parts_of (at_name m tables)
  change_off m off = ap parts_of (found_after m ∙ ap (λ (c : Bool). cond c (option_map (on_parts change) (at_name m tables)) (at_name m tables)) (name_off m n off))

  pub change_here : parts_of (at_name n (changed_parts n change tables)) ≡ parts_of (option_map (on_parts change) (at_name n tables))
  change_here = ap parts_of (found_after n ∙ ap (λ (c : Bool). cond c (option_map (on_parts change) (at_name n tables)) (at_name n tables)) (name_here n))

-- a table that is there has its partitions changed
pub change_there : (n : Name) (change : PartList → PartList) (tables : Tables) (x : Table) → seen_tab n tables ≡ Some x → parts_of (at_name n (changed_parts n change tables)) ≡ change (parts_of (at_name n tables))
change_there n change tables x is = change_here n change tables ∙ by (at_name n tables) is
  where
    by : (o : Option HeldTable) → option_map shown_table o ≡ Some x → parts_of (option_map (on_parts change) o) ≡ change (parts_of o)
    by None is = absurd (cc)
    by (Some held) is = refl

-- and one that isn't there has none
pub change_absent : (n : Name) (change : PartList → PartList) (tables : Tables) → seen_tab n tables ≡ None → parts_of (at_name n (changed_parts n change tables)) ≡ []
change_absent n change tables is = change_here n change tables ∙ by (at_name n tables) is
  where
    by : (o : Option HeldTable) → option_map shown_table o ≡ None → parts_of (option_map (on_parts change) o) ≡ []
    by None is = refl
    by (Some held) is = absurd (cc)

-- values that a change of partitions leaves
pub change_keeps : (n : Name) (change : PartList → PartList) (tables : Tables) (w : Values) → ((parts : PartList) → at_values w (change parts) ≡ at_values w parts) → seen_par n w (changed_parts n change tables) ≡ seen_par n w tables
change_keeps n change tables w keeps = ap (at_values w) (change_here n change tables) ∙ by (at_name n tables)
  where
    by : (o : Option HeldTable) → at_values w (parts_of (option_map (on_parts change) o)) ≡ at_values w (parts_of o)
    by None = refl
    by (Some held) = keeps held.parts

-- ---- partitions

module _ (v : Values) (parts : PartList) where
  pub part_put_here : (rec : PartRec) → at_values v (put_part v rec parts) ≡ Some rec
  part_put_here rec = found_own (slice_cmp (slice_cmp nat_cmp)) values_total v rec parts

  pub part_put_off : (rec : PartRec) (w : Values) → (w ≡ v → ⊥) → at_values w (put_part v rec parts) ≡ at_values w parts
  part_put_off rec w off = found_put (slice_cmp (slice_cmp nat_cmp)) values_total w v rec parts ∙ ap (λ (c : Bool). cond c (Some rec) (at_values w parts)) (values_off w v off)

  pub part_put_rises : (rec : PartRec) → ValuesRise parts → ValuesRise (put_part v rec parts)
  part_put_rises rec rise = rising_put (slice_cmp (slice_cmp nat_cmp)) values_total v rec parts rise

  pub part_drop_here : ValuesRise parts → at_values v (without_part v parts) ≡ None
  part_drop_here rise = found_removed (slice_cmp (slice_cmp nat_cmp)) values_total v v parts rise ∙ ap (λ (c : Bool). cond c None (at_values v parts)) (values_here v)

  pub part_drop_off : (w : Values) → (w ≡ v → ⊥) → at_values w (without_part v parts) ≡ at_values w parts
  part_drop_off w off = found_apart (slice_cmp (slice_cmp nat_cmp)) values_total w v parts (values_off w v off)

  pub part_drop_rises : ValuesRise parts → ValuesRise (without_part v parts)
  part_drop_rises rise = rising_remove (slice_cmp (slice_cmp nat_cmp)) (are_values v) parts rise

module _ (v to : Values) (rec : PartRec) (parts : PartList) where
  pub part_move_from : ValuesRise parts → at_values v (moved_part v to rec parts) ≡ None
  part_move_from rise = part_drop_here v (put_part to rec parts) (part_put_rises to parts rec rise)

  pub part_move_to : (to ≡ v → ⊥) → at_values to (moved_part v to rec parts) ≡ Some rec
  part_move_to apart = part_drop_off v (put_part to rec parts) to apart ∙ part_put_here to parts rec

  pub part_move_off : (w : Values) → (w ≡ v → ⊥) → (w ≡ to → ⊥) → at_values w (moved_part v to rec parts) ≡ at_values w parts
  part_move_off w off off2 = part_drop_off v (put_part to rec parts) w off ∙ part_put_off to parts rec w off2

  pub part_move_rises : ValuesRise parts → ValuesRise (moved_part v to rec parts)
  part_move_rises rise = part_drop_rises v (put_part to rec parts) (part_put_rises to parts rec rise)
