-- Partitions that are put, moved or taken back.
use Rattle.std.proofs.Common.{◌≡◌, ℕ, Bool, true, false, List, [], ◌∷◌, ◌++◌, Option, Some, None, Result, Ok, Err, IfOk, is_some, if◌then◌else◌, refl, sym, ap, subst, ◌∙◌}
use Rattle.std.specs.BTreeMap.{insert_entry}
use Rattle.std.specs.Cmp.{IsTotalOrder}
use Rattle.std.specs.Cmp.Lexicographic.{lists_total, nat_list_cmp_total, slice_cmp}
use Rattle.std.specs.Map.{set_value}
use Rattle.std.specs.Ordering.{nat_cmp}
use Rattle.cat_types.specs.declared.changes.Op.{Op}
use Rattle.cat_values.specs.declared.records.PartRec.{PartRec}
use Rattle.cat_objects.specs.Catalogue.{Catalogue, has_part, parts_of, table}
use Rattle.cat_objects.specs.Changes.{changed_parts, changed_tables, unput, unput_by}
use Rattle.cat_objects.specs.Parts.{PartList, are_values, at_values, moved_part, put_part, without_part}
use Rattle.cat_objects.specs.Placing.{put_all}
use Rattle.cat_objects.specs.declared.parts.PartPut.{PartPut}
use Rattle.cat_objects.proofs.Editing.{none_there, parts_alike, parts_composed, parts_unchanged}
use Rattle.cat_objects.proofs.Maps.{set_back, taken_out}

-- a partition that is put where none is
abbrev pub inserted_part : List (List ℕ) → PartRec → PartList → PartList
inserted_part values rec parts = insert_entry (slice_cmp (slice_cmp nat_cmp)) parts values rec

-- a partition in the place of one that is there
abbrev pub replaced_part : List (List ℕ) → PartRec → PartList → PartList
replaced_part values rec parts = set_value (are_values values) parts rec

values_total : IsTotalOrder (slice_cmp (slice_cmp nat_cmp))
values_total = lists_total nat_list_cmp_total

abbrev put_where : List (List ℕ) → PartRec → PartList → Bool → PartList
put_where values rec parts there = if there then replaced_part values rec parts else inserted_part values rec parts

pub put_absent : (values : List (List ℕ)) (rec : PartRec) (parts : PartList) → is_some (at_values values parts) ≡ false → inserted_part values rec parts ≡ put_part values rec parts
put_absent values rec parts none = sym (ap (put_where values rec parts) none)

pub put_present : (values : List (List ℕ)) (rec : PartRec) (parts : PartList) → is_some (at_values values parts) ≡ true → replaced_part values rec parts ≡ put_part values rec parts
put_present values rec parts there = sym (ap (put_where values rec parts) there)

-- a partition that was put where none was is taken out again
pub put_removed : (values : List (List ℕ)) (rec : PartRec) (parts : PartList) → is_some (at_values values parts) ≡ false → without_part values (inserted_part values rec parts) ≡ parts
put_removed values rec parts none = taken_out (slice_cmp (slice_cmp nat_cmp)) values_total parts values rec (none_there (at_values values parts) none)

replaced_back : (values : List (List ℕ)) (rec : PartRec) (parts : PartList) (o : Option PartRec) → at_values values parts ≡ o → is_some o ≡ true → unput_by o values (replaced_part values rec parts) ≡ parts
replaced_back values rec parts None is there = absurd cc
replaced_back values rec parts (Some before) is there = set_back (are_values values) parts before rec is

-- ---- one partition that is put, with what was copied for it

-- over one that is there
pub over_done : (parts after : PartList) (values : List (List ℕ)) (rec : PartRec) (copies : List (List ℕ) × PartRec) → copies ≡ (values, rec) → is_some (at_values values parts) ≡ true → after ≡ replaced_part copies.0 copies.1 parts → after ≡ put_part values rec parts
over_done parts after values rec copies are there is = is ∙ ap (λ (p : List (List ℕ) × PartRec). replaced_part p.0 p.1 parts) are ∙ put_present values rec parts there

pub over_back : (parts after : PartList) (values : List (List ℕ)) (rec : PartRec) (before : Option PartRec) (copies : List (List ℕ) × PartRec) → copies ≡ (values, rec) → is_some (at_values values parts) ≡ true → before ≡ at_values copies.0 parts
    → after ≡ replaced_part copies.0 copies.1 parts → unput_by before copies.0 after ≡ parts
over_back parts after values rec before copies are there was is =
    ap (unput_by before copies.0) is
    ∙ ap (λ (o : Option PartRec). unput_by o copies.0 (replaced_part copies.0 copies.1 parts)) was
    ∙ replaced_back copies.0 copies.1 parts (at_values copies.0 parts) refl (ap (λ (p : List (List ℕ) × PartRec). is_some (at_values p.0 parts)) are ∙ there)

-- where none is
pub new_done : (parts after : PartList) (values : List (List ℕ)) (rec : PartRec) (copies : List (List ℕ) × List (List ℕ) × PartRec) → copies ≡ (values, values, rec) → is_some (at_values values parts) ≡ false → after ≡ inserted_part copies.1 copies.2 parts → after ≡ put_part values rec parts
new_done parts after values rec copies are none is = is ∙ ap (λ (p : List (List ℕ) × List (List ℕ) × PartRec). inserted_part p.1 p.2 parts) are ∙ put_absent values rec parts none

pub new_back : (parts after : PartList) (values : List (List ℕ)) (rec : PartRec) (copies : List (List ℕ) × List (List ℕ) × PartRec) → copies ≡ (values, values, rec) → is_some (at_values values parts) ≡ false → after ≡ inserted_part copies.1 copies.2 parts → without_part copies.0 after ≡ parts
new_back parts after values rec copies are none is =
    ap (without_part copies.0) is
    ∙ ap (λ (p : List (List ℕ) × List (List ℕ) × PartRec). without_part p.0 (inserted_part p.1 p.2 parts)) are
    ∙ put_removed values rec parts none

-- ---- partitions that are put one after the other

-- the one that was put last is taken back first
pub unput_last : (puts : List PartPut) (put : PartPut) (parts : PartList) → unput (puts ++ put ∷ []) parts ≡ unput puts (unput_by put.before put.values parts)
unput_last [] put parts = refl
unput_last (p ∷ puts) put parts = ap (unput_by p.before p.values) (unput_last puts put parts)

-- what was put is taken back under the table
pub puts_back : (cat after : Catalogue) (db name : List ℕ) (ops : List Op) (puts : List PartPut) → after ≡ changed_tables db (changed_parts name (put_all ops)) cat → unput puts (put_all ops (parts_of (table cat db name))) ≡ parts_of (table cat db name)
    → changed_tables db (changed_parts name (unput puts)) after ≡ cat
puts_back cat after db name ops puts is back =
    ap (changed_tables db (changed_parts name (unput puts))) is
    ∙ parts_composed cat db name (unput puts) (put_all ops)
    ∙ parts_unchanged cat db name (λ parts. unput puts (put_all ops parts)) back

-- the same of a result, where they were put
pub placed_back : {V E : Type 0} (r : Result V E) (items : V → List PartPut) (cat after : Catalogue) (db name : List ℕ) (ops : List Op) (old new : PartList) → old ≡ parts_of (table cat db name) → IfOk r (λ puts. new ≡ put_all ops old)
    → IfOk r (λ puts. unput (items puts) new ≡ old) → IfOk r (λ puts. after ≡ changed_tables db (changed_parts name (put_all ops)) cat) → IfOk r (λ puts. changed_tables db (changed_parts name (unput (items puts))) after ≡ cat)
placed_back (Ok puts) items cat after db name ops old new were put back is =
    puts_back cat after db name ops (items puts) is (ap (λ (parts : PartList). unput (items puts) (put_all ops parts)) (sym were) ∙ ap (unput (items puts)) (sym put) ∙ back ∙ were)
placed_back (Err e) items cat after db name ops old new were put back is = back

-- ---- a partition that moves

abbrev MovedPart : Catalogue → Catalogue → List ℕ → List ℕ → List (List ℕ) → List (List ℕ) → List ℕ → List ℕ → List (List ℕ) → List (List ℕ) → PartRec → Type 0
MovedPart cat after placed under from made db name values to rec =
    (changed_tables placed (changed_parts under (without_part from)) after ≡ changed_tables db (changed_parts name (moved_part values to rec)) cat) × (changed_tables placed (changed_parts under (without_part made)) after ≡ cat)

move_part : (cat after : Catalogue) (db name : List ℕ) (values to : List (List ℕ)) (rec : PartRec) → has_part cat db name to ≡ false → after ≡ changed_tables db (changed_parts name (inserted_part to rec)) cat → MovedPart cat after db name values to db name values to rec
move_part cat after db name values to rec free is = (
  ap (changed_tables db (changed_parts name (without_part values))) is
      ∙ parts_composed cat db name (without_part values) (inserted_part to rec)
      ∙ parts_alike cat db name (λ parts. without_part values (inserted_part to rec parts)) (moved_part values to rec) (ap (without_part values) (put_absent to rec (parts_of (table cat db name)) free)),
  ap (changed_tables db (changed_parts name (without_part to))) is
      ∙ parts_composed cat db name (without_part to) (inserted_part to rec)
      ∙ parts_unchanged cat db name (λ parts. without_part to (inserted_part to rec parts)) (put_removed to rec (parts_of (table cat db name)) free),
)

-- with what was copied for it
abbrev Copies : Type 0
Copies = (List ℕ × List ℕ) × (List (List ℕ) × List (List ℕ)) × (List (List ℕ) × PartRec)

pub moved_part_copies : (cat after : Catalogue) (db name : List ℕ) (values to : List (List ℕ)) (rec : PartRec) (copies : Copies) → has_part cat db name to ≡ false → copies ≡ ((db, name), (values, to), (to, rec))
    → after ≡ changed_tables copies.0.0 (changed_parts copies.0.1 (inserted_part copies.2.0 copies.2.1)) cat
    → (changed_tables copies.0.0 (changed_parts copies.0.1 (without_part copies.1.0)) after ≡ changed_tables db (changed_parts name (moved_part values to rec)) cat) × (changed_tables copies.0.0 (changed_parts copies.0.1 (without_part copies.1.1)) after ≡ cat)
moved_part_copies cat after db name values to rec copies free are is =
    subst
    (λ (p : Copies). after ≡ changed_tables p.0.0 (changed_parts p.0.1 (inserted_part p.2.0 p.2.1)) cat → MovedPart cat after p.0.0 p.0.1 p.1.0 p.1.1 db name values to rec)
    (sym are) (move_part cat after db name values to rec free) is

-- ---- a partition that is put, by whether it is there

pub part_there : (cat : Catalogue) (db name : List ℕ) (values : List (List ℕ)) (rec : PartRec) → has_part cat db name values ≡ true → changed_tables db (changed_parts name (replaced_part values rec)) cat ≡ changed_tables db (changed_parts name (put_part values rec)) cat
part_there cat db name values rec there = parts_alike cat db name (replaced_part values rec) (put_part values rec) (put_present values rec (parts_of (table cat db name)) there)

pub part_missing : (cat : Catalogue) (db name : List ℕ) (values : List (List ℕ)) (rec : PartRec) → has_part cat db name values ≡ false → changed_tables db (changed_parts name (inserted_part values rec)) cat ≡ changed_tables db (changed_parts name (put_part values rec)) cat
part_missing cat db name values rec free = parts_alike cat db name (inserted_part values rec) (put_part values rec) (put_absent values rec (parts_of (table cat db name)) free)
