-- What fits is lawful and finds what it needs, and what is both fits.
use Rattle.std.proofs.lemmas.Map.Lookups.{exact_bytes}
use Rattle.std.proofs.Common.{◌≡◌, ℕ, Bool, true, false, not, ◌&&◌, ◌==◌, nat_le, List, [], ◌∷◌, length, Option, Some, None, is_some, cond, refl, sym, ap, ◌∙◌}
use Rattle.std.specs.Cmp.Lexicographic.{nat_list_cmp_total, slice_cmp}
use Rattle.std.specs.List.{list_all}
use Rattle.std.specs.Ordering.{nat_cmp}
use Rattle.cat_rules.specs.Tables.{do_fit_together}
use Rattle.cat_types.specs.declared.changes.Op.{Op}
use Rattle.cat_types.specs.declared.changes.Op.TheVariants.{DropDb, DropPart, DropTable, MovePart, MoveTable, PutDb, PutPart, PutTable}
use Rattle.cat_values.specs.Names.{is_object_name}
use Rattle.cat_values.specs.declared.records.TableRec.{TableRec}
use Rattle.cat_objects.specs.Catalogue.{Catalogue, at_name, database, has_part, has_table, is_name, table, tables_of}
use Rattle.cat_objects.specs.Changes.{can_hold, fits_op, fits_over, is_drop_db, is_lawful_table, is_table_born, is_valid_value}
use Rattle.cat_objects.specs.Lawful.{FittingFinds, FittingIsLawful, LawfulThatFindsFits, finds, is_lawful, keeps_keys, may_stand, names_in, takes_values}
use Rattle.cat_objects.specs.declared.held.HeldTable.{HeldTable}
use Rattle.cat_objects.proofs.Maps.{equal_of}
use Rattle.cat_objects.proofs.Taking.{first_of, last_of}

pub both : {a b : Bool} → a ≡ true → b ≡ true → (a && b) ≡ true
both {a} {b} one two = ap (λ (x : Bool). x && b) one ∙ two

-- ---- parts of the tests

holds_then : (born : ℕ) (values : List (List ℕ)) (o : Option HeldTable) → can_hold born values o ≡ true → (is_table_born born o ≡ true) × (takes_values values o ≡ true)
holds_then born values None is = absurd cc
holds_then born values (Some held) is = (
  first_of (held.born == born) (nat_le 1 (length held.rec.keys) && ((length values == length held.rec.keys) && list_all is_valid_value values)) is,
  last_of (held.born == born) (nat_le 1 (length held.rec.keys) && ((length values == length held.rec.keys) && list_all is_valid_value values)) is,
)

then_holds : (born : ℕ) (values : List (List ℕ)) (o : Option HeldTable) → is_table_born born o ≡ true → takes_values values o ≡ true → can_hold born values o ≡ true
then_holds born values None is takes = absurd cc
then_holds born values (Some held) is takes = both is takes

over_then : (born : ℕ) (rec : TableRec) (o : Option HeldTable) → fits_over born rec o ≡ true → keeps_keys rec o ≡ true
over_then born rec None is = refl
over_then born rec (Some held) is = last_of (held.born == born) (length held.rec.keys == length rec.keys) is

then_over : (born : ℕ) (rec : TableRec) (o : Option HeldTable) → is_table_born born o ≡ true → keeps_keys rec o ≡ true → fits_over born rec o ≡ true
then_over born rec None is keeps = absurd cc
then_over born rec (Some held) is keeps = both is keeps

one_named : (name : List ℕ) → is_object_name name ≡ true → list_all is_object_name (name ∷ []) ≡ true
one_named name is = both is refl

-- ---- a table that is there has an object name

names_equal : (x y : List ℕ) → is_name x y ≡ true → x ≡ y
names_equal x y is = exact_bytes x y (equal_of (slice_cmp nat_cmp x y) is)

module _ (name : List ℕ) where
  named_by : (b : Bool) (e : List ℕ × HeldTable) (es : List (List ℕ × HeldTable)) (held : HeldTable) → is_name name e.0 ≡ b → (is_object_name e.0 && list_all (λ entry. is_object_name entry.0) es) ≡ true
      → cond b (Some e.1) (at_name name es) ≡ Some held → (list_all (λ entry. is_object_name entry.0) es ≡ true → at_name name es ≡ Some held → is_object_name name ≡ true) → is_object_name name ≡ true
  named_by true e es held is all found more = ap is_object_name (names_equal name e.0 is) ∙ first_of (is_object_name e.0) (list_all (λ entry. is_object_name entry.0) es) all
  named_by false e es held is all found more = more (last_of (is_object_name e.0) (list_all (λ entry. is_object_name entry.0) es) all) found

  named : (es : List (List ℕ × HeldTable)) (held : HeldTable) → list_all (λ entry. is_object_name entry.0) es ≡ true → at_name name es ≡ Some held → is_object_name name ≡ true
  named [] held all found = absurd cc
  named (e ∷ es) held all found = named_by (is_name name e.0) e es held refl all found (named es held)

born_named : (cat : Catalogue) (db name : List ℕ) (born : ℕ) → list_all (λ entry. is_object_name entry.0) (tables_of (database cat db)) ≡ true → is_table_born born (table cat db name) ≡ true → is_object_name name ≡ true
born_named cat db name born all is = by_found (table cat db name) refl is
  where
    by_found : (o : Option HeldTable) → table cat db name ≡ o → is_table_born born o ≡ true → is_object_name name ≡ true
    by_found None found is = absurd cc
    by_found (Some held) found is = named name (tables_of (database cat db)) held all found

-- ---- what fits is lawful

pub fitting_is_lawful : FittingIsLawful
fitting_is_lawful cat db (PutDb rec) all is = refl
fitting_is_lawful cat db DropDb all is = absurd cc
fitting_is_lawful cat db (PutTable name born rec) all is =
    let lawful : is_lawful_table name rec ≡ true = first_of (is_lawful_table name rec) (fits_over born rec (table cat db name)) is in
    both (one_named name (first_of (is_object_name name) (do_fit_together rec.sd.cols rec.keys) lawful))
    (both (last_of (is_object_name name) (do_fit_together rec.sd.cols rec.keys) lawful) (last_of (is_lawful_table name rec) (fits_over born rec (table cat db name)) is))
fitting_is_lawful cat db (DropTable name born) all is = both (one_named name (born_named cat db name born all is)) refl
fitting_is_lawful cat db (MoveTable name born to rec) all is =
    let rest : (fits_over born rec (table cat db name) && (is_lawful_table to rec && not (has_table cat db to))) ≡ true =
    last_of (is_table_born born (table cat db name)) (fits_over born rec (table cat db name) && (is_lawful_table to rec && not (has_table cat db to))) is in
    let last : (is_lawful_table to rec && not (has_table cat db to)) ≡ true = last_of (fits_over born rec (table cat db name)) (is_lawful_table to rec && not (has_table cat db to)) rest in
    let lawful : is_lawful_table to rec ≡ true = first_of (is_lawful_table to rec) (not (has_table cat db to)) last in
    both
    (both (born_named cat db name born all (first_of (is_table_born born (table cat db name)) (fits_over born rec (table cat db name) && (is_lawful_table to rec && not (has_table cat db to))) is))
    (one_named to (first_of (is_object_name to) (do_fit_together rec.sd.cols rec.keys) lawful)))
    (both (last_of (is_object_name to) (do_fit_together rec.sd.cols rec.keys) lawful)
    (both (over_then born rec (table cat db name) (first_of (fits_over born rec (table cat db name)) (is_lawful_table to rec && not (has_table cat db to)) rest))
    (last_of (is_lawful_table to rec) (not (has_table cat db to)) last)))
fitting_is_lawful cat db (PutPart name born values rec) all is =
    let holds : (is_table_born born (table cat db name) ≡ true) × (takes_values values (table cat db name) ≡ true) = holds_then born values (table cat db name) is in
    both (one_named name (born_named cat db name born all holds.0)) holds.1
fitting_is_lawful cat db (DropPart name born values) all is =
    both (one_named name (born_named cat db name born all (first_of (is_table_born born (table cat db name)) (has_part cat db name values) is))) refl
fitting_is_lawful cat db (MovePart name born values to rec) all is =
    let holds : (is_table_born born (table cat db name) ≡ true) × (takes_values to (table cat db name) ≡ true) =
    holds_then born to (table cat db name) (first_of (can_hold born to (table cat db name)) (has_part cat db name values && not (has_part cat db name to)) is) in
    both (one_named name (born_named cat db name born all holds.0))
    (both holds.1
    (last_of (has_part cat db name values) (not (has_part cat db name to)) (last_of (can_hold born to (table cat db name)) (has_part cat db name values && not (has_part cat db name to)) is)))

-- ---- what fits finds what it needs

pub fitting_finds : FittingFinds
fitting_finds cat db (PutDb rec) is = refl
fitting_finds cat db DropDb is = absurd cc
fitting_finds cat db (PutTable name born rec) is = refl
fitting_finds cat db (DropTable name born) is = is
fitting_finds cat db (MoveTable name born to rec) is = first_of (is_table_born born (table cat db name)) (fits_over born rec (table cat db name) && (is_lawful_table to rec && not (has_table cat db to))) is
fitting_finds cat db (PutPart name born values rec) is = (holds_then born values (table cat db name) is).0
fitting_finds cat db (DropPart name born values) is = is
fitting_finds cat db (MovePart name born values to rec) is =
    both (holds_then born to (table cat db name) (first_of (can_hold born to (table cat db name)) (has_part cat db name values && not (has_part cat db name to)) is)).0
    (first_of (has_part cat db name values) (not (has_part cat db name to)) (last_of (can_hold born to (table cat db name)) (has_part cat db name values && not (has_part cat db name to)) is))

-- ---- what is lawful and finds what it needs fits

pub lawful_that_finds_fits : LawfulThatFindsFits
lawful_that_finds_fits cat db (PutDb rec) stays is found = refl
lawful_that_finds_fits cat db DropDb stays is found = absurd cc
lawful_that_finds_fits cat db (PutTable name born rec) stays is found =
    let stands : may_stand cat db (PutTable name born rec) ≡ true = last_of (list_all is_object_name (name ∷ [])) (may_stand cat db (PutTable name born rec)) is in
    let named : list_all is_object_name (name ∷ []) ≡ true = first_of (list_all is_object_name (name ∷ [])) (may_stand cat db (PutTable name born rec)) is in
    both (both (first_of (is_object_name name) true named) (first_of (do_fit_together rec.sd.cols rec.keys) (fits_over born rec (table cat db name)) stands))
    (last_of (do_fit_together rec.sd.cols rec.keys) (fits_over born rec (table cat db name)) stands)
lawful_that_finds_fits cat db (DropTable name born) stays is found = found
lawful_that_finds_fits cat db (MoveTable name born to rec) stays is found =
    let stands : may_stand cat db (MoveTable name born to rec) ≡ true = last_of (list_all is_object_name (name ∷ to ∷ [])) (may_stand cat db (MoveTable name born to rec)) is in
    let named : list_all is_object_name (to ∷ []) ≡ true = last_of (is_object_name name) (list_all is_object_name (to ∷ [])) (first_of (list_all is_object_name (name ∷ to ∷ [])) (may_stand cat db (MoveTable name born to rec)) is) in
    let last : (keeps_keys rec (table cat db name) && not (has_table cat db to)) ≡ true = last_of (do_fit_together rec.sd.cols rec.keys) (keeps_keys rec (table cat db name) && not (has_table cat db to)) stands in
    both found
    (both (then_over born rec (table cat db name) found (first_of (keeps_keys rec (table cat db name)) (not (has_table cat db to)) last))
    (both (both (first_of (is_object_name to) true named) (first_of (do_fit_together rec.sd.cols rec.keys) (keeps_keys rec (table cat db name) && not (has_table cat db to)) stands))
    (last_of (keeps_keys rec (table cat db name)) (not (has_table cat db to)) last)))
lawful_that_finds_fits cat db (PutPart name born values rec) stays is found =
    then_holds born values (table cat db name) found (last_of (list_all is_object_name (name ∷ [])) (may_stand cat db (PutPart name born values rec)) is)
lawful_that_finds_fits cat db (DropPart name born values) stays is found = found
lawful_that_finds_fits cat db (MovePart name born values to rec) stays is found =
    let stands : may_stand cat db (MovePart name born values to rec) ≡ true = last_of (list_all is_object_name (name ∷ [])) (may_stand cat db (MovePart name born values to rec)) is in
    both
    (then_holds born to (table cat db name) (first_of (is_table_born born (table cat db name)) (has_part cat db name values) found) (first_of (takes_values to (table cat db name)) (not (has_part cat db name to)) stands))
    (both (last_of (is_table_born born (table cat db name)) (has_part cat db name values) found) (last_of (takes_values to (table cat db name)) (not (has_part cat db name to)) stands))
