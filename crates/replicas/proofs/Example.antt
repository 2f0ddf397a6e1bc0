-- The example meets what the laws ask for.
use Rattle.std.proofs.Common.{◌≡◌, ℕ, zero, suc, ◌≤◌, ◌<◌, Bool, true, false, [], ◌∷◌, cond, Some, None, refl, sym, ◌∙◌, ap, subst, arith, add-one}
use Rattle.std.specs.Option.{option_map}
use Rattle.cat_objects.specs.Catalogue.{is_name, parts_of}
use Rattle.cat_objects.specs.Changes.{done, takes_change}
use Rattle.cat_objects.specs.Parts.{PartList, at_values}
use Rattle.cat_objects.specs.declared.held.HeldTable.{HeldTable}
use Rattle.cat_types.specs.declared.changes.Op.TheVariants.{MoveTable, PutPart, PutTable}
use Rattle.cat_values.specs.declared.records.PartRec.{PartRec}
use Rattle.replicas.specs.Catalogues.{shown_table}
use Rattle.replicas.specs.Example.{ExampleGoesLive, ExampleIsDumped, ExampleIsHistory, event_of, made_at, other_table, the_cats, the_changes, the_db, the_items, the_part, the_table, the_values}
use Rattle.replicas.specs.Histories.{BornsAreNew, source_of}
use Rattle.replicas.specs.Life.{ops_of}
use Rattle.replicas.specs.Objects.{Name, Values, Table, SameMarks}
use Rattle.replicas.specs.Source.{AllApart, Each, IsNoMove}
use Rattle.replicas.specs.Stands.{StandsEvents, UnderTable}
use Rattle.replicas.specs.Stores.{RedoesEvents, Store, replayed, replica_of}
use Rattle.replicas.proofs.Basics.{not_both}
use Rattle.replicas.proofs.Calls.{new_stores}
use Rattle.replicas.proofs.Effects.{replays_are_done}
use Rattle.replicas.proofs.Histories.{stay_in_order}
use Rattle.replicas.proofs.Stores.{go_live, stay_live}

the_taken : (e : ℕ) → e < 5 → takes_change (the_cats e) (suc e) (the_changes (suc e)) ≡ true
the_taken zero lt = refl
the_taken (suc zero) lt = refl
the_taken (suc (suc zero)) lt = refl
the_taken (suc (suc (suc zero))) lt = refl
the_taken (suc (suc (suc (suc zero)))) lt = refl
the_taken (suc (suc (suc (suc (suc k))))) lt = absurd (omega (arith, lt))

the_new : (e : ℕ) → e < 5 → BornsAreNew (suc e) (the_changes (suc e)).db (the_changes (suc e)).db_born (the_cats e) (the_changes (suc e)).ops
the_new zero lt = (tt, tt)
the_new (suc zero) lt = (λ none. refl, tt)
the_new (suc (suc zero)) lt = (tt, tt)
the_new (suc (suc (suc zero))) lt = (λ none. absurd (not_both none refl), tt)
the_new (suc (suc (suc (suc zero)))) lt = (tt, tt)
the_new (suc (suc (suc (suc (suc k))))) lt = absurd (omega (arith, lt))

the_apart : (e : ℕ) → e < 5 → AllApart (the_changes (suc e)).ops
the_apart zero lt = (tt, tt)
the_apart (suc zero) lt = (tt, tt)
the_apart (suc (suc zero)) lt = (tt, tt)
the_apart (suc (suc (suc zero))) lt = (tt, tt)
the_apart (suc (suc (suc (suc zero)))) lt = (tt, tt)
the_apart (suc (suc (suc (suc (suc k))))) lt = absurd (omega (arith, lt))

pub is_history : ExampleIsHistory
is_history = record {
  start = new_stores;
  next = λ e low lt. subst (λ (k : ℕ). the_cats k ≡ done (the_changes k) (the_cats e)) (sym (add-one e)) refl;
  taken = λ e low lt. subst (λ (k : ℕ). takes_change (the_cats e) k (the_changes k) ≡ true) (sym (add-one e)) (the_taken e lt);
  news = λ e low lt. subst (λ (k : ℕ). BornsAreNew k (the_changes k).db (the_changes k).db_born (the_cats e) (the_changes k).ops) (sym (add-one e)) (the_new e lt);
  apart = λ e low lt. subst (λ (k : ℕ). AllApart (the_changes k).ops) (sym (add-one e)) (the_apart e lt);
}

-- ---- the items

abbrev table_with : ℕ → PartList → HeldTable
table_with moment parts = record { born = 2; rec = made_at moment; parts = parts }

tab_by : (c : Bool) (x : Table) → option_map shown_table (cond c (Some (table_with 0 ((the_values, the_part) ∷ []))) None) ≡ Some x → option_map shown_table (cond c (Some (table_with 0 [])) None) ≡ Some x
tab_by true x is = is
tab_by false x is = is

none_by : (c : Bool) → option_map shown_table (cond c (Some (table_with 0 ((the_values, the_part) ∷ []))) None) ≡ None → option_map shown_table (cond c (Some (table_with 0 [])) None) ≡ None
none_by true is = absurd cc
none_by false is = is

no_parts : (c : Bool) (w : Values) → at_values w (parts_of (cond c (Some (table_with 0 [])) None)) ≡ None
no_parts true w = refl
no_parts false w = refl

part_by : (c : Bool) (n : Name) (w : Values) (p : PartRec) → is_name n the_table ≡ c → at_values w (parts_of (cond c (Some (table_with 0 ((the_values, the_part) ∷ []))) None)) ≡ Some p
    → UnderTable (source_of the_db the_cats) 2 4 (replica_of the_db the_items) n w p
part_by false n w p at is = absurd cc
part_by true n w p at is = record {
  table = (2, made_at 0);
  there = ap (λ (c : Bool). option_map shown_table (cond c (Some (table_with 0 ((the_values, the_part) ∷ []))) None)) at;
  part = record {
    within = omega arith;
    is = record {
      table = record {
        table = (2, made_at 1);
        is = ap (λ (c : Bool). option_map shown_table (cond c (Some (table_with 1 ((the_values, the_part) ∷ []))) None)) at;
        born = refl;
      };
      part = ap (λ (c : Bool). at_values w (parts_of (cond c (Some (table_with 1 ((the_values, the_part) ∷ []))) None))) at ∙ is;
    };
  };
}

the_stands : StandsEvents (source_of the_db the_cats) 2 2 4 (replica_of the_db the_items)
the_stands = record {
  begun = omega arith;
  in_range = omega arith;
  db_there = record { value = _; is = refl };
  db = λ h is. record { within = omega arith; is = is };
  tables = λ n x is. record { within = omega arith; is = tab_by (is_name n the_table) x is };
  absent = λ n is. record { number = 2; above = omega arith; within = omega arith; is = none_by (is_name n the_table) is };
  parts = λ n w p is. part_by (is_name n the_table) n w p refl is;
  missing = λ b n w gone. record { number = 2; above = omega arith; within = omega arith; is = λ h. not_both (no_parts (is_name n the_table) w) h.part.is };
}

the_still : (e : ℕ) → 2 < e → e ≤ 4 → Each IsNoMove (ops_of the_db 1 the_changes e)
the_still zero low high = absurd (omega (arith, low))
the_still (suc zero) low high = absurd (omega (arith, low))
the_still (suc (suc zero)) low high = absurd (omega (arith, low))
the_still (suc (suc (suc zero))) low high = (tt, tt)
the_still (suc (suc (suc (suc zero)))) low high = (tt, tt)
the_still (suc (suc (suc (suc (suc k))))) low high = absurd (omega (arith, high))

pub is_dumped : ExampleIsDumped
is_dumped = record {
  begun = record { held = _; is = refl; born = refl };
  ended = record { held = _; is = refl; born = refl };
  still = the_still;
  numbered = (refl, refl, (refl, refl, refl));
  order = stay_in_order the_cats the_changes 0 5 3 is_history (omega arith) (omega arith);
  stands = the_stands;
}

-- ---- the replays

marks_same : (s : Store) → SameMarks s.marks s.marks
marks_same s = record { db = refl; tab = λ n. refl; par = λ n w. refl }

abbrev behind_third : Store
behind_third = replayed the_db 1 3 (PutPart the_table 2 the_values the_part) the_items

abbrev behind_fourth : Store
behind_fourth = replayed the_db 1 4 (PutTable the_table 2 (made_at 1)) behind_third

abbrev behind_fifth : Store
behind_fifth = replayed the_db 1 5 (MoveTable the_table 2 other_table (made_at 2)) behind_fourth

pub goes_live : ExampleGoesLive
goes_live =
    let first = replays_are_done the_db 1 3 (PutPart the_table 2 the_values the_part) the_items in
    let second = replays_are_done the_db 1 4 (PutTable the_table 2 (made_at 1)) behind_third in
    let third = replays_are_done the_db 1 5 (MoveTable the_table 2 other_table (made_at 2)) behind_fourth in
    let replays : RedoesEvents the_db 1 (event_of 3 ∷ event_of 4 ∷ []) the_items behind_fourth = (behind_third, (behind_third, first, (refl, marks_same behind_third)), (behind_fourth, (behind_fourth, second, (refl, marks_same behind_fourth)), (refl, marks_same behind_fourth))) in
    let goes_on : RedoesEvents the_db 1 (event_of 5 ∷ []) behind_fourth behind_fifth = (behind_fifth, (behind_fifth, third, (refl, marks_same behind_fifth)), (refl, marks_same behind_fifth)) in
    let live = go_live the_db the_db the_cats the_changes 0 5 1 2 2 4 1 (event_of 3 ∷ event_of 4 ∷ []) the_items behind_fourth is_history (omega arith) (omega arith) is_dumped.begun is_dumped.ended the_still is_dumped.numbered is_dumped.order replays the_stands in
    let stays = stay_live the_db the_db the_cats the_changes 0 5 1 4 4 5 1 (event_of 5 ∷ []) behind_fourth behind_fifth is_history (omega arith) (omega arith) (omega arith) (omega arith) is_dumped.ended (record { held = _; is = refl; born = refl }) (refl, refl, refl) live.1 goes_on live.0 in record {
      store = behind_fourth;
      replays = replays;
      live = live.0;
      next = behind_fifth;
      goes_on = goes_on;
      stays_live = stays.0;
    }
