-- The last of the items and events that were told.
use Rattle.std.proofs.Common.{◌≡◌, ℕ, zero, suc, ◌-◌, List, [], ◌∷◌, ◌++◌, length, Option, Some, refl, sym, ◌∙◌, ap, subst, arith}
use Rattle.std.specs.Prelude.{slice_get}
use Rattle.std.specs.List.{AllByRecursion}
use Rattle.cat_types.specs.declared.changes.Event.{Event}
use Rattle.cat_types.specs.declared.items.Item.{Item}
use Rattle.cat_types.specs.declared.items.Item.TheVariants as item
use Rattle.desk.specs.Walks.{last_number, last_values}
use Rattle.repl_dump.specs.Turns.{IsPart}

values_both : (values : Option (List (List ℕ))) (front : List Item) (last : Item) → last_values values (front ++ last ∷ []) ≡ last_values (last_values values front) (last ∷ [])
values_both values [] last = refl
values_both values (item.Part at table born its rec ∷ front) last = values_both (Some its) front last
values_both values (item.Table at table born rec ∷ front) last = values_both values front last
values_both values (item.Db at born rec ∷ front) last = values_both values front last

pub values_found : (values : Option (List (List ℕ))) (items front : List Item) (last : Item) (its : List (List ℕ)) → front ++ last ∷ [] ≡ items → ((so_far : Option (List (List ℕ))) → last_values so_far (last ∷ []) ≡ Some its)
    → Some its ≡ last_values values items
values_found values items front last its is found = sym (ap (λ l. last_values values l) (sym is) ∙ (values_both values front last ∙ found (last_values values front)))

last_fits : (P : Item → Type 0) (front : List Item) (last : Item) → AllByRecursion P (front ++ last ∷ []) → P last
last_fits P [] last all = all.0
last_fits P (x ∷ front) last all = last_fits P front last all.1

pub last_is_part : (items front : List Item) (last : Item) → front ++ last ∷ [] ≡ items → AllByRecursion IsPart items → IsPart last
last_is_part items front last is all = last_fits IsPart front last (subst (λ l. AllByRecursion IsPart l) (sym is) all)

number_at : (after : ℕ) (events : List Event) (i : ℕ) (event : Event) → suc i ≡ length events → slice_get events i ≡ Some event → event.id ≡ last_number after events
number_at after [] i event count is = absurd (omega (arith, count))
number_at after (x ∷ []) zero event count is =
    let same : x ≡ event = cc in
    ap (λ (e : Event). e.id) (sym same)
number_at after (x ∷ []) (suc i) event count is = absurd (omega (arith, count))
number_at after (x ∷ (y ∷ l)) zero event count is = absurd (omega (arith, count))
number_at after (x ∷ (y ∷ l)) (suc i) event count is = number_at x.id (y ∷ l) i event (omega (arith, count)) is

pub number_found : (after : ℕ) (events shown : List Event) (event : Event) → shown ≡ events → Some event ≡ slice_get shown (length shown - 1) → event.id ≡ last_number after events
number_found after events [] event same is = absurd cc
number_found after events (x ∷ l) event same is =
    let place : suc (length l) - 1 ≡ length l = omega arith in
    subst (λ es. event.id ≡ last_number after es) same (number_at after (x ∷ l) (length l) event refl (sym (is ∙ ap (λ i. slice_get (x ∷ l) i) place)))
