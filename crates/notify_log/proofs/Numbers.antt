-- Events that are numbered one after the other.
use Rattle.std.proofs.Common.{◌≡◌, ◌==◌, refl, sym, ap, subst, ℕ, zero, suc, ◌+◌, ◌<◌, ◌≤◌, nat_lt, List, [], ◌∷◌, ◌++◌, length, drop, slice_get, true, false, Option, Some, None, Bor, arith}
use Rattle.std.specs.Option.{option_copied}
use Rattle.std.specs.Slice.{IsItemAt}
use Rattle.std.proofs.lemmas.Bool.{eq-eqb, le-ltb, lt-ltb, ne_eqb}
use Rattle.std.proofs.lemmas.Option.{slice_get_past, slice_get_read}
use Rattle.cat_types.specs.declared.changes.Event.{Event}
use Rattle.notify_log.specs.Logs.{AreNumbered, event_with, events_above}

-- all of them are above a number below the first
pub all_above : (first id : ℕ) (es : List Event) → AreNumbered first es → id < first → events_above id es ≡ es
all_above first id [] numbered below = refl
all_above first id (e ∷ es) numbered below =
    let test : nat_lt id e.id ≡ true = lt-ltb id e.id (omega (arith, numbered.0)) in
    rw test (ap (λ rest. e ∷ rest) (all_above (first + 1) id es numbered.1 (omega arith)))

-- those above a number are those behind as many as have a number up to it
pub above_drops : (n first id : ℕ) (es : List Event) → AreNumbered first es → id + 1 ≡ first + n → events_above id es ≡ drop n es
above_drops zero first id es numbered count = all_above first id es numbered (omega arith)
above_drops (suc n) first id [] numbered count = refl
above_drops (suc n) first id (e ∷ es) numbered count =
    let test : nat_lt id e.id ≡ false = le-ltb id e.id (omega (arith, numbered.0)) in
    rw test (above_drops n (first + 1) id es numbered.1 (omega arith))

-- and none where all have a number up to it
pub none_above : (first id : ℕ) (es : List Event) → AreNumbered first es → first + length es ≤ id + 1 → events_above id es ≡ drop (length es) es
none_above first id [] numbered above = refl
none_above first id (e ∷ es) numbered above =
    let test : nat_lt id e.id ≡ false = le-ltb id e.id (omega (arith, numbered.0)) in
    rw test (none_above (first + 1) id es numbered.1 (omega arith))

-- none has a number below the first
pub none_with : (first id : ℕ) (es : List Event) → AreNumbered first es → id < first → event_with id es ≡ None
none_with first id [] numbered below = refl
none_with first id (e ∷ es) numbered below =
    let test : (e.id == id) ≡ false = ne_eqb e.id id (λ same. omega (arith, same, numbered.0)) in
    rw test (none_with (first + 1) id es numbered.1 (omega arith))

-- the one with a number stands as far behind the first as its number is
pub event_at : (n first id : ℕ) (es : List Event) → AreNumbered first es → id ≡ first + n → event_with id es ≡ slice_get es n
event_at n first id [] numbered same = refl
event_at zero first id (e ∷ es) numbered same =
    let test : (e.id == id) ≡ true = eq-eqb e.id id (omega (arith, numbered.0)) in
    rw test refl
event_at (suc n) first id (e ∷ es) numbered same =
    let test : (e.id == id) ≡ false = ne_eqb e.id id (λ equal. omega (arith, equal, numbered.0)) in
    rw test (event_at n (first + 1) id es numbered.1 (omega arith))

-- what a queue lends at a place is its element there
pub lent : {X : Type 0} (xs : List X) (i : ℕ) (r : Option (Bor X)) → IsItemAt xs i r → option_copied r ≡ slice_get xs i
lent xs i None is = sym (slice_get_past xs i is.3)
lent xs i (Some x) is = sym (slice_get_read xs (length xs) i x.now refl is.3.0 is.1)

pub numbered_push : (first : ℕ) (es : List Event) (e : Event) → AreNumbered first es → e.id ≡ first + length es → AreNumbered first (es ++ e ∷ [])
numbered_push first [] e numbered same = (omega (arith, same), tt)
numbered_push first (x ∷ es) e numbered same = (numbered.0, numbered_push (first + 1) es e numbered.1 (omega (arith, same)))

pub numbered_drop : (n first : ℕ) (es : List Event) → AreNumbered first es → AreNumbered (first + n) (drop n es)
numbered_drop zero first es numbered =
    let same : first ≡ first + 0 = omega arith in
    subst (λ m. AreNumbered m es) same numbered
numbered_drop (suc n) first [] numbered = tt
numbered_drop (suc n) first (e ∷ es) numbered =
    let same : first + 1 + n ≡ first + suc n = omega arith in
    subst (λ m. AreNumbered m (drop n es)) same (numbered_drop n (first + 1) es numbered.1)

-- a log that is pushed to, and one from whose front some are taken off
abbrev pub KeepsNumbers : ℕ → List Event → ℕ → Type 0
KeepsNumbers first events count = AreNumbered first events × (first + count < 18446744073709551616)

pub pushed : (first count new : ℕ) (es fs : List Event) (e : Event) → AreNumbered first es → count ≡ length es → e.id ≡ first + length es → e.id < 18446744073709551615 → fs ≡ es ++ e ∷ [] → new ≡ count + 1 → KeepsNumbers first fs new
pushed first count new es fs e numbered same next below items long =
    (subst (λ xs. AreNumbered first xs) (sym items) (numbered_push first es e numbered next), omega (arith, same, next, long))
