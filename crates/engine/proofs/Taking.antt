-- What a state takes can be done.
use Rattle.std.proofs.Common.{◌≡◌, ◌≤◌, ℕ, suc, ◌+◌, ◌-◌, ◌==◌, nat_le, nat_lt, Bool, true, List, [], ◌∷◌, ◌++◌, length, refl, ◌∙◌, ap, arith, length-append, length-drop}
use Rattle.std.specs.Prelude.{Some, cond, ℤ, max, min}
use Rattle.std.proofs.lemmas.Bool.Decides.{nat_tests}
use Rattle.cat_types.specs.declared.changes.Event.{Event}
use Rattle.cat_objects.specs.Changes.{takes_change}
use Rattle.cat_objects.specs.Catalogue.{Catalogue}
use Rattle.desk.specs.State.{State, events_from_number, kept, trimmed, with_written}
use Rattle.dump_steps.specs.Open.{least_begin, trim_end}
use Rattle.dump_steps.specs.declared.open_dumps.OpenDump.{OpenDump}
use Rattle.notify_log.proofs.Numbers.{above_drops}
use Rattle.notify_log.specs.Logs.{AreNumbered, events_above}
use Rattle.engine.proofs.Tests.{first_of, last_of}
use Rattle.engine.specs.Opening.{takes}

pub takes_number : (s : State) (e : Event) → takes s (kept e) ≡ true → e.id ≡ s.newest + 1
takes_number s e is =
    let same = first_of (e.id == s.newest + 1) (takes_change s.catalogue e.id e.change) is in
    grind (arith, nat_tests, same)

pub takes_bound : (s : State) (e : Event) → takes s (kept e) ≡ true → e.id ≤ 9223372036854775807
takes_bound s e is =
    let le = first_of (nat_le e.id 9223372036854775807) _ (last_of (e.id == s.newest + 1) (takes_change s.catalogue e.id e.change) is) in
    grind (arith, nat_tests, le)

-- the number behind the kept events, where one more is kept
pub next_on : (f f2 f3 newest id : ℕ) (es es2 fs : List Event) (e : Event) → f2 ≡ f → f3 ≡ f2 → es2 ≡ es → fs ≡ es2 ++ e ∷ [] → f + length es ≡ newest + 1 → id ≡ newest + 1 → 1 ≤ f → (f3 + length fs ≡ id + 1) × (1 ≤ f3)
next_on f f2 f3 newest id es es2 fs e first first2 same behind next is least =
    let n : length fs ≡ length es + 1 = ap length behind ∙ length-append es2 (e ∷ []) ∙ ap (λ (l : List Event). length l + 1) same in
    (omega (arith, n, first, first2, next, is), omega (arith, first, first2, least))

-- ---- trims

one_more : (n : ℕ) → suc n ≡ n + 1
one_more n = omega arith

-- the events from a number on are those above the one before it
from_above : (n : ℕ) (es : List Event) → events_above n es ≡ events_from_number (n + 1) es
from_above n [] = refl
from_above n (e ∷ es) = same_test (nat_lt n e.id) (nat_le (n + 1) e.id) (events_above n es) (events_from_number (n + 1) es) e (ap (λ (m : ℕ). nat_le m e.id) (one_more n)) (from_above n es)
  where
    same_test : (a b : Bool) (xs ys : List Event) (x : Event) → a ≡ b → xs ≡ ys → cond a (x ∷ xs) xs ≡ cond b (x ∷ ys) ys
    same_test a b xs ys x test rest = ap (λ (t : Bool). cond t (x ∷ xs) xs) test ∙ ap (λ (l : List Event). cond b (x ∷ l) l) rest

-- taking off the kept events up to one that comes next or later makes its next one the first kept
cut_first : (first end first2 : ℕ) → first ≤ end → first2 ≡ max first (end + 1) → first2 ≡ end + 1
cut_first first end first2 le is = omega (arith, le, is)

cut_events : (end : ℕ) (es fs : List Event) → fs ≡ events_above end es → fs ≡ events_from_number (end + 1) es
cut_events end es fs is = is ∙ from_above end es

-- the number after the newest event stays
pub cut_next : (first end newest first2 : ℕ) (es fs : List Event) → AreNumbered first es → first + length es ≡ newest + 1 → first ≤ end → end ≤ newest → first2 ≡ max first (end + 1) → fs ≡ events_above end es
    → (first2 + length fs ≡ newest + 1) × (1 ≤ first2)
cut_next first end newest first2 es fs numbered next le below is cut =
    let n : ℕ = end + 1 - first in
    let count : end + 1 ≡ first + n = omega (arith, le) in
    let long : length fs ≡ length es - n = ap (λ (l : List Event). length l) (cut ∙ above_drops n first end es numbered count) ∙ length-drop n es in
    (omega (arith, long, next, le, below, is), omega (arith, is))

abbrev state_with : List ℕ → Catalogue → List Event → ℕ → ℕ → ℕ → List OpenDump → State
state_with id cat events first newest last dumps = record { id = id; catalogue = cat; events = events; first = first; newest = newest; last_dump = last; dumps = dumps }

pub cut_state : (s : State) (id : List ℕ) (cat : Catalogue) (es fs : List Event) (first newest last first2 end : ℕ) (dumps : List OpenDump) → state_with id cat es first newest last dumps ≡ s → first ≤ end → first2 ≡ max first (end + 1) → fs ≡ events_above end es
    → state_with id cat fs first2 newest last dumps ≡ with_written (Some (trimmed (end + 1))) s
cut_state s id cat es fs first newest last first2 end dumps is le rises cut =
    ap (λ (f : ℕ). state_with id cat fs f newest last dumps) (cut_first first end first2 le rises)
    ∙ ap (λ (l : List Event). state_with id cat l (end + 1) newest last dumps) (cut_events end es fs cut)
    ∙ ap (λ (x : State). with_written (Some (trimmed (end + 1))) x) is

least_begin_at_most : (n : ℕ) (dumps : List OpenDump) → least_begin n dumps ≤ n
least_begin_at_most n [] = omega arith
least_begin_at_most n (dump ∷ dumps) = omega (arith, least_begin_at_most (min n dump.begin) dumps)

-- a trim ends at the newest event at most
pub trim_below : (upto : ℤ) (newest end : ℕ) (dumps : List OpenDump) → end ≡ trim_end upto newest dumps → end ≤ newest
trim_below upto newest end dumps is = omega (arith, is, least_begin_at_most newest dumps)
