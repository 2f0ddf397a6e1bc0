-- Which steps an opening finds done.
use Rattle.std.proofs.Common.{◌≡◌, ℕ, ◌+◌, zero, suc, Bool, true, false, not, List, [], ◌∷◌, ◌++◌, length, Option, Some, None, is_some, ◌⊎◌, inl, inr, refl, sym, ◌∙◌, ap, subst, arith, length-append}
use Rattle.std.specs.Prelude.{cond, option_to_list, ◌&&◌}
use Rattle.cat_types.specs.declared.steps.Answer.{Answer}
use Rattle.cat_types.specs.declared.steps.Answer.TheVariants.{Began, DumpRefused, Ended, Events, Kept, NoMemory, NoTable, NotOpen, Parts, Reply, Sealed, StoreFault, Table}
use Rattle.desk.specs.History.{Entry, Pending, Transition, Point, Start, took, reopened, event_found, found, pending_at, next, point_after, point_of, state_found}
use Rattle.desk.specs.Laws.{AllUnsettledAreFound, NoneSettles, OnlyUnsettledAreFound, Unsettled, settles, unsettled_after, unsettled_next}
use Rattle.desk.specs.State.{is_refused, writes}
use Rattle.desk.proofs.Histories.{point_after-append}

-- ---- answers

refused_so : (a : Answer) → is_refused a ≡ true → (a ≡ NoMemory) ⊎ (a ≡ StoreFault)
refused_so NoMemory is = inl refl
refused_so StoreFault is = inr refl
refused_so (Reply reply) is = absurd cc
refused_so (Began dump source born begin end first) is = absurd cc
refused_so (Table table) is = absurd cc
refused_so NoTable is = absurd cc
refused_so (Parts parts more) is = absurd cc
refused_so (Sealed number) is = absurd cc
refused_so (Events events more) is = absurd cc
refused_so Ended is = absurd cc
refused_so (DumpRefused refusal) is = absurd cc
refused_so (Kept first) is = absurd cc
refused_so NotOpen is = absurd cc

is_refused_so : (a : Answer) → (a ≡ NoMemory) ⊎ (a ≡ StoreFault) → is_refused a ≡ true
is_refused_so a (inl is) = ap is_refused is
is_refused_so a (inr is) = ap is_refused is

none_there : (n : ℕ) (l : Pending) → found n [] ≡ Some l → ⊥
none_there n l is = absurd cc

-- what is left behind an entry, by whether it writes and whether it was refused
abbrev left_by : Bool → Bool → Point → Entry → List Pending
left_by writing refused p e = cond writing (cond refused (p.pending ++ pending_at p.state e.0.caller e.0.step ∷ []) []) p.pending

-- ---- places of a list

length_push : (ls : List Pending) (l : Pending) → length (ls ++ l ∷ []) ≡ length ls + 1
length_push ls l = omega (arith, length-append ls (l ∷ []))

-- what was there is found at its place still
found_before : (n : ℕ) (ls : List Pending) (l x : Pending) → found n ls ≡ Some l → found n (ls ++ x ∷ []) ≡ Some l
found_before n [] l x is = absurd cc
found_before zero (y ∷ ls) l x is = is
found_before (suc n) (y ∷ ls) l x is = found_before n ls l x is

-- what was added is found at the end
found_last : (ls : List Pending) (x : Pending) → found (length ls) (ls ++ x ∷ []) ≡ Some x
found_last [] x = refl
found_last (y ∷ ls) x = found_last ls x

-- what is found was there before, or was added
found_either : (n : ℕ) (ls : List Pending) (x l : Pending) → found n (ls ++ x ∷ []) ≡ Some l → (found n ls ≡ Some l) ⊎ (n ≡ length ls)
found_either zero [] x l is = inr refl
found_either (suc n) [] x l is = absurd (none_there n l is)
found_either zero (y ∷ ls) x l is = inl is
found_either (suc n) (y ∷ ls) x l is = one_behind (found_either n ls x l is)
  where
    one_behind : ((found n ls ≡ Some l) ⊎ (n ≡ length ls)) → (found n ls ≡ Some l) ⊎ (suc n ≡ suc (length ls))
    one_behind (inl h) = inl h
    one_behind (inr h) = inr (omega (arith, h))

-- as many steps are left as are counted
counted_by : (p : Point) (e : Entry) (writing refused : Bool) → length (left_by writing refused p e) ≡ cond writing (cond refused (length p.pending + 1) 0) (length p.pending)
counted_by p e true true = length_push p.pending (pending_at p.state e.0.caller e.0.step)
counted_by p e true false = refl
counted_by p e false refused = refl

counted : (p : Point) (m : Transition) → length (next p m).pending ≡ unsettled_next p m (length p.pending)
counted p (took e) = counted_by p e (writes p.state e.0.step) (is_refused e.1.answer)
counted p (reopened a fault) = refl

all_counted : (p : Point) (ms : List Transition) → length (point_after p ms).pending ≡ unsettled_after p ms (length p.pending)
all_counted p [] = refl
all_counted p (m ∷ ms) = all_counted (next p m) ms ∙ ap (unsettled_after (next p m) ms) (counted p m)

-- ---- what is found is a refused step

-- the step was there before, or is one of these
abbrev Seen : Point → List Transition → ℕ → Pending → Type 0
Seen p ms n l = ((found n p.pending ≡ Some l) × NoneSettles p ms) ⊎ Unsettled p (length p.pending) ms n

behind_one : (p : Point) (m : Transition) (ms : List Transition) (n : ℕ) → Unsettled (next p m) (length (next p m).pending) ms n → Unsettled p (length p.pending) (m ∷ ms) n
behind_one p m ms n u = record {
  before = m ∷ u.before;
  entry = u.entry;
  behind = u.behind;
  is = ap (λ (l : List Transition). m ∷ l) u.is;
  count = u.count ∙ ap (unsettled_after (next p m) u.before) (counted p m);
  writing = u.writing;
  refused = u.refused;
  stands = u.stands;
}

-- a refused writing step: it is this one, or was there before
by_place : (p : Point) (e : Entry) (ms : List Transition) (n : ℕ) (l : Pending) → writes p.state e.0.step ≡ true → is_refused e.1.answer ≡ true
    → (found n p.pending ≡ Some l) ⊎ (n ≡ length p.pending) → settles p (took e) ≡ false → NoneSettles (next p (took e)) ms → Seen p (took e ∷ ms) n l
by_place p e ms n l w r (inr same) one none = inr (record {
  before = [];
  entry = e;
  behind = ms;
  is = refl;
  count = same;
  writing = w;
  refused = refused_so e.1.answer r;
  stands = none;
})
by_place p e ms n l w r (inl is) one none = inl (is, (one, none))

by_entry : (p : Point) (e : Entry) (ms : List Transition) (n : ℕ) (l : Pending) (writing refused : Bool) → writes p.state e.0.step ≡ writing → is_refused e.1.answer ≡ refused
    → found n (left_by writing refused p e) ≡ Some l → NoneSettles (next p (took e)) ms → Seen p (took e ∷ ms) n l
by_entry p e ms n l true true w r is none =
    by_place p e ms n l w r (found_either n p.pending (pending_at p.state e.0.caller e.0.step) l is) (ap (λ (b : Bool). b && not (is_refused e.1.answer)) w ∙ ap (λ (b : Bool). not b) r) none
by_entry p e ms n l true false w r is none = absurd (none_there n l is)
by_entry p e ms n l false refused w r is none = inl (is, (ap (λ (b : Bool). b && not (is_refused e.1.answer)) w, none))

seen_on : (p : Point) (m : Transition) (ms : List Transition) (n : ℕ) (l : Pending) → Seen (next p m) ms n l → Seen p (m ∷ ms) n l
seen_on p m ms n l (inr u) = inr (behind_one p m ms n u)
seen_on p (reopened a fault) ms n l (inl h) = absurd (none_there n l h.0)
seen_on p (took e) ms n l (inl h) = by_entry p e ms n l (writes p.state e.0.step) (is_refused e.1.answer) refl refl h.0 h.1

seen : (p : Point) (ms : List Transition) (n : ℕ) (l : Pending) → found n (point_after p ms).pending ≡ Some l → Seen p ms n l
seen p [] n l is = inl (is, tt)
seen p (m ∷ ms) n l is = seen_on p m ms n l (seen (next p m) ms n l is)

-- at the start nothing is left
from_start : (s : Start) (ms : List Transition) (n : ℕ) (l : Pending) → Seen (point_of s) ms n l → Unsettled (point_of s) 0 ms n
from_start s ms n l (inl h) = absurd (none_there n l h.0)
from_start s ms n l (inr u) = u

by_found : (s : Start) (ms : List Transition) (n : ℕ) (o : Option Pending) → found n (point_after (point_of s) ms).pending ≡ o → is_some o ≡ true → Unsettled (point_of s) 0 ms n
by_found s ms n None is there = absurd cc
by_found s ms n (Some l) is there = from_start s ms n l (seen (point_of s) ms n l is)

pub only_unsettled : OnlyUnsettledAreFound
only_unsettled s ms n fault may = by_found s ms n (found n (point_after (point_of s) ms).pending) refl may

-- ---- each refused step is found

kept_by : (p : Point) (e : Entry) (n : ℕ) (l : Pending) (writing refused : Bool) → found n p.pending ≡ Some l → (writing && not refused) ≡ false → found n (left_by writing refused p e) ≡ Some l
kept_by p e n l true true is one = found_before n p.pending l (pending_at p.state e.0.caller e.0.step) is
kept_by p e n l true false is one = absurd cc
kept_by p e n l false refused is one = is

kept_on : (p : Point) (m : Transition) (n : ℕ) (l : Pending) → found n p.pending ≡ Some l → settles p m ≡ false → found n (next p m).pending ≡ Some l
kept_on p (took e) n l is one = kept_by p e n l (writes p.state e.0.step) (is_refused e.1.answer) is one
kept_on p (reopened a fault) n l is one = absurd cc

kept_along : (p : Point) (ms : List Transition) (n : ℕ) (l : Pending) → found n p.pending ≡ Some l → NoneSettles p ms → found n (point_after p ms).pending ≡ Some l
kept_along p [] n l is none = is
kept_along p (m ∷ ms) n l is none = kept_along (next p m) ms n l (kept_on p m n l is none.0) none.1

put : (p : Point) (e : Entry) → writes p.state e.0.step ≡ true → is_refused e.1.answer ≡ true → found (length p.pending) (next p (took e)).pending ≡ Some (pending_at p.state e.0.caller e.0.step)
put p e w r =
    ap (λ (b : Bool). found (length p.pending) (left_by b (is_refused e.1.answer) p e)) w
    ∙ ap (λ (b : Bool). found (length p.pending) (left_by true b p e)) r
    ∙ found_last p.pending (pending_at p.state e.0.caller e.0.step)

is_found : (p : Point) (ms : List Transition) (n : ℕ) (u : Unsettled p (length p.pending) ms n) → found n (point_after p ms).pending ≡ Some (pending_at (point_after p u.before).state u.entry.0.caller u.entry.0.step)
is_found p ms n u =
    let q : Point = point_after p u.before in
    let l : Pending = pending_at q.state u.entry.0.caller u.entry.0.step in
    let same : length q.pending ≡ n = all_counted p u.before ∙ sym u.count in
    let here : found n (next q (took u.entry)).pending ≡ Some l = subst (λ (i : ℕ). found i (next q (took u.entry)).pending ≡ Some l) same (put q u.entry u.writing (is_refused_so u.entry.1.answer u.refused)) in
    ap (λ (ls : List Transition). found n (point_after p ls).pending) u.is
    ∙ ap (λ (r : Point). found n r.pending) (point_after-append p u.before (took u.entry ∷ u.behind))
    ∙ kept_along (next q (took u.entry)) u.behind n l here u.stands

pub all_unsettled : AllUnsettledAreFound
all_unsettled s ms n fault u =
    let found_so = is_found (point_of s) ms n u in
    record {
      may = ap (λ (o : Option Pending). is_some o) found_so;
      state = ap (λ (o : Option Pending). state_found (point_after (point_of s) ms).state o) found_so;
      events = ap (λ (o : Option Pending). option_to_list (event_found o)) found_so;
    }
