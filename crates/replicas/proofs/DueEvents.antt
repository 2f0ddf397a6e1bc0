-- Events in a list, each of which is due, by their numbers.
use Rattle.std.proofs.Common.{◌≡◌, ℕ, zero, suc, ◌+◌, ◌-◌, ◌≤◌, ◌<◌, Bool, true, false, List, [], ◌∷◌, ◌++◌, length, refl, sym, ◌∙◌, ap, subst, arith}
use Rattle.std.specs.Prelude.{◌==◌, ◌&&◌, bytes_eq, cond}
use Rattle.std.proofs.lemmas.Slice.Eq.{bytes_eq-Decides}
use Rattle.cat_objects.specs.Catalogue.{Catalogue}
use Rattle.cat_objects.specs.Changes.{done, takes_change}
use Rattle.cat_types.specs.declared.changes.Change.{Change}
use Rattle.cat_types.specs.declared.changes.Event.{Event}
use Rattle.replicas.specs.Histories.{AllDue, BornsAreNew, IsDue, IsNew, after_first, change_at}
use Rattle.replicas.specs.Life.{AreNumbered}
use Rattle.replicas.specs.Source.{AllApart, Each, IsNoMove}
use Rattle.replicas.specs.StoreLaws.{DueEventsAreChanges, DueEventsAreNumbered, DueEventsGrow, UnmovedRanges}

-- what is known of the event at a place, which has the number n
pub record At (n i : ℕ) (cat : Catalogue) (events : List Event) : Type 0 where
  pub next : after_first (suc i) cat events ≡ done (change_at i events) (after_first i cat events)
  pub taken : takes_change (after_first i cat events) n (change_at i events) ≡ true
  pub news : BornsAreNew n (change_at i events).db (change_at i events).db_born (after_first i cat events) (change_at i events).ops
  pub apart : AllApart (change_at i events).ops

at_place : (i n at : ℕ) (cat : Catalogue) (events : List Event) → i < length events → n ≡ at + i + 1 → AllDue at cat events → At n i cat events
at_place i n at cat [] lt is due = absurd (omega (arith, lt))
at_place zero n at cat (event ∷ events) lt is due =
    let same : at + 1 ≡ n = omega (arith, is) in record {
      next = refl;
      taken = subst (λ (k : ℕ). takes_change cat k event.change ≡ true) same due.0.taken;
      news = subst (λ (k : ℕ). BornsAreNew k event.change.db event.change.db_born cat event.change.ops) same due.0.news;
      apart = due.0.apart;
    }
at_place (suc i) n at cat (event ∷ events) lt is due =
    let later = at_place i n (at + 1) (done event.change cat) events (omega (arith, lt)) (omega (arith, is)) due.1 in
    record { next = later.next; taken = later.taken; news = later.news; apart = later.apart }

-- by number
module _ (base : ℕ) (cat : Catalogue) (events : List Event) (due : AllDue base cat events) (e : ℕ) (low : base ≤ e) (high : e < base + length events) where
  here : At (e + 1) (e - base) cat events
  here = at_place (e - base) (e + 1) base cat events (omega (arith, low, high)) (omega (arith, low)) due

  place : (e + 1) - (base + 1) ≡ e - base
  place = omega (arith, low)

  step : (e + 1) - base ≡ suc (e - base)
  step = omega (arith, low)

  pub by_number : (cats : ℕ → Catalogue) → ((k : ℕ) → cats k ≡ after_first (k - base) cat events) → cats (e + 1) ≡ done (change_at ((e + 1) - (base + 1)) events) (cats e)
  by_number cats are = are (e + 1) ∙ subst (λ (k : ℕ). after_first k cat events ≡ done (change_at ((e + 1) - (base + 1)) events) (after_first (e - base) cat events)) (sym step)
      (subst (λ (i : ℕ). after_first (suc (e - base)) cat events ≡ done (change_at i events) (after_first (e - base) cat events)) (sym place) here.next)
      ∙ ap (λ (c : Catalogue). done (change_at ((e + 1) - (base + 1)) events) c) (sym (are e))

  pub taken_by : takes_change (after_first (e - base) cat events) (e + 1) (change_at ((e + 1) - (base + 1)) events) ≡ true
  taken_by = subst (λ (i : ℕ). takes_change (after_first (e - base) cat events) (e + 1) (change_at i events) ≡ true) (sym place) here.taken

  pub new_by : BornsAreNew (e + 1) (change_at ((e + 1) - (base + 1)) events).db (change_at ((e + 1) - (base + 1)) events).db_born (after_first (e - base) cat events) (change_at ((e + 1) - (base + 1)) events).ops
  new_by = subst (λ (i : ℕ). BornsAreNew (e + 1) (change_at i events).db (change_at i events).db_born (after_first (e - base) cat events) (change_at i events).ops) (sym place) here.news

  pub apart_by : AllApart (change_at ((e + 1) - (base + 1)) events).ops
  apart_by = subst (λ (i : ℕ). AllApart (change_at i events).ops) (sym place) here.apart

pub due_are_changes : DueEventsAreChanges
due_are_changes base cat events new due = record {
  start = let none : 0 ≡ base - base = omega arith in subst (λ (k : ℕ). IsNew base (after_first k cat events)) none new;
  next = λ e low high. by_number base cat events due e low high (λ k. after_first (k - base) cat events) (λ k. refl);
  taken = λ e low high. taken_by base cat events due e low high;
  news = λ e low high. new_by base cat events due e low high;
  apart = λ e low high. apart_by base cat events due e low high;
}

-- ---- a range

-- the event behind those before it
at_later : (before events : List Event) (i : ℕ) → change_at (length before + i) (before ++ events) ≡ change_at i events
at_later [] events i = let same : 0 + i ≡ i = omega arith in ap (λ (k : ℕ). change_at k events) same
at_later (event ∷ before) events i =
    let same : length (event ∷ before) + i ≡ suc (length before + i) = omega arith in
    ap (λ (k : ℕ). change_at k (event ∷ (before ++ events))) same ∙ at_later before events i

-- events that are due behind others
pub record Behind (at : ℕ) (events : List Event) : Type 0 where
  pub cat : Catalogue
  pub due : AllDue at cat events

due_behind : (at : ℕ) (cat : Catalogue) (before events : List Event) → AllDue at cat (before ++ events) → Behind (at + length before) events
due_behind at cat [] events due = let same : at ≡ at + 0 = omega arith in subst (λ (k : ℕ). Behind k events) same (record { cat = cat; due = due })
due_behind at cat (event ∷ before) events due =
    let same : (at + 1) + length before ≡ at + length (event ∷ before) = omega arith in
    subst (λ (k : ℕ). Behind k events) same (due_behind (at + 1) (done event.change cat) before events due.1)

-- numbered by changes that are the events' own
range_by : (changes : ℕ → Change) (at : ℕ) (cat : Catalogue) (range rest : List Event) → AllDue at cat (range ++ rest) → ((i : ℕ) → i < length range → changes (at + i + 1) ≡ change_at i (range ++ rest)) → AreNumbered changes at (at + length range) range
range_by changes at cat [] rest due are = omega arith
range_by changes at cat (event ∷ range) rest due are =
    let first : at + 0 + 1 ≡ at + 1 = omega arith in
    let end : (at + 1) + length range ≡ at + length (event ∷ range) = omega arith in (
      due.0.number,
      sym (are 0 (omega arith)) ∙ ap changes first,
      subst (λ (k : ℕ). AreNumbered changes (at + 1) k range) end
          (range_by changes (at + 1) (done event.change cat) range rest due.1
          (λ i lt. let same : (at + 1) + i + 1 ≡ at + suc i + 1 = omega arith in ap changes same ∙ are (suc i) (omega (arith, lt)))),
    )

pub due_are_numbered : DueEventsAreNumbered
due_are_numbered base cat before range rest due =
    let behind = due_behind base cat before (range ++ rest) due in
    range_by (λ k. change_at (k - (base + 1)) (before ++ (range ++ rest))) (base + length before) behind.cat range rest behind.due
    (λ i lt. let same : (base + length before + i + 1) - (base + 1) ≡ length before + i = omega arith in ap (λ (k : ℕ). change_at k (before ++ (range ++ rest))) same ∙ at_later before (range ++ rest) i)

-- ---- one event more

pub due_grow : DueEventsGrow
due_grow at cat [] event due next = (subst (λ (k : ℕ). IsDue k cat event) (let same : at + 0 ≡ at = omega arith in same) next, tt)
due_grow at cat (first ∷ events) event due next =
    let same : at + length (first ∷ events) ≡ (at + 1) + length events = omega arith in
    (due.0, due_grow (at + 1) (done first.change cat) events event due.1 (subst (λ (k : ℕ). IsDue k (after_first (length events) (done first.change cat) events) event) same next))

-- ---- ranges without moves

pub unmoved : UnmovedRanges
unmoved w b changes begin end none e low high = by (bytes_eq (changes e).db w) refl ((changes e).db_born == b)
  where
    by : (c : Bool) → bytes_eq (changes e).db w ≡ c → (d : Bool) → Each IsNoMove (cond (c && d) (changes e).ops [])
    by true is true = none e low high ((bytes_eq-Decides (changes e).db w).0 is)
    by true is false = tt
    by false is d = tt
