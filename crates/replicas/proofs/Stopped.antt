-- A load may stop behind any of its events, and what is left goes on from there.
use Rattle.std.proofs.Common.{◌≡◌, ℕ, ◌≤◌, Bool, true, false, List, [], ◌∷◌, ◌++◌, cond, Option, Some, refl, sym, ◌∙◌, ap, subst, arith}
use Rattle.std.specs.Prelude.{nat_lt, filter}
use Rattle.std.proofs.lemmas.Bool.Decides.{nat_tests}
use Rattle.cat_types.specs.declared.changes.Event.{Event}
use Rattle.cat_types.specs.declared.changes.Op.{Op}
use Rattle.cat_values.specs.declared.records.PartRec.{PartRec}
use Rattle.replicas.specs.Laws.{FolderMayStop, LiveFolderMayStop, Passes}
use Rattle.replicas.specs.Life.{is_above}
use Rattle.replicas.specs.Objects.{Objects, Replica, Has, HasBorn, SameObjects, SameMarks}
use Rattle.replicas.specs.Source.{Source, NoMoves}
use Rattle.replicas.specs.Stands.{AsMarked, StandsEvents, StandsLive, ReplaysAll, ReplaysEvents, AreEvents, reached}
use Rattle.replicas.proofs.Folder.{keeps_event, keeps_live, live_same}

-- a replica that looks the same stands for the same
marked_as : (after : ℕ → Objects) (at end m m' : ℕ) (P : Objects → Type 0) → m' ≡ m → AsMarked after at end m P → AsMarked after at end m' P
marked_as after at end m m' P same h = subst (λ (k : ℕ). AsMarked after at end k P) (sym same) h

stands_same : (after : ℕ → Objects) (begin at end : ℕ) (r r' : Replica) → SameObjects r.objects r'.objects → SameMarks r.marks r'.marks → StandsEvents after begin at end r → StandsEvents after begin at end r'
stands_same after begin at end r r' same marks h = record {
  begun = h.begun;
  in_range = h.in_range;
  db_there = record { value = h.db_there.value; is = same.db ∙ h.db_there.is };
  db = λ x is. marked_as after at end r.marks.db r'.marks.db (λ y. y.db ≡ Some x) marks.db (h.db x (sym same.db ∙ is));
  tables = λ n x is. marked_as after at end (r.marks.tab n) (r'.marks.tab n) (λ y. y.tab n ≡ Some x) (marks.tab n) (h.tables n x (sym (same.tab n) ∙ is));
  absent = λ n is. h.absent n (sym (same.tab n) ∙ is);
  parts = λ n w p is. let u = h.parts n w p (sym (same.par n w) ∙ is) in record {
    table = u.table;
    there = same.tab n ∙ u.there;
    part = marked_as after at end (r.marks.par n w) (r'.marks.par n w) _ (marks.par n w) u.part;
  };
  missing = λ b n w not. h.missing b n w (λ t. not (record { table = subst (HasBorn b) (sym (same.tab n)) t.table; part = subst (λ (o : Option PartRec). Has o) (sym (same.par n w)) t.part }));
}

-- ---- which events are left

all_above : (ops : ℕ → List Op) (at low end : ℕ) (es : List Event) → at ≤ low → AreEvents ops low end es → filter (is_above at) es ≡ es
all_above ops at low end [] le h = refl
all_above ops at low end (e ∷ es) le h =
    let up : nat_lt at e.id ≡ true = let more = h.0 in grind (arith, nat_tests) in
    ap (λ (b : Bool). cond b (e ∷ filter (is_above at) es) (filter (is_above at) es)) up ∙ ap (λ (l : List Event). e ∷ l) (all_above ops at e.id end es (let more = h.0 in omega (arith, more, le)) h.4)

reached_up : (ops : ℕ → List Op) (at end : ℕ) (es fs : List Event) → AreEvents ops at end (es ++ fs) → at ≤ reached at es
reached_up ops at end [] fs h = omega arith
reached_up ops at end (e ∷ es) fs h = let more = reached_up ops e.id end es fs h.4 in let up = h.0 in omega (arith, more, up)

left_over : (ops : ℕ → List Op) (at end : ℕ) (es fs : List Event) → AreEvents ops at end (es ++ fs) → filter (is_above (reached at es)) (es ++ fs) ≡ fs
left_over ops at end [] fs h = all_above ops at at end fs (omega arith) h
left_over ops at end (e ∷ es) fs h =
    let up = reached_up ops e.id end es fs h.4 in
    let test : nat_lt (reached e.id es) e.id ≡ false = grind (arith, nat_tests) in
    ap (λ (b : Bool). cond b (e ∷ filter (is_above (reached e.id es)) (es ++ fs)) (filter (is_above (reached e.id es)) (es ++ fs))) test ∙ left_over ops e.id end es fs h.4

still_events : (ops : ℕ → List Op) (at end : ℕ) (es fs : List Event) → AreEvents ops at end (es ++ fs) → AreEvents ops (reached at es) end fs
still_events ops at end [] fs h = h
still_events ops at end (e ∷ es) fs h = still_events ops e.id end es fs h.4

-- ---- what stands there

stops : (test : Op → Bool) (after : ℕ → Objects) (ops : ℕ → List Op) (made newest begin at end : ℕ) (es fs : List Event) (r r' : Replica)
    → Source (Passes test) after ops made newest → NoMoves ops begin end → made ≤ begin → end ≤ newest → AreEvents ops at end (es ++ fs)
    → ReplaysEvents (Passes test) es r r' → StandsEvents after begin at end r → StandsEvents after begin (reached at es) end r'
stops test after ops made newest begin at end [] fs r r' source still from to events replays stands = stands_same after begin at end r r' replays.0 replays.1 stands
stops test after ops made newest begin at end (e ∷ es) fs r r' source still from to events replays stands =
    stops test after ops made newest begin e.id end es fs replays.0 r' source still from to events.4 replays.2
    (keeps_event test after ops made newest begin at e.id end r replays.0 source still from to events.0 events.1 events.2 (subst (λ (l : List Op). ReplaysAll (Passes test) e.id l r replays.0) (sym events.3) replays.1) stands)

stops_live : (test : Op → Bool) (after : ℕ → Objects) (ops : ℕ → List Op) (made newest at end : ℕ) (es fs : List Event) (r r' : Replica)
    → Source (Passes test) after ops made newest → made ≤ at → end ≤ newest → AreEvents ops at end (es ++ fs)
    → ReplaysEvents (Passes test) es r r' → StandsLive after at r → StandsLive after (reached at es) r'
stops_live test after ops made newest at end [] fs r r' source from to events replays stands = live_same after at r r' replays.0 replays.1 stands
stops_live test after ops made newest at end (e ∷ es) fs r r' source from to events replays stands =
    stops_live test after ops made newest e.id end es fs replays.0 r' source (omega (arith, from, events.0)) to events.4 replays.2
    (keeps_live test after ops made newest at e.id r replays.0 source from events.0 (omega (arith, events.1, to)) events.2 (subst (λ (l : List Op). ReplaysAll (Passes test) e.id l r replays.0) (sym events.3) replays.1) stands)

pub may_stop : FolderMayStop
may_stop test after ops made newest begin at end es fs r r' source still from to events replays stands =
    (stops test after ops made newest begin at end es fs r r' source still from to events replays stands, still_events ops at end es fs events, left_over ops at end es fs events)

pub live_may_stop : LiveFolderMayStop
live_may_stop test after ops made newest at end es fs r r' source from to events replays stands =
    (stops_live test after ops made newest at end es fs r r' source from to events replays stands, still_events ops at end es fs events, left_over ops at end es fs events)
