-- All events of a folder, and the last step.
use Rattle.std.proofs.Common.{◌≡◌, ℕ, ◌+◌, ◌-◌, ◌≤◌, ◌<◌, List, [], ◌∷◌, sym, ◌∙◌, subst, arith}
use Rattle.cat_types.specs.declared.changes.Op.{Op}
use Rattle.replicas.specs.Objects.{Objects, Replica, SameObjects, SameMarks}
use Rattle.replicas.specs.Stands.{StandsEvents, StandsLive, ReplaysAll, Quiet}
use Rattle.replicas.specs.Laws.{EventKeeps, LiveEventKeeps, EventsThenLive, FolderGoesLive, FolderStaysLive, Passes}
use Rattle.replicas.proofs.Conversions.{events_live}
use Rattle.replicas.proofs.EventKeeps.{event_keeps, no_part_under, quiet_still}
use Rattle.replicas.proofs.Invariants.{well_held}
use Rattle.replicas.proofs.LiveKeeps.{live_event}

-- a number above another is one more than some
abbrev pub IsNext : ℕ → ℕ → Type 0
IsNext at n = (e : ℕ) × (e + 1 ≡ n) × (at ≤ e)

pub is_next : (at n : ℕ) → at < n → IsNext at n
is_next at n lt = (n - 1, omega (arith, lt), omega (arith, lt))

pub quiet_to : (ops : ℕ → List Op) (at e n : ℕ) → e + 1 ≡ n → ((k : ℕ) → at < k → k < n → ops k ≡ []) → Quiet ops at e
quiet_to ops at e n is quiet k lt le = quiet k lt (omega (arith, is, le))

pub keeps_event : EventKeeps
keeps_event test after ops made newest begin at n end r r' source still from to above within quiet replays stands = by_next (is_next at n above)
  where
    by_next : IsNext at n → StandsEvents after begin n end r'
    by_next next = subst (λ (k : ℕ). k ≤ end → ReplaysAll (Passes test) k (ops k) r r' → StandsEvents after begin k end r') next.1
        (λ le all. event_keeps (Passes test) after ops made newest begin next.0 end source still from to (omega (arith, stands.begun, next.2)) le at next.2 (quiet_to ops at next.0 n next.1 quiet) r r' all stands) within replays

pub keeps_live : LiveEventKeeps
keeps_live test after ops made newest at n r r' source from above to quiet replays stands = by_next (is_next at n above)
  where
    by_next : IsNext at n → StandsLive after n r'
    by_next next = subst (λ (k : ℕ). k ≤ newest → ReplaysAll (Passes test) k (ops k) r r' → StandsLive after k r') next.1
        (λ le all. live_event (Passes test) after ops made newest at next.0 source from next.2 le (quiet_to ops at next.0 n next.1 quiet) r r' all stands) to replays

pub then_live : EventsThenLive
then_live test after ops made newest begin at end r source from to quiet stands =
    events_live after begin at end r (quiet_still (Passes test) after ops made newest source at end (omega (arith, from, stands.begun)) to quiet)
    (no_part_under (after end) (well_held (Passes test) after ops made newest source end (omega (arith, from, stands.begun, stands.in_range)) to)) stands

-- a replica that looks the same stands for the same
pub live_same : (after : ℕ → Objects) (at : ℕ) (r r' : Replica) → SameObjects r.objects r'.objects → SameMarks r.marks r'.marks → StandsLive after at r → StandsLive after at r'
live_same after at r r' same marks h = record {
  db_there = record { value = h.db_there.value; is = same.db ∙ h.db_there.is };
  objects = record { db = same.db ∙ h.objects.db; tab = λ n. same.tab n ∙ h.objects.tab n; par = λ n w. same.par n w ∙ h.objects.par n w };
  marks = record {
    db = let low = h.marks.db in omega (arith, low, marks.db);
    tabs = λ n x is. let low = h.marks.tabs n x (sym (same.tab n) ∙ is) in let m = marks.tab n in omega (arith, low, m);
    parts = λ n w p is. let low = h.marks.parts n w p (sym (same.par n w) ∙ is) in let m = marks.par n w in omega (arith, low, m);
  };
}

-- a live replica whose position moves up over numbers without operations
live_up : (after : ℕ → Objects) (at end : ℕ) (r : Replica) → at ≤ end → SameObjects (after at) (after end) → StandsLive after at r → StandsLive after end r
live_up after at end r le same h = record {
  db_there = h.db_there;
  objects = record { db = h.objects.db ∙ sym same.db; tab = λ n. h.objects.tab n ∙ sym (same.tab n); par = λ n w. h.objects.par n w ∙ sym (same.par n w) };
  marks = record {
    db = let low = h.marks.db in omega (arith, low, le);
    tabs = λ n x is. let low = h.marks.tabs n x is in omega (arith, low, le);
    parts = λ n w p is. let low = h.marks.parts n w p is in omega (arith, low, le);
  };
}

pub goes_live : FolderGoesLive
goes_live test after ops made newest begin at end [] r r' source still from to events replays stands =
    live_same after end r r' replays.0 replays.1 (then_live test after ops made newest begin at end r source from to events stands)
goes_live test after ops made newest begin at end (e ∷ es) r r' source still from to events replays stands =
    goes_live test after ops made newest begin e.id end es replays.0 r' source still from to events.4 replays.2
    (keeps_event test after ops made newest begin at e.id end r replays.0 source still from to events.0 events.1 events.2 (subst (λ (l : List Op). ReplaysAll (Passes test) e.id l r replays.0) (sym events.3) replays.1) stands)

pub stays_live : FolderStaysLive
stays_live test after ops made newest at end [] r r' source from le to events replays stands =
    live_same after end r r' replays.0 replays.1 (live_up after at end r le (quiet_still (Passes test) after ops made newest source at end from to events at (omega arith) le) stands)
stays_live test after ops made newest at end (e ∷ es) r r' source from le to events replays stands =
    stays_live test after ops made newest e.id end es replays.0 r' source (omega (arith, from, events.0)) events.1 to events.4 replays.2
    (keeps_live test after ops made newest at e.id r replays.0 source from events.0 (omega (arith, events.1, to)) events.2 (subst (λ (l : List Op). ReplaysAll (Passes test) e.id l r replays.0) (sym events.3) replays.1) stands)
