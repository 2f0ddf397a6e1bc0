-- An event leaves the partitions of a half-loaded replica that have a later mark.
use Rattle.std.proofs.Common.{◌≡◌, inl, inr, ℕ, ◌+◌, ◌≤◌, List, [], ◌∷◌, Some, None, refl, sym, ◌∙◌, subst, arith}
use Rattle.cat_types.specs.declared.changes.Op.{Op}
use Rattle.cat_types.specs.declared.changes.Op.TheVariants.{DropDb, DropPart, DropTable, MovePart, MoveTable, PutDb, PutPart, PutTable}
use Rattle.cat_values.specs.declared.records.PartRec.{PartRec}
use Rattle.replicas.specs.Keeping.{SamePart}
use Rattle.replicas.specs.Laws.{NewerPartsStay, Passes}
use Rattle.replicas.specs.Objects.{Name, Values, Objects, Replica, HasBorn}
use Rattle.replicas.specs.Operations.{touches_par}
use Rattle.replicas.specs.Replay.{Replays, TookEffect}
use Rattle.replicas.specs.Source.{AllApart, Each, IsApart, IsNoMove, NoMoves, Source, Step, Steps}
use Rattle.replicas.specs.Stands.{Quiet, ReplaysAll, StandsEvents}
use Rattle.replicas.proofs.Basics.{not_both, one_born}
use Rattle.replicas.proofs.Between.{Between}
use Rattle.replicas.proofs.Conversions.{stands_between}
use Rattle.replicas.proofs.EventKeeps.{one_keeps, quiet_still}
use Rattle.replicas.proofs.Folder.{IsNext, is_next, quiet_to}
use Rattle.replicas.proofs.Invariants.{BornsUpTo, WellHeld, borns_step, borns_up, gone_later, held_step, lasts_tab, well_held}
use Rattle.replicas.proofs.Untouched.{par_kept}

module _ (Sound : Op → Type 0) (after : ℕ → Objects) (ops : ℕ → List Op) (made newest begin e end : ℕ) (source : Source Sound after ops made newest) (no_moves : NoMoves ops begin end)
    (from : made ≤ begin) (to : end ≤ newest) (begun : begin ≤ e) (within : e + 1 ≤ end) where
  -- a drop that acts doesn't name the born of a table with a partition of a later mark
  not_dropped : (n : Name) (b : ℕ) (later : List Op) (s t : Objects) (r : Replica) → Step (e + 1) (DropTable n b) s t → Each (IsApart (DropTable n b)) later → Steps (e + 1) later t (after (e + 1)) → BornsUpTo (e + 1) s
      → Between after e end s r → HasBorn b (r.objects.tab n) → (w : Values) (p : PartRec) → r.objects.par n w ≡ Some p → e + 1 ≤ r.marks.par n w → ⊥
  not_dropped n b later s t r step apart steps borns between has w p is newer =
      let stands = between.parts n w p is in
      let gone : (after (e + 1)).tab n ≡ None = lasts_tab (e + 1) (DropTable n b) later t (after (e + 1)) apart steps n refl ∙ step.done.puts.1 in
      let same : stands.table.0 ≡ b = one_born has stands.there in
      let table = (stands.since.high (omega (arith, newer))).table in
      let mark = stands.mark in
      gone_later Sound after ops made newest source begin end no_moves from to b n (e + 1) (r.marks.par n w) (omega (arith, begun)) newer mark (borns n b step.fits) (λ h. not_both gone h.is)
      (subst (λ (c : ℕ). HasBorn c ((after (r.marks.par n w)).tab n)) same table)

  -- an operation that acts touches no partition with a later mark
  untouched : (op : Op) (later : List Op) (s t : Objects) (r q : Replica) → Step (e + 1) op s t → Each (IsApart op) later → Steps (e + 1) later t (after (e + 1)) → IsNoMove op → BornsUpTo (e + 1) s → Between after e end s r
      → TookEffect Sound (e + 1) op r q → (m : Name) (w : Values) (p : PartRec) → r.objects.par m w ≡ Some p → e + 1 ≤ r.marks.par m w → touches_par op m w → ⊥
  untouched (PutDb rec) later s t r q step apart steps nm borns between d m w p is newer touched = touched
  untouched DropDb later s t r q step apart steps nm borns between d m w p is newer touched = touched
  untouched (PutTable n b rec) later s t r q step apart steps nm borns between d m w p is newer touched = touched
  untouched (DropTable n b) later s t r q step apart steps nm borns between d m w p is newer touched =
      not_dropped n b later s t r step apart steps borns between d.acts.fits w p (subst (λ (k : Name). r.objects.par k w ≡ Some p) touched is) (subst (λ (k : Name). e + 1 ≤ r.marks.par k w) touched newer)
  untouched (MoveTable n b to' rec) later s t r q step apart steps nm borns between d m w p is newer touched = nm
  untouched (PutPart n b v rec) later s t r q step apart steps nm borns between d m w p is newer touched = elim d.acts.below [
    | inl gone ↦ not_both (subst (λ (k : Name). r.objects.par k w ≡ None) (sym touched.0) (subst (λ (u : Values). r.objects.par n u ≡ None) (sym touched.1) gone)) is
    | inr low ↦ let here = subst (λ (u : Values). e + 1 ≤ r.marks.par n u) touched.1 (subst (λ (k : Name). e + 1 ≤ r.marks.par k w) touched.0 newer) in omega (arith, low, here)
  ]
  untouched (DropPart n b v) later s t r q step apart steps nm borns between d m w p is newer touched =
      let low = d.acts.below in
      let here = subst (λ (u : Values). e + 1 ≤ r.marks.par n u) touched.1 (subst (λ (k : Name). e + 1 ≤ r.marks.par k w) touched.0 newer) in omega (arith, low, here)
  untouched (MovePart n b v to' rec) later s t r q step apart steps nm borns between d m w p is newer touched = nm

  one_stays : (op : Op) (later : List Op) (s t : Objects) (r q : Replica) → Step (e + 1) op s t → Each (IsApart op) later → Steps (e + 1) later t (after (e + 1)) → IsNoMove op → BornsUpTo (e + 1) s → Between after e end s r
      → Replays Sound (e + 1) op r q → (m : Name) (w : Values) (p : PartRec) → r.objects.par m w ≡ Some p → e + 1 ≤ r.marks.par m w → SamePart m w r q
  one_stays op later s t r q step apart steps nm borns between (inl d) m w p is newer =
      par_kept Sound (e + 1) op r q (inl d) m w (untouched op later s t r q step apart steps nm borns between d m w p is newer)
  one_stays op later s t r q step apart steps nm borns between (inr d) m w p is newer = record { object = d.objects.par m w; mark = d.marks.par m w }

  all_stay : (list : List Op) (s : Objects) (r r' : Replica) → Steps (e + 1) list s (after (e + 1)) → AllApart list → Each IsNoMove list → Each Sound list
      → WellHeld s → BornsUpTo (e + 1) s → Between after e end s r → ReplaysAll Sound (e + 1) list r r' → (m : Name) (w : Values) (p : PartRec) → r.objects.par m w ≡ Some p → e + 1 ≤ r.marks.par m w → SamePart m w r r'
  all_stay [] s r r' steps apart nm sound held borns between replays m w p is newer = record { object = replays.0.par m w; mark = replays.1.par m w }
  all_stay (op ∷ later) s r r' steps apart nm sound held borns between replays m w p is newer =
      let first = one_stays op later s steps.0 r replays.0 steps.1 apart.0 steps.2 nm.0 borns between replays.1 m w p is newer in
      let next = one_keeps Sound after ops made newest begin e end source no_moves from to begun within op later s steps.0 r replays.0 steps.1 apart.0 steps.2 nm.0 sound.0 held borns between replays.1 in
      let rest = all_stay later steps.0 replays.0 r' steps.2 apart.1 nm.1 sound.1 (held_step op s steps.0 steps.1.fits steps.1.done held) (borns_step (e + 1) op s steps.0 steps.1 borns) next replays.2 m w p
      (first.object ∙ is) (subst (λ (k : ℕ). e + 1 ≤ k) (sym first.mark) newer) in
      record { object = rest.object ∙ first.object; mark = rest.mark ∙ first.mark }

  event_leaves : (at : ℕ) → at ≤ e → Quiet ops at e → (r r' : Replica) → ReplaysAll Sound (e + 1) (ops (e + 1)) r r' → StandsEvents after begin at end r → (m : Name) (w : Values) (p : PartRec) → r.objects.par m w ≡ Some p → e + 1 ≤ r.marks.par m w → SamePart m w r r'
  event_leaves at before quiet r r' replays stands m w p is newer =
      let lowest : made ≤ at = omega (arith, from, stands.begun) in
      let start : made ≤ e = omega (arith, from, begun) in
      let reached : e + 1 ≤ newest = omega (arith, within, to) in
      all_stay (ops (e + 1)) (after e) r r'
      (source.steps e start (omega (arith, reached))) (source.apart (e + 1) (omega (arith, start)) reached) (no_moves (e + 1) (omega (arith, begun)) within) (source.sound (e + 1) (omega (arith, start)) reached)
      (well_held Sound after ops made newest source e start (omega (arith, reached)))
      (λ n b has. let le : b ≤ e = borns_up Sound after ops made newest source e start (omega (arith, reached)) n b has in omega (arith, le))
      (stands_between after at e end before (quiet_still Sound after ops made newest source at e lowest (omega (arith, reached)) quiet) begin r stands) replays m w p is newer

pub newer_stay : NewerPartsStay
newer_stay test after ops made newest begin at n end r r' source still from to above within quiet replays stands m w p is newer = by_next (is_next at n above)
  where
    by_next : IsNext at n → SamePart m w r r'
    by_next next = subst (λ (k : ℕ). k ≤ end → k ≤ r.marks.par m w → ReplaysAll (Passes test) k (ops k) r r' → SamePart m w r r') next.1
        (λ le new all. event_leaves (Passes test) after ops made newest begin next.0 end source still from to (omega (arith, stands.begun, next.2)) le at next.2 (quiet_to ops at next.0 n next.1 quiet) r r' all stands m w p is new) within newer replays
