-- An event with all its operations keeps what a half-loaded replica stands for.
use Rattle.std.proofs.Common.{◌≡◌, ℕ, ◌+◌, ◌≤◌, List, [], ◌∷◌, length, Option, Some, None, refl, ◌∙◌, ap, subst, arith}
use Rattle.cat_types.specs.declared.changes.Op.{Op}
use Rattle.cat_types.specs.declared.changes.Op.TheVariants.{DropDb, DropPart, DropTable, MovePart, MoveTable, PutDb, PutPart, PutTable}
use Rattle.cat_values.specs.declared.records.PartRec.{PartRec}
use Rattle.replicas.specs.Objects.{Name, Values, Table, Objects, Replica, SameObjects}
use Rattle.replicas.specs.Operations.{touches_db, Done}
use Rattle.replicas.specs.Replay.{Replays}
use Rattle.replicas.specs.Source.{Each, Step, Steps, IsApart, AllApart, Source, IsNoMove, NoMoves}
use Rattle.replicas.specs.Stands.{StandsEvents, ReplaysAll, Quiet}
use Rattle.replicas.proofs.Basics.{not_both, one, has_born}
use Rattle.replicas.proofs.Between.{Between, db_of}
use Rattle.replicas.proofs.Conversions.{Still, between_same, stands_between, between_stands}
use Rattle.replicas.proofs.DropPart.{drop_part_keeps}
use Rattle.replicas.proofs.DropTable.{drop_table_keeps}
use Rattle.replicas.proofs.Invariants.{lasts_db, lasts_tab, lasts_par, lasts_under, WellHeld, BornsUpTo, KeysAs, held_step, borns_step, well_held, borns_up, gone_later, keys_later, numbers_up}
use Rattle.replicas.proofs.PutDb.{put_db_keeps}
use Rattle.replicas.proofs.PutPart.{put_part_keeps}
use Rattle.replicas.proofs.PutTable.{put_table_keeps}

pub no_part_under : (s : Objects) → WellHeld s → (n : Name) (w : Values) → s.tab n ≡ None → s.par n w ≡ None
no_part_under s held n w gone = by_part (s.par n w) refl
  where
    by_part : (o : Option PartRec) → s.par n w ≡ o → s.par n w ≡ None
    by_part None is = is
    by_part (Some p) is = absurd (not_both gone (held n w p is).is)

db_stays : (op : Op) (x y : Objects) → (touches_db op → ⊥) → Done op x y → y.db ≡ x.db
db_stays = db_of

-- without operations nothing changes
pub quiet_still : (Sound : Op → Type 0) (after : ℕ → Objects) (ops : ℕ → List Op) (made newest : ℕ) → Source Sound after ops made newest → (at e : ℕ) → made ≤ at → e ≤ newest → Quiet ops at e → Still after at e
quiet_still Sound after ops made newest source at e from to quiet k low high = numbers_up after (λ j s. SameObjects (after k) s) k e high (record { db = refl; tab = λ n. refl; par = λ n w. refl })
    (λ j le lt h.
    let none : ops (j + 1) ≡ [] = quiet (j + 1) (omega (arith, low, le)) (omega (arith, lt)) in
    let same : SameObjects (after j) (after (j + 1)) = subst (λ (l : List Op). Steps (j + 1) l (after j) (after (j + 1))) none (source.steps j (omega (arith, from, low, le)) (omega (arith, lt, to))) in
    record { db = same.db ∙ h.db; tab = λ n. same.tab n ∙ h.tab n; par = λ n w. same.par n w ∙ h.par n w })

module _ (Sound : Op → Type 0) (after : ℕ → Objects) (ops : ℕ → List Op) (made newest begin e end : ℕ) (source : Source Sound after ops made newest) (no_moves : NoMoves ops begin end)
    (from : made ≤ begin) (to : end ≤ newest) (begun : begin ≤ e) (within : e + 1 ≤ end) where
  pub one_keeps : (op : Op) (later : List Op) (s t : Objects) (r q : Replica) → Step (e + 1) op s t → Each (IsApart op) later → Steps (e + 1) later t (after (e + 1)) → IsNoMove op → Sound op
      → WellHeld s → BornsUpTo (e + 1) s → Between after e end s r → Replays Sound (e + 1) op r q → Between after e end t q
  one_keeps (PutDb rec) later s t r q step apart steps nm sound held borns between replays =
      put_db_keeps Sound after e end s t r q rec within sound (lasts_db (e + 1) (PutDb rec) later t (after (e + 1)) apart steps db_stays tt) step.done between replays
  one_keeps DropDb later s t r q step apart steps nm sound held borns between replays = absurd step.fits
  one_keeps (PutTable n b rec) later s t r q step apart steps nm sound held borns between replays =
      put_table_keeps Sound after e end s t r q n b rec within sound step.fits (λ w gone. no_part_under s held n w gone)
      (lasts_tab (e + 1) (PutTable n b rec) later t (after (e + 1)) apart steps n refl ∙ step.done.puts.1) step.done between replays
  one_keeps (DropTable n b) later s t r q step apart steps nm sound held borns between replays =
      let gone : (after (e + 1)).tab n ≡ None = lasts_tab (e + 1) (DropTable n b) later t (after (e + 1)) apart steps n refl ∙ step.done.puts.1 in
      drop_table_keeps Sound after e end s t r q n b within sound step.fits
      (λ k lt le. gone_later Sound after ops made newest source begin end no_moves from to b n (e + 1) k (omega (arith, begun)) (omega (arith, lt)) le (borns n b step.fits) (λ has. not_both gone has.is))
      step.done between replays
  one_keeps (MoveTable n b to' rec) later s t r q step apart steps nm sound held borns between replays = absurd nm
  one_keeps (PutPart n b v rec) later s t r q step apart steps nm sound held borns between replays =
      let fits = step.fits in
      let table : (after (e + 1)).tab n ≡ Some fits.table = lasts_under (e + 1) (PutPart n b v rec) later t (after (e + 1)) apart steps n v (refl, refl) ∙ step.done.tabs n (λ f. f) ∙ fits.is in
      let keys : KeysAs b n (length v) (after (e + 1)) = λ x is born. ap (λ (y : Table). length y.1.keys) (one is table) ∙ fits.keys in
      put_part_keeps Sound after e end s t r q n b v rec within sound step.fits
      (λ k x lt le is born. keys_later Sound after ops made newest source begin end no_moves from to b n (length v) (e + 1) k (omega (arith, begun)) (omega (arith, lt)) le (borns n b (has_born fits.table fits.is fits.born)) keys x is born)
      (record { table = has_born fits.table table fits.born; part = lasts_par (e + 1) (PutPart n b v rec) later t (after (e + 1)) apart steps n v (refl, refl) ∙ step.done.puts.1 })
      step.done between replays
  one_keeps (DropPart n b v) later s t r q step apart steps nm sound held borns between replays = drop_part_keeps Sound after e end s t r q n b v within sound step.fits step.done between replays
  one_keeps (MovePart n b v to' rec) later s t r q step apart steps nm sound held borns between replays = absurd nm

  all_keep : (list : List Op) (s : Objects) (r r' : Replica) → Steps (e + 1) list s (after (e + 1)) → AllApart list → Each IsNoMove list → Each Sound list
      → WellHeld s → BornsUpTo (e + 1) s → Between after e end s r → ReplaysAll Sound (e + 1) list r r' → Between after e end (after (e + 1)) r'
  all_keep [] s r r' steps apart nm sound held borns between replays = between_same after e end s (after (e + 1)) r r' steps replays.0 replays.1 between
  all_keep (op ∷ later) s r r' steps apart nm sound held borns between replays =
      all_keep later steps.0 replays.0 r' steps.2 apart.1 nm.1 sound.1 (held_step op s steps.0 steps.1.fits steps.1.done held) (borns_step (e + 1) op s steps.0 steps.1 borns)
      (one_keeps op later s steps.0 r replays.0 steps.1 apart.0 steps.2 nm.0 sound.0 held borns between replays.1) replays.2

  pub event_keeps : (at : ℕ) → at ≤ e → Quiet ops at e → (r r' : Replica) → ReplaysAll Sound (e + 1) (ops (e + 1)) r r' → StandsEvents after begin at end r → StandsEvents after begin (e + 1) end r'
  event_keeps at before quiet r r' replays stands =
      let lowest : made ≤ at = omega (arith, from, stands.begun) in
      let start : made ≤ e = omega (arith, from, begun) in
      let reached : e + 1 ≤ newest = omega (arith, within, to) in
      between_stands after e end within begin r' begun (all_keep (ops (e + 1)) (after e) r r'
      (source.steps e start (omega (arith, reached))) (source.apart (e + 1) (omega (arith, start)) reached) (no_moves (e + 1) (omega (arith, begun)) within) (source.sound (e + 1) (omega (arith, start)) reached)
      (well_held Sound after ops made newest source e start (omega (arith, reached)))
      (λ n b has. let le : b ≤ e = borns_up Sound after ops made newest source e start (omega (arith, reached)) n b has in omega (arith, le))
      (stands_between after at e end before (quiet_still Sound after ops made newest source at e lowest (omega (arith, reached)) quiet) begin r stands) replays)
