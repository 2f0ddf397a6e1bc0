-- A caller's open dump stays open over its own steps, up to the last one.
use Rattle.std.proofs.Common.{◌≡◌, ℕ, Bool, true, false, cond, List, [], ◌∷◌, Some, refl, ◌∙◌, ap}
use Rattle.cat_types.specs.declared.steps.Answer.{Answer}
use Rattle.cat_types.specs.declared.steps.Step.{Step}
use Rattle.cat_types.specs.declared.steps.Step.TheVariants.{DumpSeal}
use Rattle.desk.specs.State.{State, due, due_dumps, is_refused, state_after_answer}
use Rattle.dump_steps.specs.Open.{is_dump, open_dump, sealed_at, takes_objects, with_sealed}
use Rattle.dump_steps.specs.Pieces.{is_taken_in}
use Rattle.dump_steps.specs.declared.open_dumps.OpenDump.{OpenDump}

-- a step that leaves the open dumps where it is answered as is due leaves them however it is answered
pub same_dumps : (s : State) (me : ℕ) (step : Step) (given : Answer) → due_dumps s me step ≡ s.dumps → (state_after_answer s me step given).dumps ≡ s.dumps
same_dumps s me step given same = by_test (is_refused given)
  where
    by_test : (b : Bool) → (cond {A = State} b s (due s me step).state).dumps ≡ s.dumps
    by_test true = refl
    by_test false = same

-- a dump that is sealed is found as sealed
pub sealed_found : (me number end : ℕ) (dumps : List OpenDump) (dump : OpenDump) → open_dump me number dumps ≡ Some dump → open_dump me number (with_sealed me number end dumps) ≡ Some (sealed_at end dump)
sealed_found me number end [] dump is = absurd cc
sealed_found me number end (x ∷ xs) dump is = by_test (is_dump me number x) refl is (sealed_found me number end xs dump)
  where
    by_test : (b : Bool) → is_dump me number x ≡ b → cond b (Some x) (open_dump me number xs) ≡ Some dump
        → (open_dump me number xs ≡ Some dump → open_dump me number (with_sealed me number end xs) ≡ Some (sealed_at end dump))
        → open_dump me number (cond b (sealed_at end x) x ∷ with_sealed me number end xs) ≡ Some (sealed_at end dump)
    by_test true its found later =
        let same : x ≡ dump = cc in
        ap (λ (b : Bool). cond b (Some (sealed_at end x)) (open_dump me number (with_sealed me number end xs))) its ∙ ap (λ (d : OpenDump). Some (sealed_at end d)) same
    by_test false its found later = ap (λ (b : Bool). cond b (Some x) (open_dump me number (with_sealed me number end xs))) its ∙ later found

-- after a seal the dump is open, however the seal was answered
pub open_sealed : (s : State) (me number : ℕ) (given : Answer) (dump : OpenDump) → open_dump me number s.dumps ≡ Some dump
    → (after : OpenDump) × (open_dump me number (state_after_answer s me (DumpSeal number) given).dumps ≡ Some after)
open_sealed s me number given dump is = by_test (is_refused given)
  where
    due_open : (b : Bool) → (after : OpenDump) × (open_dump me number (cond b (with_sealed me number s.newest s.dumps) s.dumps) ≡ Some after)
    due_open true = (sealed_at s.newest dump, sealed_found me number s.newest s.dumps dump is)
    due_open false = (dump, is)

    by_test : (r : Bool) → (after : OpenDump) × (open_dump me number (cond {A = State} r s (due s me (DumpSeal number)).state).dumps ≡ Some after)
    by_test true = (dump, is)
    by_test false = due_open (is_taken_in (open_dump me number s.dumps) takes_objects s.catalogue)
