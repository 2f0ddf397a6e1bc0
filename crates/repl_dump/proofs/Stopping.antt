-- Where a walk stops.
use Rattle.std.proofs.Common.{◌≡◌, ◌≢◌, ℕ, List, [], ◌∷◌, ◌++◌, Some, refl, sym, ◌∙◌, ap, inl, inr, append_assoc}
use Rattle.desk.specs.History.{Entry}
use Rattle.desk.specs.Walks.{Goes, Place, done, step_at}
use Rattle.repl_dump.specs.Turns.{Breaks, IsOwn, Refuses, Stopped, ToldBy, place_of}
use Rattle.repl_dump.specs.declared.failure.Failure.{Failure}
use Rattle.repl_dump.specs.declared.failure.Failure.TheVariants as failure
use Rattle.repl_dump.specs.declared.place.Place.{Place as At}
use Rattle.repl_dump.specs.declared.place.Place.TheVariants as at
use Rattle.repl_dump.proofs.Stepping.{goes_both}

-- no place of a dump is behind its end
pub unfinished : (place : At) → place_of place ≢ done
unfinished (at.Tables after) = λ q. absurd cc
unfinished (at.Parts table born after) = λ q. absurd cc
unfinished at.Seal = λ q. absurd cc
unfinished (at.Events after) = λ q. absurd cc
unfinished at.End = λ q. absurd cc

own_told : (failed : Failure) (entries : List Entry) → IsOwn failed → ToldBy failed entries
own_told (failure.Refused refusal) entries own = absurd own
own_told failure.FolderFault entries own = tt
own_told failure.NoMemory entries own = tt

-- it stops where it stands, before any step
pub stopped_here : (dump begin : ℕ) (from : Place) (failed : Failure) → from ≢ done → IsOwn failed → Stopped dump begin from failed []
stopped_here dump begin from failed before_end own = record { place = from; walked = []; failed = []; is = refl; goes = refl; unfinished = before_end; fails = tt; told = own_told failed [] own }

-- the answer was a refusal, or want of memory
refused_there : (dump begin : ℕ) (from : Place) (failed : Failure) (entry : Entry) → from ≢ done → step_at dump from ≡ Some entry.0.step → Refuses failed entry.1.answer → Stopped dump begin from failed (entry ∷ [])
refused_there dump begin from (failure.Refused refusal) entry before_end step is =
    record { place = from; walked = []; failed = entry ∷ []; is = refl; goes = refl; unfinished = before_end; fails = (step, inl (refusal, is)); told = is }
refused_there dump begin from failure.FolderFault entry before_end step is = absurd is
refused_there dump begin from failure.NoMemory entry before_end step is =
    record { place = from; walked = []; failed = entry ∷ []; is = refl; goes = refl; unfinished = before_end; fails = (step, inr is); told = tt }

-- it stops at a step
pub stopped_there : (dump begin : ℕ) (from : Place) (failed : Failure) (entry : Entry) → from ≢ done → step_at dump from ≡ Some entry.0.step → Breaks failed begin from entry.1.answer → Stopped dump begin from failed (entry ∷ [])
stopped_there dump begin from failed entry before_end step (inl refuses) = refused_there dump begin from failed entry before_end step refuses
stopped_there dump begin from failed entry before_end step (inr broken) = record {
  place = broken.1.0;
  walked = entry ∷ [];
  failed = [];
  is = refl;
  goes = (step, (broken.1.0, (broken.1.1, refl)));
  unfinished = broken.1.2;
  fails = tt;
  told = own_told failed [] broken.0;
}

-- it stops further on
pub stopped_later : (dump begin : ℕ) (from mid : Place) (failed : Failure) (xs ys : List Entry) → Goes dump begin from xs mid → Stopped dump begin mid failed ys → Stopped dump begin from failed (xs ++ ys)
stopped_later dump begin from mid failed xs ys walked stopped = record {
  place = stopped.place;
  walked = xs ++ stopped.walked;
  failed = stopped.failed;
  is = ap (λ (l : List Entry). xs ++ l) stopped.is ∙ sym (append_assoc xs stopped.walked stopped.failed);
  goes = goes_both dump begin from mid stopped.place xs stopped.walked walked stopped.goes;
  unfinished = stopped.unfinished;
  fails = stopped.fails;
  told = stopped.told;
}
