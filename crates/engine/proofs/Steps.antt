-- What any step did.
use Rattle.std.proofs.Common.{◌≡◌, ℕ, Bool, true, false, List, Option, None, Some, Result, Ok, Err, refl, sym, ◌∙◌, ap, subst}
use Rattle.std.specs.Prelude.{cond, is_some}
use Rattle.cat_types.specs.declared.steps.Answer.{Answer}
use Rattle.cat_types.specs.declared.steps.Answer.TheVariants as answer
use Rattle.cat_types.specs.declared.steps.Step.{Step}
use Rattle.desk.specs.State.{MayBe, State, Untaken, Written, drew, due, due_answer, is_refused, kept, may_want, trimmed, untaken, with_dumps, with_written, writing}
use Rattle.engine.proofs.Commits.{rested}
use Rattle.engine.specs.Inside.{IsSure, IsTaken, Logged, Ran, Seen, Spells, Stepped, refused_by}
use Rattle.engine.specs.Opening.{takes}
use Rattle.ms_journal.specs.declared.fault.StoreFault.{StoreFault}
use Rattle.ms_journal.specs.declared.fault.StoreFault.TheVariants as fault

-- ---- the parts

-- a step that wasn't refused did what is due
due_state : (o : Option Untaken) (s t : State) → o ≡ None → cond (is_some o) s t ≡ t
due_state None s t is = refl
due_state (Some why) s t is = absurd cc

taken_of : (s : State) (o : Option (List ℕ)) (written : Option Written) (w : Written) → written ≡ Some w → takes s w ≡ true → IsTaken s o written
taken_of s None written w is takes_it = tt
taken_of s (Some payload) None w is takes_it = tt
taken_of s (Some payload) (Some other) w is takes_it = let same : other ≡ w = cc in subst (λ (x : Written). takes s x ≡ true) (sym same) takes_it

none_spelled : (o : Option Written) → Spells true None o
none_spelled None = tt
none_spelled (Some w) = refl

pub nothing : (o : Option Written) → is_some o ≡ false → o ≡ None
nothing None is = refl
nothing (Some w) is = absurd cc

-- what is written leaves the open dumps
pub same_dumps : (s : State) (o : Option Written) → with_dumps s.dumps (with_written o s) ≡ with_written o s
same_dumps s None = refl
same_dumps s (Some (kept event)) = refl
same_dumps s (Some (drew number)) = refl
same_dumps s (Some (trimmed first)) = refl

-- ---- the step

-- one that writes nothing
pub stepped_quiet : (s t : State) (caller : ℕ) (step : Step) (given : Answer) (v : Seen) → untaken given ≡ None → given ≡ due_answer s caller step → writing s step ≡ None → t ≡ (due s caller step).state → IsSure v → Stepped s caller step given t v v
stepped_quiet s t caller step given v none is quiet done sure = record {
  state = done ∙ sym (due_state (untaken given) s (due s caller step).state none);
  may = subst (λ (o : Option Untaken). MayBe s v.faults caller step given o v.faults) (sym none) is;
  payload = None;
  spells = subst (λ (o : Option Written). Spells (is_refused given) None o) (sym quiet) tt;
  taken = tt;
  ran = rested v sure (is_refused given);
}

-- want of memory before anything was written
pub stepped_wanting : (s : State) (caller : ℕ) (step : Step) (v : Seen) → may_want step ≡ true → IsSure v → Stepped s caller step answer.NoMemory s v v
stepped_wanting s caller step v wants sure = record {
  state = refl;
  may = wants;
  payload = None;
  spells = none_spelled (writing s step);
  taken = tt;
  ran = rested v sure true;
}

abbrev pub well : {T : Type 0} → T → Result T StoreFault
well x = Ok x

abbrev pub unit : Unit {0}
unit = tt

abbrev pub failed_by : (T : Type 0) → StoreFault → Result T StoreFault
failed_by T f = Err f

-- one whose entry was written
pub stepped_written : {T : Type 0} (s t : State) (caller : ℕ) (step : Step) (given : Answer) (w : Written) (x : T) (v u : Seen) → untaken given ≡ None → given ≡ due_answer s caller step → writing s step ≡ Some w → takes s w ≡ true
    → t ≡ (due s caller step).state → Logged w (well x) v u → Stepped s caller step given t v u
stepped_written s t caller step given w x v u none is writes_it takes_it done log =
    let accepted : is_refused given ≡ false = ap (λ (o : Option Untaken). is_some o) none in
    record {
      state = done ∙ sym (due_state (untaken given) s (due s caller step).state none);
      may = subst (λ (o : Option Untaken). MayBe s v.faults caller step given o u.faults) (sym none) is;
      payload = log.payload;
      spells = subst (λ (b : Bool). Spells b log.payload (writing s step)) (sym accepted) (subst (λ (o : Option Written). Spells false log.payload o) (sym writes_it) log.spells);
      taken = taken_of s log.payload (writing s step) w writes_it takes_it;
      ran = subst (λ (b : Bool). Ran log.payload b v u) (sym accepted) log.ran;
    }

-- one whose entry wasn't written
pub stepped_failed : (T : Type 0) (s t : State) (caller : ℕ) (step : Step) (w : Written) (f : StoreFault) (v u : Seen) → may_want step ≡ true → writing s step ≡ Some w → takes s w ≡ true
    → t ≡ s → Logged w (failed_by T f) v u → Stepped s caller step (refused_by f) t v u
stepped_failed T s t caller step w fault.DiskFault v u wants writes_it takes_it stays log = record {
  state = stays;
  may = (ap (λ (o : Option Written). is_some o) writes_it, log.cause refl);
  payload = log.payload;
  spells = subst (λ (o : Option Written). Spells true log.payload o) (sym writes_it) log.spells;
  taken = taken_of s log.payload (writing s step) w writes_it takes_it;
  ran = log.ran;
}
stepped_failed T s t caller step w fault.NoMemory v u wants writes_it takes_it stays log = record {
  state = stays;
  may = wants;
  payload = log.payload;
  spells = subst (λ (o : Option Written). Spells true log.payload o) (sym writes_it) log.spells;
  taken = taken_of s log.payload (writing s step) w writes_it takes_it;
  ran = log.ran;
}
