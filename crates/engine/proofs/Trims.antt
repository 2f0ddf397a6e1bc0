-- What a trim did.
use Rattle.std.proofs.Common.{◌≡◌, ℕ, ◌+◌, ◌<◌, ◌≤◌, nat_le, nat_lt, Bool, true, Option, None, Some, refl, sym, ◌∙◌, ap, eq-eqb, ne_eqb, lt-ltb, le-leb, arith}
use Rattle.std.specs.Prelude.{cond, ℤ}
use Rattle.cat_types.specs.declared.steps.Answer.TheVariants as answer
use Rattle.cat_types.specs.declared.steps.Step.TheVariants.{Trim}
use Rattle.desk.specs.State.{State, Written, first_after_trim, trimmed, with_dumps, with_written, writing, written_first}
use Rattle.dump_steps.specs.Open.{first_kept, trim_end}
use Rattle.engine.proofs.Steps.{failed_by, same_dumps, stepped_failed, stepped_quiet, stepped_written, unit, well}
use Rattle.engine.proofs.Tests.{all_of}
use Rattle.engine.specs.Inside.{IsSure, Logged, Seen, Stepped, refused_by}
use Rattle.engine.specs.Opening.{takes}
use Rattle.ms_journal.specs.declared.fault.StoreFault.{StoreFault}

first_stays : (first end : ℕ) → end < first → first ≡ first_kept first end
first_stays first end below = omega (arith, below)

first_rises : (first end : ℕ) → first ≤ end → end + 1 ≡ first_kept first end
first_rises first end le = omega (arith, le)

nothing_written : (old new : ℕ) → old ≡ new → written_first old new ≡ None
nothing_written old new is = ap (λ (b : Bool). cond b None (Some (trimmed new))) (eq-eqb old new is)

first_written : (old end : ℕ) → old ≤ end → written_first old (end + 1) ≡ Some (trimmed (end + 1))
first_written old end le = ap (λ (b : Bool). cond b None (Some (trimmed (end + 1)))) (ne_eqb old (end + 1) (λ same. omega (arith, le, same)))

-- where no kept event is taken off
pub stepped_uncut : (s : State) (caller : ℕ) (upto : ℤ) (end first : ℕ) (v : Seen) → end ≡ trim_end upto s.newest s.dumps → first ≡ s.first → end < first → IsSure v → Stepped s caller (Trim upto) (answer.Kept first) s v v
stepped_uncut s caller upto end first v is same below sure =
    let stays : first ≡ first_after_trim s upto = first_stays first end below ∙ ap (λ (f : ℕ). first_kept f end) same ∙ ap (λ (n : ℕ). first_kept s.first n) is in
    let none : writing s (Trim upto) ≡ None = nothing_written s.first (first_after_trim s upto) (sym same ∙ stays) in
    stepped_quiet s s caller (Trim upto) (answer.Kept first) v refl (ap (λ (n : ℕ). answer.Kept n) stays) none (ap (λ (o : Option Written). with_dumps s.dumps (with_written o s)) (sym none)) sure

rises : (s : State) (upto : ℤ) (end : ℕ) → end ≡ trim_end upto s.newest s.dumps → s.first ≤ end → end + 1 ≡ first_after_trim s upto
rises s upto end is le = first_rises s.first end le ∙ ap (λ (n : ℕ). first_kept s.first n) is

writes_first : (s : State) (upto : ℤ) (end : ℕ) → end ≡ trim_end upto s.newest s.dumps → s.first ≤ end → writing s (Trim upto) ≡ Some (trimmed (end + 1))
writes_first s upto end is le = ap (λ (n : ℕ). written_first s.first n) (sym (rises s upto end is le)) ∙ first_written s.first end le

taken_first : (s : State) (end : ℕ) → s.first ≤ end → end ≤ s.newest → takes s (trimmed (end + 1)) ≡ true
taken_first s end le below = all_of (nat_lt s.first (end + 1)) (nat_le (end + 1) (s.newest + 1)) (lt-ltb s.first (end + 1) (omega (arith, le))) (le-leb (end + 1) (s.newest + 1) (omega (arith, below)))

-- where some are
pub stepped_cut : (s t : State) (caller : ℕ) (upto : ℤ) (end : ℕ) (v u : Seen) → end ≡ trim_end upto s.newest s.dumps → s.first ≤ end → end ≤ s.newest
    → t ≡ with_written (Some (trimmed (end + 1))) s → Logged (trimmed (end + 1)) (well unit) v u → Stepped s caller (Trim upto) (answer.Kept (end + 1)) t v u
stepped_cut s t caller upto end v u is le below done log =
    let writes_it = writes_first s upto end is le in
    stepped_written s t caller (Trim upto) (answer.Kept (end + 1)) (trimmed (end + 1)) unit v u refl (ap (λ (n : ℕ). answer.Kept n) (rises s upto end is le)) writes_it (taken_first s end le below)
    (done ∙ ap (λ (o : Option Written). with_written o s) (sym writes_it) ∙ sym (same_dumps s (writing s (Trim upto)))) log

pub stepped_uncut_fault : (s t : State) (caller : ℕ) (upto : ℤ) (end : ℕ) (f : StoreFault) (v u : Seen) → end ≡ trim_end upto s.newest s.dumps → s.first ≤ end → end ≤ s.newest
    → t ≡ s → Logged (trimmed (end + 1)) (failed_by (Unit {0}) f) v u → Stepped s caller (Trim upto) (refused_by f) t v u
stepped_uncut_fault s t caller upto end f v u is le below stays log =
    stepped_failed (Unit {0}) s t caller (Trim upto) (trimmed (end + 1)) f v u refl (writes_first s upto end is le) (taken_first s end le below) stays log
