-- A payload behind a gate that was shut first.
use Rattle.std.proofs.Common.{◌≡◌, ◌≤◌, ◌⊎◌, inl, inr, ℕ, List, [], ◌∷◌, ◌++◌, Bool, true, refl, ◌∙◌, ap, subst, arith}
use Rattle.std.specs.Prelude.{Option, None, Some, IfSome, IsErrOf, Result, Ok, Err, OnOk, OnErr, is_err}
use Rattle.desk.specs.State.{Written}
use Rattle.engine.specs.Inside.{IsSure, LogAfter, Logged, Meanwhile, Ran, Seen}
use Rattle.engine.specs.Opening.{spelled}
use Rattle.hms_outside.proofs.Moves.{started, went_both, went_weaker}
use Rattle.hms_outside.specs.Causes.{Rose}
use Rattle.hms_outside.specs.Disks.{Lies, Went}
use Rattle.ms_journal.specs.Books.{LeavesOpen, OpensTo}
use Rattle.ms_journal.specs.declared.fault.StoreFault.{StoreFault}
use Rattle.ms_journal.specs.declared.fault.StoreFault.TheVariants as fault

same_file : (head head2 : List ℕ) (ps qs : List (List ℕ)) (payload c : List ℕ) → head2 ≡ head → qs ≡ ps → OpensTo head2 qs (Some payload) c → OpensTo head ps (Some payload) c
same_file head head2 ps qs payload c same is opens =
    subst (λ (h : List ℕ). OpensTo h ps (Some payload) c) same (subst (λ (l : List (List ℕ)). OpensTo head2 l (Some payload) c) is opens)

log_added : (payload : List ℕ) (r : Result (Unit {0}) StoreFault) (old mid new : Seen) → mid.payloads ≡ old.payloads
    → OnOk r (new.payloads ≡ mid.payloads ++ payload ∷ []) → OnOk r (new.doubt ≡ None) → OnErr r (new.payloads ≡ mid.payloads) → OnErr r ((new.doubt ≡ None) ⊎ (new.doubt ≡ Some payload))
    → LogAfter (Some payload) (is_err r) old new
log_added payload (Ok x) old mid new same added settled stay doubt = (added ∙ ap (λ (l : List (List ℕ)). l ++ payload ∷ []) same, settled)
log_added payload (Err e) old mid new same added settled stay doubt = (stay ∙ same, either doubt)
  where
    either : ((new.doubt ≡ None) ⊎ (new.doubt ≡ Some payload)) → (new.doubt ≡ None) ⊎ ((new.doubt ≡ old.doubt) ⊎ (new.doubt ≡ Some payload))
    either (inl none) = inl none
    either (inr own) = inr (inr own)

abbrev refused_so : StoreFault → Result (Unit {0}) StoreFault
refused_so f = Err f

-- the gate is shut, and then the payload is added or not
pub shut_then_added : (payload : List ℕ) (r : Result (Unit {0}) StoreFault) (old mid new : Seen)
    → mid.head ≡ old.head → mid.payloads ≡ old.payloads
    → Went old.past mid.past mid.lies (LeavesOpen mid.head mid.payloads mid.doubt) (OpensTo old.head old.payloads old.doubt)
    → old.faults ≤ mid.faults
    → new.head ≡ mid.head
    → OnOk r (new.payloads ≡ mid.payloads ++ payload ∷ []) → OnOk r (new.doubt ≡ None) → OnErr r (new.payloads ≡ mid.payloads) → OnErr r ((new.doubt ≡ None) ⊎ (new.doubt ≡ Some payload))
    → Went mid.past new.past new.lies (LeavesOpen new.head new.payloads new.doubt) (OpensTo mid.head mid.payloads (Some payload))
    → mid.faults ≤ new.faults
    → Ran (Some payload) (is_err r) old new
shut_then_added payload r old mid new head same shut later head2 added settled stay doubt went later2 = record {
  head = head2 ∙ head;
  log = log_added payload r old mid new same added settled stay doubt;
  went = went_both mid.lies new.lies old.past mid.past new.past (LeavesOpen mid.head mid.payloads mid.doubt) (LeavesOpen new.head new.payloads new.doubt) (Meanwhile old (Some payload))
      (went_weaker mid.lies old.past mid.past (LeavesOpen mid.head mid.payloads mid.doubt) (LeavesOpen mid.head mid.payloads mid.doubt) (OpensTo old.head old.payloads old.doubt) (Meanwhile old (Some payload)) (λ d h. h) (λ c h. inl h) shut)
      (went_weaker new.lies mid.past new.past (LeavesOpen new.head new.payloads new.doubt) (LeavesOpen new.head new.payloads new.doubt) (OpensTo mid.head mid.payloads (Some payload)) (Meanwhile old (Some payload)) (λ d h. h) (λ c h. inr (same_file old.head mid.head old.payloads mid.payloads payload c head same h)) went);
  later = omega (arith, later, later2);
}

-- the gate isn't shut
pub not_shut : (payload : List ℕ) (old new : Seen) → new.head ≡ old.head → new.payloads ≡ old.payloads → new.doubt ≡ old.doubt
    → Went old.past new.past new.lies (LeavesOpen new.head new.payloads new.doubt) (OpensTo old.head old.payloads old.doubt)
    → old.faults ≤ new.faults
    → Ran (Some payload) true old new
not_shut payload old new head same doubt went later = record {
  head = head;
  log = (same, inr (inl doubt));
  went = went_weaker new.lies old.past new.past (LeavesOpen new.head new.payloads new.doubt) (LeavesOpen new.head new.payloads new.doubt) (OpensTo old.head old.payloads old.doubt) (Meanwhile old (Some payload)) (λ d h. h) (λ c h. inl h) went;
  later = later;
}

-- nothing was called
pub rested : (v : Seen) → IfSome v.lies (LeavesOpen v.head v.payloads v.doubt) → (refused : Bool) → Ran None refused v v
rested v sure refused = record {
  head = refl;
  log = (refl, refl);
  went = started v.lies v.past (LeavesOpen v.head v.payloads v.doubt) (Meanwhile v None) sure;
  later = omega arith;
}

pub rose_later : (a b c : ℕ) → a ≤ b → Rose b c → Rose a c
rose_later a b c le rose = omega (arith, le, rose)

-- a gate that isn't doubtful is left alone
pub left_alone : (o : Option Lies) (past : List Lies) (head : List ℕ) (ps : List (List ℕ)) (doubt : Option (List ℕ)) → IfSome o (LeavesOpen head ps doubt) → Went past past o (LeavesOpen head ps doubt) (OpensTo head ps doubt)
left_alone o past head ps doubt sure = started o past (LeavesOpen head ps doubt) (OpensTo head ps doubt) sure

-- ---- an entry

-- want of memory before the journal was touched
pub unlogged : (o : Option Written) (v : Seen) → IsSure v → IfSome o (λ w. Logged w (refused_so fault.NoMemory) v v)
unlogged None v sure = tt
unlogged (Some w) v sure = record { payload = None; spells = refl; ran = rested v sure true; cause = λ is. absurd cc }

-- a payload that spells the entry was added, or wasn't
pub logged : (o : Option Written) (payload : List ℕ) (r : Result (Unit {0}) StoreFault) (v u : Seen) → spelled payload ≡ o → Ran (Some payload) (is_err r) v u → (IsErrOf r fault.DiskFault → Rose v.faults u.faults) → IfSome o (λ w. Logged w r v u)
logged None payload r v u spells ran cause = tt
logged (Some w) payload r v u spells ran cause = record { payload = Some payload; spells = spells; ran = ran; cause = cause }
