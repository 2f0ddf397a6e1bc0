-- A file opens to one store.
use Rattle.std.proofs.Common.{◌≡◌, inl, inr, ℕ, Bool, true, false, List, [], ◌∷◌, ◌++◌, Result, Ok, Err, refl, sym, ◌∙◌, ap, subst}
use Rattle.std.specs.Prelude.{cond, Option, None, Some, IsSome, IfSome}
use Rattle.desk.specs.History.{MayReopen, Pending, Point, Start, found, found_done, next, pending_at, point_of, state_found, took}
use Rattle.desk.specs.State.{State, due, durable, is_refused, writes}
use Rattle.engine.proofs.Payloads.{ok}
use Rattle.engine.specs.Keeping.{IsReopened, Kept}
use Rattle.engine.specs.Laws.{AcceptedStepsAreKept, StoresBreakAtOnePlace, StoresOpen, StoresOpenOneWay}
use Rattle.engine.specs.Opening.{IsBrokenStore, Opens, RefusesReplay, opened}
use Rattle.hms_outside.proofs.Moves.{after_weaker}
use Rattle.hms_outside.specs.Disks.{Lies}
use Rattle.ms_journal.proofs.OneWay.{file_opens, one_file, one_place}
use Rattle.ms_journal.specs.Faults.{IsOpeningFault, IsOutage}
use Rattle.ms_journal.specs.Files.{IsBroken, IsFile, IsForeign}
use Rattle.ms_journal.specs.declared.fault.OpenFault.{OpenFault}
use Rattle.ms_journal.specs.declared.fault.OpenFault.TheVariants as opening

-- ---- one reading

same_result : (h k : List ℕ) (ps qs : List (List ℕ)) (c : List ℕ) → IsFile h ps c → IsFile k qs c → opened h ps ≡ opened k qs
same_result h k ps qs c one two =
    let same = one_file h k ps qs c one two in
    ap (λ (x : List ℕ). opened x ps) same.0 ∙ ap (λ (l : List (List ℕ)). opened k l) same.1

one_ok : (s t : State) (r q : Result State ℕ) → r ≡ q → r ≡ Ok s → q ≡ Ok t → s ≡ t
one_ok s t r q same one two = cc

one_err : (a b : ℕ) (r q : Result State ℕ) → r ≡ q → r ≡ Err a → q ≡ Err b → a ≡ b
one_err a b r q same one two = cc

not_both : (s : State) (a : ℕ) (r q : Result State ℕ) → r ≡ q → r ≡ Ok s → q ≡ Err a → ⊥
not_both s a r q same one two = absurd cc

pub one_state : StoresOpenOneWay
one_state c s t one two = one_ok s t (opened one.head one.payloads) (opened two.head two.payloads) (same_result one.head two.head one.payloads two.payloads c one.file two.file) one.gives two.gives

pub not_refused : StoresOpen
not_refused c s at opens = ((file_opens opens.head opens.payloads at c opens.file).0, (λ broken. not_broken broken))
  where
    not_broken : IsBrokenStore at c → ⊥
    not_broken (inl broken) = (file_opens opens.head opens.payloads at c opens.file).1 broken
    not_broken (inr untaken) = not_both s at (opened opens.head opens.payloads) (opened untaken.head untaken.payloads) (same_result opens.head untaken.head opens.payloads untaken.payloads c opens.file untaken.file) opens.gives untaken.gives

pub breaks_at_one : StoresBreakAtOnePlace
breaks_at_one c a b (inl one) (inl two) = one_place a b c one two
breaks_at_one c a b (inl one) (inr two) = absurd ((file_opens two.head two.payloads a c two.file).1 one)
breaks_at_one c a b (inr one) (inl two) = absurd ((file_opens one.head one.payloads b c one.file).1 two)
breaks_at_one c a b (inr one) (inr two) = one_err a b (opened one.head one.payloads) (opened two.head two.payloads) (same_result one.head two.head one.payloads two.payloads c one.file two.file) one.gives two.gives

-- ---- what was kept

-- it opens to where the history stands behind one opening
pub is_reopened : (p : Point) (c : List ℕ) (s : Start) → Opens c s.state → Kept p c → IsReopened p s
is_reopened p c s opens kept = record {
  done = kept.done;
  may = kept.may;
  point = ap (λ (x : State). point_of (record { state = x; fault = s.fault; past = s.past })) (one_state c s.state (state_found p.state (found_done kept.done p.pending)) opens kept.opens);
}

-- where nothing is pending, it opens to what is on the disks
not_found : (n : ℕ) (pending : List Pending) → pending ≡ [] → IsSome (found n pending) → ⊥
not_found n [] none is = cc
not_found n (l ∷ ls) none is = absurd cc

settled : (done : Option ℕ) (pending : List Pending) (s t : State) (c : List ℕ) → pending ≡ [] → s ≡ t → MayReopen done pending → Opens c (state_found s (found_done done pending)) → Opens c (durable t)
settled None pending s t c none same may opens = subst (λ (x : State). Opens c (durable x)) same opens
settled (Some n) pending s t c none same may opens = absurd (not_found n pending none may)

none_pending : (writing refused : Bool) (xs ys : List Pending) → writing ≡ true → refused ≡ false → cond writing (cond refused xs []) ys ≡ []
none_pending true false xs ys w r = refl
none_pending true true xs ys w r = absurd cc
none_pending false refused xs ys w r = absurd cc

moved_on : (refused : Bool) (s t : State) → refused ≡ false → cond refused s t ≡ t
moved_on true s t is = absurd cc
moved_on false s t is = refl

pub accepted_kept : AcceptedStepsAreKept
accepted_kept p e c is accepted kept =
    settled kept.done (next p (took e)).pending (next p (took e)).state (due p.state e.0.caller e.0.step).state c
    (none_pending (writes p.state e.0.step) (is_refused e.1.answer) (p.pending ++ pending_at p.state e.0.caller e.0.step ∷ []) p.pending is accepted)
    (moved_on (is_refused e.1.answer) p.state (due p.state e.0.caller e.0.step).state accepted)
    kept.may kept.opens

-- ---- why a store isn't opened

by_fault : (fault : OpenFault) (p : Point) (c : List ℕ) → IsOpeningFault fault → (fault ≡ opening.Foreign → IsForeign c) → ((at : ℕ) → fault ≡ opening.Broken at → IsBrokenStore at c) → Kept p c → IsOutage fault
by_fault opening.NotEmpty p c kind foreign broken kept = absurd kind
by_fault opening.Foreign p c kind foreign broken kept = absurd ((not_refused c (state_found p.state (found_done kept.done p.pending)) 0 kept.opens).0 (foreign refl))
by_fault (opening.Broken at) p c kind foreign broken kept = absurd ((not_refused c (state_found p.state (found_done kept.done p.pending)) at kept.opens).1 (broken at refl))
by_fault opening.DiskFault p c kind foreign broken kept = tt
by_fault opening.NoMemory p c kind foreign broken kept = tt

-- what was kept is refused by an outage alone
pub only_outage : (o : Option Lies) (fault : OpenFault) → IsOpeningFault fault → (fault ≡ opening.Foreign → IfSome o (λ d. IsForeign d.held)) → ((at : ℕ) → fault ≡ opening.Broken at → IfSome o (λ d. IsBrokenStore at d.held))
    → IfSome o (λ d. (p : Point) → Kept p d.held → IsOutage fault)
only_outage None fault kind foreign broken = tt
only_outage (Some d) fault kind foreign broken = λ p kept. by_fault fault p d.held kind foreign broken kept

-- a journal's file that is broken
pub broken_file : (o : Option Lies) (at : ℕ) → IfSome o (λ d. IsBroken at d.held) → IfSome o (λ d. IsBrokenStore at d.held)
broken_file o at is = after_weaker o (λ d. IsBroken at d.held) (λ d. IsBrokenStore at d.held) (λ d broken. inl broken) is

-- ---- why payloads weren't replayed

pub replay_kind : (fault : OpenFault) (r : Result State ℕ) → RefusesReplay fault r → IsOpeningFault fault
replay_kind opening.NotEmpty r is = absurd is
replay_kind opening.Foreign r is = tt
replay_kind (opening.Broken at) r is = tt
replay_kind opening.DiskFault r is = tt
replay_kind opening.NoMemory r is = tt

pub replay_not_foreign : (fault : OpenFault) (r : Result State ℕ) → RefusesReplay fault r → fault ≡ opening.Foreign → ⊥
replay_not_foreign opening.NotEmpty r is same = absurd is
replay_not_foreign opening.Foreign r is same = is
replay_not_foreign (opening.Broken at) r is same = absurd cc
replay_not_foreign opening.DiskFault r is same = absurd is
replay_not_foreign opening.NoMemory r is same = absurd cc

pub replay_not_fault : (fault : OpenFault) (r : Result State ℕ) → RefusesReplay fault r → fault ≡ opening.DiskFault → ⊥
replay_not_fault opening.NotEmpty r is same = absurd is
replay_not_fault opening.Foreign r is same = absurd is
replay_not_fault (opening.Broken at) r is same = absurd cc
replay_not_fault opening.DiskFault r is same = is
replay_not_fault opening.NoMemory r is same = absurd cc

-- a file whose payload at this place isn't taken
pub untaken_file : (o : Option Lies) (head : List ℕ) (ps : List (List ℕ)) (fault : OpenFault) (at : ℕ) → IfSome o (λ d. IsFile head ps d.held) → RefusesReplay fault (opened head ps) → fault ≡ opening.Broken at → IfSome o (λ d. IsBrokenStore at d.held)
untaken_file o head ps fault at file refused is =
    let gives : opened head ps ≡ Err at = subst (λ (f : OpenFault). RefusesReplay f (opened head ps)) is refused in
    after_weaker o (λ d. IsFile head ps d.held) (λ d. IsBrokenStore at d.held) (λ d whole. inr (record { head = head; payloads = ps; file = whole; gives = gives })) file

-- ---- what is opened

pub opens_found : (o : Option Lies) (head : List ℕ) (ps : List (List ℕ)) (s t : State) → IfSome o (λ d. IsFile head ps d.held) → opened head ps ≡ Ok s → t ≡ s → IfSome o (λ d. Opens d.held t)
opens_found o head ps s t file gives same =
    after_weaker o (λ d. IsFile head ps d.held) (λ d. Opens d.held t) (λ d whole. record { head = head; payloads = ps; file = whole; gives = gives ∙ ap (λ (x : State). ok x) (sym same) }) file

pub reopened_found : (o : Option Lies) (s : Start) → IfSome o (λ d. Opens d.held s.state) → IfSome o (λ d. (p : Point) → Kept p d.held → IsReopened p s)
reopened_found o s opens = after_weaker o (λ d. Opens d.held s.state) (λ d. (p : Point) → Kept p d.held → IsReopened p s) (λ d found p kept. is_reopened p d.held s found kept) opens
