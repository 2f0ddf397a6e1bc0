-- How a turn goes on from where a history stands.
use Rattle.std.proofs.Common.{◌≡◌, ◌≤◌, ◌⊎◌, inl, inr, ℕ, zero, suc, Bool, true, false, List, [], ◌∷◌, ◌++◌, length, Option, Some, None, Ok, refl, sym, ◌∙◌, ap, subst}
use Rattle.std.specs.Prelude.{cond, is_some, IsSome}
use Rattle.cat_types.specs.declared.steps.Answer.{Answer}
use Rattle.cat_types.specs.declared.steps.Step.{Step}
use Rattle.desk.specs.History.{Entry, MayFollow, Pending, Point, found, next, pending_after, pending_at, state_found, took}
use Rattle.desk.specs.State.{MayAnswer, State, Written, due, durable, is_refused, writing}
use Rattle.engine.proofs.Payloads.{ok, opened-step, writing_nothing}
use Rattle.engine.specs.Inside.{IsPending, IsTaken, LogAfter, Meanwhile, Seen, Spells, StandsAt, Stepped}
use Rattle.engine.specs.Keeping.{Kept, KeptMeanwhile, LeavesKept}
use Rattle.engine.specs.Opening.{opened}
use Rattle.hms_outside.proofs.Moves.{went_weaker}
use Rattle.hms_outside.specs.Disks.{Went}
use Rattle.ms_journal.specs.Books.{LeavesOpen, OpensTo}
use Rattle.ms_journal.specs.Files.{IsFile}

-- ---- what a crash leaves between two turns

-- a file of the payloads is kept
kept_as_is : (p : Point) (head : List ℕ) (ps : List (List ℕ)) (c : List ℕ) → opened head ps ≡ Ok (durable p.state) → IsFile head ps c → Kept p c
kept_as_is p head ps c opens file = record {
  done = None;
  may = tt;
  opens = record { head = head; payloads = ps; file = file; gives = opens };
}

-- so is one of them and a pending step's
kept_found : (p : Point) (n : ℕ) (l : Pending) (head : List ℕ) (ps : List (List ℕ)) (c : List ℕ) → found n p.pending ≡ Some l → opened head ps ≡ Ok l.state → IsFile head ps c → Kept p c
kept_found p n l head ps c is opens file = record {
  done = Some n;
  may = subst (λ (o : Option Pending). IsSome o) (sym is) refl;
  opens = record { head = head; payloads = ps; file = file; gives = opens ∙ ap (λ (o : Option Pending). ok (state_found p.state o)) (sym is) };
}

kept_open : (p : Point) (head : List ℕ) (ps : List (List ℕ)) (doubt : Option (List ℕ)) (c : List ℕ) → opened head ps ≡ Ok (durable p.state) → IsPending head ps doubt p.pending → OpensTo head ps doubt c → Kept p c
kept_open p head ps None c opens pending file = kept_as_is p head ps c opens file
kept_open p head ps (Some payload) c opens pending (inl file) = kept_as_is p head ps c opens file
kept_open p head ps (Some payload) c opens pending (inr file) = kept_found p pending.0 pending.1 head (ps ++ payload ∷ []) c pending.2 pending.3 file

pub kept_here : (p : Point) (s : State) (v : Seen) (c : List ℕ) → StandsAt p s v → OpensTo v.head v.payloads v.doubt c → Kept p c
kept_here p s v c at file = kept_open p v.head v.payloads v.doubt c (at.opens ∙ ap (λ (t : State). ok (durable t)) (sym at.is_state)) at.doubt file

-- ---- pending steps

found-append : (n : ℕ) (ls : List Pending) (k l : Pending) → found n ls ≡ Some l → found n (ls ++ k ∷ []) ≡ Some l
found-append n [] k l is = absurd (cc)
found-append zero (x ∷ ls) k l is = is
found-append (suc n) (x ∷ ls) k l is = found-append n ls k l is

found-last : (ls : List Pending) (l : Pending) → found (length ls) (ls ++ l ∷ []) ≡ Some l
found-last [] l = refl
found-last (x ∷ ls) l = found-last ls l

-- a step that was pending stays so where another is
pending_later : (head : List ℕ) (ps : List (List ℕ)) (doubt : Option (List ℕ)) (pending : List Pending) (l : Pending) → IsPending head ps doubt pending → IsPending head ps doubt (pending ++ l ∷ [])
pending_later head ps None pending l h = tt
pending_later head ps (Some payload) pending l h = (h.0, h.1, found-append h.0 pending l h.1 h.2, h.3)

-- ---- behind a turn

-- the state and the pending steps, by what the turn writes and whether it is refused
abbrev state_by : Bool → State → State → State
state_by refused old new = cond refused old new

abbrev pending_by : Bool → Bool → Pending → List Pending → List Pending
pending_by writes refused l pending = cond writes (cond refused (pending ++ l ∷ []) []) pending

record After (head : List ℕ) (u : Seen) (s : State) (pending : List Pending) : Type 0 where
  opens : opened head u.payloads ≡ Ok (durable s)
  doubt : IsPending head u.payloads u.doubt pending

same_log : (head : List ℕ) (v u : Seen) (s : State) (pending : List Pending) → u.payloads ≡ v.payloads → u.doubt ≡ v.doubt → opened head v.payloads ≡ Ok (durable s) → IsPending head v.payloads v.doubt pending → After head u s pending
same_log head v u s pending same doubt opens pend = record {
  opens = ap (λ (ps : List (List ℕ)). opened head ps) same ∙ opens;
  doubt = subst (λ (o : Option (List ℕ)). IsPending head u.payloads o pending) (sym doubt) (subst (λ (ps : List (List ℕ)). IsPending head ps v.doubt pending) (sym same) pend);
}

after : (p : Point) (caller : ℕ) (step : Step) (head : List ℕ) (v u : Seen) (o : Option (List ℕ)) (w : Option Written) (refused : Bool) → writing p.state step ≡ w → Spells refused o w → IsTaken p.state o w
    → opened head v.payloads ≡ Ok (durable p.state) → IsPending head v.payloads v.doubt p.pending
    → LogAfter o refused v u
    → After head u (state_by refused p.state (due p.state caller step).state) (pending_by (is_some w) refused (pending_at p.state caller step) p.pending)
after p caller step head v u None None true is spells taken opens pending log = same_log head v u p.state p.pending log.0 log.1 opens pending
after p caller step head v u None None false is spells taken opens pending log =
    same_log head v u (due p.state caller step).state p.pending log.0 log.1 (opens ∙ ap ok (sym (writing_nothing p.state caller step is))) pending
after p caller step head v u None (Some w) true is spells taken opens pending log =
    same_log head v u p.state (p.pending ++ pending_at p.state caller step ∷ []) log.0 log.1 opens (pending_later head v.payloads v.doubt p.pending (pending_at p.state caller step) pending)
after p caller step head v u None (Some w) false is spells taken opens pending log = absurd (cc)
after p caller step head v u (Some payload) None refused is spells taken opens pending log = absurd spells
after p caller step head v u (Some payload) (Some w) false is spells taken opens pending log = record {
  opens = ap (λ (ps : List (List ℕ)). opened head ps) log.0 ∙ opened-step head v.payloads payload w p.state caller step opens spells taken is;
  doubt = subst (λ (o : Option (List ℕ)). IsPending head u.payloads o []) (sym log.1) tt;
}
after p caller step head v u (Some payload) (Some w) true is spells taken opens pending log = record {
  opens = ap (λ (ps : List (List ℕ)). opened head ps) log.0 ∙ opens;
  doubt = subst (λ (ps : List (List ℕ)). IsPending head ps u.doubt (p.pending ++ pending_at p.state caller step ∷ [])) (sym log.0) (by_doubt log.1);
}
  where
    by_doubt : ((u.doubt ≡ None) ⊎ ((u.doubt ≡ v.doubt) ⊎ (u.doubt ≡ Some payload))) → IsPending head v.payloads u.doubt (p.pending ++ pending_at p.state caller step ∷ [])
    by_doubt (inl none) = subst (λ (o : Option (List ℕ)). IsPending head v.payloads o (p.pending ++ pending_at p.state caller step ∷ [])) (sym none) tt
    by_doubt (inr (inl old)) = subst (λ (o : Option (List ℕ)). IsPending head v.payloads o (p.pending ++ pending_at p.state caller step ∷ [])) (sym old) (pending_later head v.payloads v.doubt p.pending (pending_at p.state caller step) pending)
    by_doubt (inr (inr own)) = subst (λ (o : Option (List ℕ)). IsPending head v.payloads o (p.pending ++ pending_at p.state caller step ∷ [])) (sym own) (
      length p.pending,
      pending_at p.state caller step,
      found-last p.pending (pending_at p.state caller step),
      opened-step head v.payloads payload w p.state caller step opens spells taken is,
    )

-- ---- inside a turn

-- what opens to the payloads, or to them and the step's, is kept without the step or with it
within : (p q : Point) (caller : ℕ) (step : Step) (head : List ℕ) (ps : List (List ℕ)) (o : Option (List ℕ)) (w : Option Written) (refused : Bool) (c : List ℕ) → writing p.state step ≡ w → Spells refused o w → IsTaken p.state o w
    → opened head ps ≡ Ok (durable p.state)
    → q.state ≡ state_by refused p.state (due p.state caller step).state
    → q.pending ≡ pending_by (is_some w) refused (pending_at p.state caller step) p.pending
    → OpensTo head ps o c → Kept p c ⊎ Kept q c
within p q caller step head ps None w refused c is spells taken opens state pending file = inl (kept_as_is p head ps c opens file)
within p q caller step head ps (Some payload) None refused c is spells taken opens state pending file = absurd spells
within p q caller step head ps (Some payload) (Some w) refused c is spells taken opens state pending (inl file) = inl (kept_as_is p head ps c opens file)
within p q caller step head ps (Some payload) (Some w) false c is spells taken opens state pending (inr file) =
    inr (kept_as_is q head (ps ++ payload ∷ []) c (opened-step head ps payload w p.state caller step opens spells taken is ∙ ap (λ (x : State). ok (durable x)) (sym state)) file)
within p q caller step head ps (Some payload) (Some w) true c is spells taken opens state pending (inr file) =
    inr (kept_found q (length p.pending) (pending_at p.state caller step) head (ps ++ payload ∷ []) c
    (ap (λ (ls : List Pending). found (length p.pending) ls) pending ∙ found-last p.pending (pending_at p.state caller step))
    (opened-step head ps payload w p.state caller step opens spells taken is) file)

-- ---- one turn

pub record TurnOn (p : Point) (e : Entry) (s : State) (v u : Seen) : Type 0 where
  pub may : MayFollow p (took e)
  pub stands : StandsAt (next p (took e)) s u
  pub went : Went v.past u.past u.lies (LeavesKept (next p (took e))) (KeptMeanwhile p e)

turn_from : (p : Point) (caller : ℕ) (step : Step) (given : Answer) (t : State) (v u : Seen) → StandsAt p p.state v → Stepped p.state caller step given t v u
    → TurnOn p (record { caller = caller; step = step }, record { answer = given; fault = u.faults }) t v u
turn_from p caller step given t v u at h =
    let e : Entry = (record { caller = caller; step = step }, record { answer = given; fault = u.faults }) in
    let a = after p caller step v.head v u h.payload (writing p.state step) (is_refused given) refl h.spells h.taken at.opens at.doubt h.ran.log in
    let stands : StandsAt (next p (took e)) t u = record {
      is_state = sym h.state;
      fault = refl;
      sure = h.ran.went.after;
      opens = ap (λ (x : List ℕ). opened x u.payloads) h.ran.head ∙ a.opens ∙ ap (λ (x : State). ok (durable x)) (sym h.state);
      doubt = subst (λ (x : List ℕ). IsPending x u.payloads u.doubt (pending_after p e)) (sym h.ran.head) a.doubt;
    } in
    record {
      may = (subst (λ (n : ℕ). n ≤ u.faults) (sym at.fault) h.ran.later, subst (λ (n : ℕ). MayAnswer p.state n caller step given u.faults) (sym at.fault) h.may);
      stands = stands;
      went = went_weaker u.lies v.past u.past (LeavesOpen u.head u.payloads u.doubt) (LeavesKept (next p (took e))) (Meanwhile v h.payload) (KeptMeanwhile p e)
          (λ d leaves c image. kept_here (next p (took e)) t u c stands (leaves c image)) (λ c m. meanwhile c m) h.ran.went;
    }
  where
    meanwhile : (c : List ℕ) → Meanwhile v h.payload c → KeptMeanwhile p (record { caller = caller; step = step }, record { answer = given; fault = u.faults }) c
    meanwhile c (inl file) = inl (kept_here p p.state v c at file)
    meanwhile c (inr file) = within p (next p (took (record { caller = caller; step = step }, record { answer = given; fault = u.faults }))) caller step v.head v.payloads h.payload (writing p.state step) (is_refused given) c refl h.spells h.taken at.opens refl refl file

pub turn_on : (p : Point) (s t : State) (caller : ℕ) (step : Step) (given : Answer) (v u : Seen) → StandsAt p s v → Stepped s caller step given t v u
    → TurnOn p (record { caller = caller; step = step }, record { answer = given; fault = u.faults }) t v u
turn_on p s t caller step given v u at h =
    turn_from p caller step given t v u
    (subst (λ (x : State). StandsAt p x v) (sym at.is_state) at)
    (subst (λ (x : State). Stepped x caller step given t v u) (sym at.is_state) h)
