-- How connections that are served go together.
use Rattle.std.proofs.Common.{Bool, ◌≡◌, ℕ, ◌+◌, ◌<◌, ◌≤◌, List, [], ◌∷◌, ◌++◌, refl, sym, ◌∙◌, ap, subst, arith}
use Rattle.std.specs.Prelude.{Option, None, Some, IfSome}
use Rattle.std.specs.List.{flat_map}
use Rattle.std.proofs.lemmas.Grind.{flat_map-append}
use Rattle.std.proofs.lemmas.List.{length-append, append-nil}
use mathlib.Core.Logic.{inr}
use Rattle.desk.specs.History.{Entry}
use Rattle.desk.specs.Adds.{Adds}
use Rattle.desk.proofs.Additions.{adds_as, adds_both}
use Rattle.hms_listeners.specs.Listening.{Appended, HandsOut, HoldsNothing, as_returned}
use Rattle.hms_outside.specs.Told.{Goes}
use Rattle.hms_outside.specs.Causes.{Rose}
use Rattle.hms_outside.specs.declared.outage.Outage.{Outage}
use Rattle.hms_outside.specs.declared.outage.Outage.TheVariants.{Failed}
use Rattle.ms_server.specs.Visits.{Around, Visit, IsVisit, Chain, Refused, ServedSome, StoppedBefore, Worked}
use Rattle.ms_session.specs.Session.{Met, Session}
use Rattle.ms_session.specs.declared.end.End.{End}
use Rattle.ms_session.specs.declared.end.End.TheVariants.{ReadFault, WriteFault}

-- a session between a listener's two calls is a visit
pub visited : (old new : Around) (before after : Met) (xs : List Entry) (ended : End) (source_faults sink_faults : ℕ)
    → HandsOut old.inputs new.inputs before.left → HoldsNothing before.held → before.clock ≡ old.clock → before.shelf ≡ old.shelf
    → Goes (Appended (as_returned after.held source_faults sink_faults)) old.returned new.returned
    → new.clock ≡ after.clock → new.shelf ≡ after.shelf → new.faults ≡ old.faults
    → (ended ≡ ReadFault → 0 < source_faults) → (ended ≡ WriteFault → 0 < sink_faults)
    → Session before after xs ended → (v : Visit) × IsVisit v old × (v.behind ≡ new) × (xs ≡ v.entries)
visited old new before after xs ended source_faults sink_faults input empty clock shelf back clock_behind shelf_behind faults read write session =
    let v : Visit = record { before = before; after = after; entries = xs; ended = ended; source_faults = source_faults; sink_faults = sink_faults; behind = new } in
    let is : IsVisit v old = record { input = input; empty = empty; clock = clock; shelf = shelf; session = session; back = back; clock_behind = clock_behind; shelf_behind = shelf_behind; faults = faults; read = read; write = write } in
    (v, is, refl, refl)

chain_more : (vs : List Visit) (v : Visit) (old mid : Around) → Chain vs old mid → IsVisit v mid → Chain (vs ++ v ∷ []) old v.behind
chain_more [] v old mid chain one = (subst (IsVisit v) chain one, refl)
chain_more (w ∷ vs) v old mid chain one = (chain.0, chain_more vs v w.behind mid chain.1 one)

-- no connection was served so far
pub served_none : (at : Around) → ServedSome 0 at at []
served_none at = record { visits = []; counted = refl; chain = refl; own = refl }

-- one connection more
pub served_more : (count : ℕ) (old mid new : Around) (xs ys : List Entry) → ServedSome count old mid xs → (v : Visit) × IsVisit v mid × (v.behind ≡ new) × (ys ≡ v.entries) → ServedSome (count + 1) old new (xs ++ ys)
served_more count old mid new xs ys s one =
    let v : Visit = one.0 in
    record {
      visits = s.visits ++ v ∷ [];
      counted = length-append s.visits (v ∷ []) ∙ ap (λ (n : ℕ). n + 1) s.counted;
      chain = subst (Chain (s.visits ++ v ∷ []) old) one.2 (chain_more s.visits v old mid s.chain one.1);
      own = ap (λ (l : List Entry). l ++ ys) s.own ∙ ap (λ (l : List Entry). flat_map (λ (w : Visit). w.entries) s.visits ++ l) (one.3 ∙ sym (append-nil v.entries)) ∙ sym (flat_map-append (λ (w : Visit). w.entries) s.visits (v ∷ []));
    }

chain_faults : (vs : List Visit) (old new : Around) → Chain vs old new → new.faults ≡ old.faults
chain_faults [] old new chain = ap (λ (a : Around). a.faults) chain
chain_faults (v ∷ vs) old new chain = chain_faults vs v.behind new chain.1 ∙ chain.0.faults

-- connections that were served leave the listener's count of faults
pub same_faults : (count : ℕ) (old new : Around) (xs : List Entry) → ServedSome count old new xs → new.faults ≡ old.faults
same_faults count old new xs s = chain_faults s.visits old new s.chain

-- one connection more, at a desk
pub run_more : (alone : Bool) (me you count : ℕ) (es fs gs : List Entry) (old mid new : Around) → you ≡ me
    → Adds alone me es fs (ServedSome count old mid)
    → Adds alone you fs gs (λ (ys : List Entry). (v : Visit) × IsVisit v mid × (v.behind ≡ new) × (ys ≡ v.entries))
    → Adds alone me es gs (ServedSome (count + 1) old new)
run_more alone me you count es fs gs old mid new same a b = adds_both alone me es fs gs _ _ _ a (adds_as alone you me fs gs _ same b) (λ xs ys s one. served_more count old mid new xs ys s one)

stopped : (limit count : ℕ) (fault : Outage) (old mid new : Around) (xs ys : List Entry) → count < limit → ServedSome count old mid xs → Refused fault mid new × (ys ≡ []) → StoppedBefore limit fault old new (xs ++ ys)
stopped limit count fault old mid new xs ys lt s r = record {
  count = count;
  last = mid;
  few = lt;
  served = subst (ServedSome count old mid) (sym (append-nil xs) ∙ ap (λ (l : List Entry). xs ++ l) (sym r.1)) s;
  refused = r.0;
}

-- no further connection, at a desk
pub run_ends : (alone : Bool) (me you limit count : ℕ) (fault : Outage) (es fs gs : List Entry) (old mid new : Around) → you ≡ me → count < limit
    → Adds alone me es fs (ServedSome count old mid)
    → Adds alone you fs gs (λ (ys : List Entry). Refused fault mid new × (ys ≡ []))
    → Adds alone me es gs (StoppedBefore limit fault old new)
run_ends alone me you limit count fault es fs gs old mid new same lt a b = adds_both alone me es fs gs _ _ _ a (adds_as alone you me fs gs _ same b) (λ xs ys s r. stopped limit count fault old mid new xs ys lt s r)

another_count : (sessions : Option ℕ) (limit count : ℕ) → IfSome sessions (λ (k : ℕ). limit ≡ k) → count < limit → sessions ≡ Some count → ⊥
another_count None limit count is lt same = absurd cc
another_count (Some k) limit count is lt same =
    let there : k ≡ count = ap (λ (o : Option ℕ). given o) same in
    omega (arith, is, lt, there)
  where
    given : Option ℕ → ℕ
    given None = 0
    given (Some n) = n

within : (sessions : Option ℕ) (limit count : ℕ) → IfSome sessions (λ (k : ℕ). limit ≡ k) → count < limit → IfSome sessions (λ (k : ℕ). count ≤ k)
within None limit count is lt = tt
within (Some k) limit count is lt = omega (arith, is, lt)

never : (n : ℕ) → n ≡ 12 → n ≡ 0 → ⊥
never n is none = omega (arith, is, none)

-- a worker whose listener failed
pub failed : (sessions : Option ℕ) (limit : ℕ) (fault : Outage) (old new : Around) (xs : List Entry) → IfSome sessions (λ (k : ℕ). limit ≡ k) → fault ≡ Failed → StoppedBefore limit fault old new xs → Worked sessions old new 12 xs
failed sessions limit fault old new xs is cause s = record {
  count = s.count;
  last = s.last;
  served = s.served;
  done = (λ none. absurd (never 12 refl none), λ same. absurd (another_count sessions limit s.count is s.few same));
  few = within sessions limit s.count is s.few;
  kind = inr (inr refl);
  fault = λ _. subst (λ (n : ℕ). Rose n new.faults) (same_faults s.count old s.last xs s.served) (s.refused.cause cause);
  inputs = s.refused.inputs;
  returned = s.refused.returned;
  clock = s.refused.clock;
  shelf = s.refused.shelf;
}
