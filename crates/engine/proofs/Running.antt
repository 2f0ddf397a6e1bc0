-- How a run goes on.
use Rattle.std.proofs.Common.{◌≡◌, ◌≤◌, ℕ, List, [], ◌∷◌, ◌++◌, map, refl, sym, ◌∙◌, ap, subst, append_assoc, arith}
use Rattle.std.specs.Prelude.{Bool, true, false, Option, None, Some, IfSome}
use Rattle.std.proofs.lemmas.List.{append-nil}
use Rattle.cat_types.specs.declared.steps.Answer.{Answer}
use Rattle.cat_types.specs.declared.steps.Step.{Step}
use Rattle.desk.proofs.Histories.{IsLegal-append, point_after-append}
use Rattle.desk.specs.History.{Entry, IsLegal, NoneAbove, Point, Transition, next, point_after, point_of, took}
use Rattle.desk.specs.State.{MayBe, State, Untaken, by_fault, for_memory, is_refused, untaken}
use Rattle.desk.specs.declared.entries.CallerStep.{CallerStep}
use Rattle.engine.proofs.Standing.{turn_on, kept_here}
use Rattle.engine.specs.Inside.{KeptAlong, LogAfter, Runs, Seen, StandsAt, Stepped, entries_of, entry_of, point_in, start_of, with_other}
use Rattle.engine.specs.Keeping.{KeptInTurn, KeptMeanwhile, KeptSince, LeavesKept, Kept}
use Rattle.engine.specs.Stores.{fault_number}
use Rattle.engine.specs.declared.turned.Turned.{Turned}
use Rattle.hms_outside.proofs.Moves.{after_weaker}
use Rattle.hms_outside.specs.Causes.{Rose}
use Rattle.hms_outside.specs.Disks.{Lies, Went}
use Rattle.ms_journal.specs.Books.{LeavesOpen, OpensTo}

-- ---- the fault number of two disks

later_of_two : (a b c : ℕ) → a ≤ c → fault_number a b ≤ fault_number c b
later_of_two a b c le = omega (arith, le)

rose_of_two : (a b c : ℕ) → a ≤ c → Rose a c → Rose (fault_number a b) (fault_number c b)
rose_of_two a b c le rose = omega (arith, le, rose)

may_of_two : (s : State) (a b c caller : ℕ) (step : Step) (given : Answer) (o : Option Untaken) → a ≤ c → MayBe s a caller step given o c → MayBe s (fault_number a b) caller step given o (fault_number c b)
may_of_two s a b c caller step given None le may = may
may_of_two s a b c caller step given (Some by_fault) le may = (may.0, rose_of_two a b c le may.1)
may_of_two s a b c caller step given (Some for_memory) le may = may

log_of_two : (other : ℕ) (v u : Seen) (o : Option (List ℕ)) (refused : Bool) → LogAfter o refused v u → LogAfter o refused (with_other other v) (with_other other u)
log_of_two other v u None refused h = h
log_of_two other v u (Some payload) true h = h
log_of_two other v u (Some payload) false h = h

stepped_of_two : (other : ℕ) (s : State) (caller : ℕ) (step : Step) (given : Answer) (t : State) (v u : Seen) → Stepped s caller step given t v u → Stepped s caller step given t (with_other other v) (with_other other u)
stepped_of_two other s caller step given t v u h = record {
  state = h.state;
  may = may_of_two s v.faults other u.faults caller step given (untaken given) h.ran.later h.may;
  payload = h.payload;
  spells = h.spells;
  taken = h.taken;
  ran = record { head = h.ran.head; log = log_of_two other v u h.payload (is_refused given) h.ran.log; went = h.ran.went; later = later_of_two v.faults other u.faults h.ran.later };
}

-- ---- histories

took-append : (es fs : List Entry) → map took (es ++ fs) ≡ map took es ++ map took fs
took-append [] fs = refl
took-append (e ∷ es) fs = ap (λ (l : List Transition). took e ∷ l) (took-append es fs)

none_on : (a b : ℕ) (es : List Entry) (e : Entry) → NoneAbove a es → a ≤ b → e.1.fault ≤ b → NoneAbove b (es ++ e ∷ [])
none_on a b [] e none le one = (one, tt)
none_on a b (x ∷ es) e none le one = (omega (arith, none.0, le), none_on a b es e none.1 le one)

entries-push : {J : Type 0} (seen : J → Seen) (ts : List (Turned × J)) (t : Turned × J) → entries_of seen (ts ++ t ∷ []) ≡ entries_of seen ts ++ entry_of seen t ∷ []
entries-push seen [] t = refl
entries-push seen (x ∷ ts) t = ap (λ (l : List Entry). entry_of seen x ∷ l) (entries-push seen ts t)

took-push : {J : Type 0} (seen : J → Seen) (ts : List (Turned × J)) (t : Turned × J) → map took (entries_of seen (ts ++ t ∷ [])) ≡ map took (entries_of seen ts) ++ took (entry_of seen t) ∷ []
took-push seen ts t = ap (λ (l : List Entry). map took l) (entries-push seen ts t) ∙ took-append (entries_of seen ts) (entry_of seen t ∷ [])

point-push : {J : Type 0} (seen : J → Seen) (o : List (State × J)) (ts : List (Turned × J)) (t : Turned × J) → point_in seen o (ts ++ t ∷ []) ≡ next (point_in seen o ts) (took (entry_of seen t))
point-push seen o ts t =
    ap (λ (l : List Transition). point_after (point_of (start_of seen o)) l) (took-push seen ts t)
    ∙ point_after-append (point_of (start_of seen o)) (map took (entries_of seen ts)) (took (entry_of seen t) ∷ [])

along-push : {J : Type 0} (seen : J → Seen) (p : Point) (before mid : List Lies) (ts : List (Turned × J)) (t : Turned × J) → KeptAlong seen p before ts mid
    → Went mid (seen t.1).past (seen t.1).lies (LeavesKept (next (point_after p (map took (entries_of seen ts))) (took (entry_of seen t)))) (KeptMeanwhile (point_after p (map took (entries_of seen ts))) (entry_of seen t))
    → KeptAlong seen p before (ts ++ t ∷ []) (seen t.1).past
along-push seen p before mid [] t h last = (subst (λ (l : List Lies). Went l (seen t.1).past (seen t.1).lies (LeavesKept (next p (took (entry_of seen t)))) (KeptMeanwhile p (entry_of seen t))) h last, refl)
along-push seen p before mid (x ∷ ts) t h last = (h.0, along-push seen (next p (took (entry_of seen x))) (seen x.1).past mid ts t h.1 last)

-- ---- one turn more

pub record RunOn {J : Type 0} (seen : J → Seen) (t : State) (j k : J) (o : List (State × J)) (ts us : List (Turned × J)) (e : Entry) : Type 0 where
  pub run : Runs seen t k o us
  pub entry : entries_of seen us ≡ entries_of seen ts ++ e ∷ []
  pub went : Went (seen j).past (seen k).past (seen k).lies (LeavesKept (point_in seen o us)) (KeptMeanwhile (point_in seen o ts) e)

abbrev turned : CallerStep → Answer → Turned
turned asked given = record { asked = asked; answer = given }

run_push : {J : Type 0} (seen : J → Seen) (s t : State) (j k : J) (o : List (State × J)) (ts : List (Turned × J)) (asked : CallerStep) (given : Answer)
    → Runs seen s j o ts → Stepped s asked.caller asked.step given t (seen j) (seen k)
    → RunOn seen t j k o ts (ts ++ (turned asked given, k) ∷ []) (asked, record { answer = given; fault = (seen k).faults })
run_push seen s t j k o ts asked given h step =
    let p : Point = point_in seen o ts in
    let one = turn_on p s t asked.caller asked.step given (seen j) (seen k) h.stands step in
    let stands : StandsAt (point_in seen o (ts ++ (turned asked given, k) ∷ [])) t (seen k) = subst (λ (q : Point). StandsAt q t (seen k)) (sym (point-push seen o ts (turned asked given, k))) one.stands in
    record {
      run = record {
        legal = subst (IsLegal (point_of (start_of seen o))) (sym (took-push seen ts (turned asked given, k)))
            (IsLegal-append (point_of (start_of seen o)) (map took (entries_of seen ts)) (took (asked, record { answer = given; fault = (seen k).faults }) ∷ []) h.legal (one.may, tt));
        none = subst (NoneAbove (seen k).faults) (sym (entries-push seen ts (turned asked given, k)))
            (none_on (seen j).faults (seen k).faults (entries_of seen ts) (asked, record { answer = given; fault = (seen k).faults }) h.none step.ran.later (omega arith));
        stands = stands;
        along = along-push seen (point_of (start_of seen o)) (start_of seen o).past (seen j).past ts (turned asked given, k) h.along one.went;
      };
      entry = entries-push seen ts (turned asked given, k);
      went = subst (λ (q : Point). Went (seen j).past (seen k).past (seen k).lies (LeavesKept q) (KeptMeanwhile p (asked, record { answer = given; fault = (seen k).faults }))) (sym (point-push seen o ts (turned asked given, k))) one.went;
    }

-- the same by the log's clause, over two disks
pub run_on : {J : Type 0} (look : J → Seen) (other : ℕ) (s t : State) (j k : J) (o : List (State × J)) (ts us : List (Turned × J)) (asked : CallerStep) (given : Answer)
    → Runs (λ x. with_other other (look x)) s j o ts → Stepped s asked.caller asked.step given t (look j) (look k) → us ≡ ts ++ (turned asked given, k) ∷ []
    → RunOn (λ x. with_other other (look x)) t j k o ts us (asked, record { answer = given; fault = fault_number (look k).faults other })
run_on {J} look other s t j k o ts us asked given h step is =
    subst (λ (l : List (Turned × J)). RunOn (λ x. with_other other (look x)) t j k o ts l (asked, record { answer = given; fault = fault_number (look k).faults other })) (sym is)
    (run_push (λ x. with_other other (look x)) s t j k o ts asked given h (stepped_of_two other s asked.caller asked.step given t (look j) (look k) step))

-- ---- all turns

-- turn by turn, and so moment by moment
pub record InTurn (p : Point) (es : List Entry) (before after : List Lies) : Type 0 where
  pub more : List Lies
  pub time : after ≡ before ++ more
  pub in_turn : KeptInTurn p es more

along_in_turn : {J : Type 0} (seen : J → Seen) (p : Point) (before after : List Lies) (ts : List (Turned × J)) → KeptAlong seen p before ts after → InTurn p (entries_of seen ts) before after
along_in_turn seen p before after [] h = record { more = []; time = h ∙ sym (append-nil before); in_turn = refl }
along_in_turn seen p before after (t ∷ ts) h =
    let rest = along_in_turn seen (next p (took (entry_of seen t))) (seen t.1).past after ts h.1 in
    record {
      more = h.0.more ++ rest.more;
      time = rest.time ∙ ap (λ (l : List Lies). l ++ rest.more) h.0.time ∙ append_assoc before h.0.more rest.more;
      in_turn = (h.0.more, rest.more, refl, h.0.moments, rest.in_turn);
    }

pub kept_now : (p : Point) (s : State) (v : Seen) → StandsAt p s v → IfSome v.lies (LeavesKept p)
kept_now p s v at = after_weaker v.lies (LeavesOpen v.head v.payloads v.doubt) (LeavesKept p) (λ d leaves c image. kept_here p s v c at (leaves c image)) at.sure

-- so is what a read gives
pub held_now : (p : Point) (s : State) (v : Seen) → StandsAt p s v → IfSome v.lies (λ d. OpensTo v.head v.payloads v.doubt d.held) → IfSome v.lies (λ d. Kept p d.held)
held_now p s v at opens = after_weaker v.lies (λ d. OpensTo v.head v.payloads v.doubt d.held) (λ d. Kept p d.held) (λ d open_now. kept_here p s v d.held at open_now) opens

pub kept_since : {J : Type 0} (seen : J → Seen) (s : State) (j : J) (o : List (State × J)) (ts : List (Turned × J)) → Runs seen s j o ts
    → KeptSince (point_of (start_of seen o)) (entries_of seen ts) (start_of seen o).past (seen j).past (seen j).lies
kept_since seen s j o ts h =
    let all = along_in_turn seen (point_of (start_of seen o)) (start_of seen o).past (seen j).past ts h.along in
    record { more = all.more; time = all.time; in_turn = all.in_turn; after = kept_now (point_in seen o ts) s (seen j) h.stands }
