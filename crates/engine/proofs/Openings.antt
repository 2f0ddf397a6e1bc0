-- What an engine keeps at its opening.
use Rattle.std.proofs.Common.{◌≡◌, ℕ, ◌<◌, ◌^◌, List, [], ◌∷◌, ◌++◌, length, take, drop, Ok, refl, sym, ◌∙◌, ap, subst, arith, append_assoc, length-append}
use Rattle.std.specs.Int.{w64, to_be_bytes, from_be_bytes}
use Rattle.std.specs.Prelude.{Option, None, IfSome}
use Rattle.std.proofs.lemmas.List.{drop_at, take_at}
use Rattle.std.proofs.lemmas.Nat.{from_be_bytes-to_be_bytes_8}
use Rattle.desk.specs.State.{State, start}
use Rattle.desk.specs.History.{point_of}
use Rattle.engine.proofs.Payloads.{ok, opened_durable}
use Rattle.engine.proofs.Running.{kept_now}
use Rattle.engine.specs.Inside.{IsPending, IsSure, Runs, Seen, point_in, start_of}
use Rattle.engine.specs.Keeping.{LeavesKept, LeavesState}
use Rattle.engine.specs.Opening.{id_in, opened}
use Rattle.engine.specs.declared.turned.Turned.{Turned}
use Rattle.hms_outside.proofs.Moves.{after_weaker}
use Rattle.hms_outside.specs.Disks.{Lies}
use Rattle.ms_journal.specs.Books.{LeavesOpen, OpensTo}
use Rattle.ms_journal.specs.Files.{base_in, head_of, magic}

-- a store that was just opened is a run without turns
pub run_opened : {J : Type 0} (seen : J → Seen) (t : State) (j : J) (o : List (State × J)) (ts : List (Turned × J)) → IsSure (seen j) → (seen j).doubt ≡ None → opened (seen j).head (seen j).payloads ≡ Ok t → o ≡ (t, j) ∷ [] → ts ≡ [] → Runs seen t j o ts
run_opened {J} seen t j o ts sure settled opens first none =
    subst (λ (x : List (State × J)). Runs seen t j x ts) (sym first) (subst (λ (x : List (Turned × J)). Runs seen t j ((t, j) ∷ []) x) (sym none) (record {
      legal = tt;
      none = tt;
      stands = record {
        is_state = refl;
        fault = refl;
        sure = sure;
        opens = opens ∙ ap (λ (x : State). ok x) (sym (opened_durable (seen j).head (seen j).payloads t opens));
        doubt = subst (λ (d : Option (List ℕ)). IsPending (seen j).head (seen j).payloads d []) (sym settled) tt;
      };
      along = refl;
    }))

-- and a crash leaves what is kept where its history begins
pub kept_first : {J : Type 0} (seen : J → Seen) (t : State) (j : J) (o : List (State × J)) (ts : List (Turned × J)) → Runs seen t j o ts → ts ≡ [] → IfSome (seen j).lies (LeavesKept (point_of (start_of seen o)))
kept_first {J} seen t j o ts h none = subst (λ (l : List (Turned × J)). IfSome (seen j).lies (LeavesKept (point_in seen o l))) none (kept_now (point_in seen o ts) t (seen j) h.stands)

pub first_of : {A : Type 0} (xs ys : List A) (x : A) → xs ≡ [] → ys ≡ xs ++ x ∷ [] → ys ≡ x ∷ []
first_of {A} xs ys x none is = is ∙ ap (λ (l : List A). l ++ x ∷ []) none

-- the head of a new store tells its id and its base
id_of_head : (id : List ℕ) (base : ℕ) → length id ≡ 16 → id_in (head_of id base) ≡ id
id_of_head id base size = take_at id (to_be_bytes w64 1 ++ to_be_bytes w64 base) 16 size

base_of_head : (id : List ℕ) (base : ℕ) → length id ≡ 16 → base < 2 ^ 63 → base_in (head_of id base) ≡ base
base_of_head id base size lt =
    let front = magic ++ (id ++ to_be_bytes w64 1) in
    let long : length front ≡ 32 = omega (arith, length-append id (to_be_bytes w64 1)) in
    let split : head_of id base ≡ front ++ to_be_bytes w64 base =
    ap (λ (l : List ℕ). magic ++ l) (sym (append_assoc id (to_be_bytes w64 1) (to_be_bytes w64 base))) in
    ap (from_be_bytes w64) (ap (λ (l : List ℕ). take 8 (drop 32 l)) split ∙ ap (take 8) (drop_at front (to_be_bytes w64 base) 32 long))
    ∙ from_be_bytes-to_be_bytes_8 base (omega arith)

-- a journal that was just made opens to a new store
pub made_opens : (head id : List ℕ) (base : ℕ) (ps : List (List ℕ)) (s : State) → length id ≡ 16 → base < 2 ^ 63 → head ≡ head_of id base → ps ≡ [] → s ≡ start id base → opened head ps ≡ Ok s
made_opens head id base ps s size lt is none same =
    ap (λ (l : List (List ℕ)). opened head l) none
    ∙ ap (λ (h : List ℕ). opened h []) is
    ∙ ap (λ (i : List ℕ). ok (start i (base_in (head_of id base)))) (id_of_head id base size)
    ∙ ap (λ (n : ℕ). ok (start id n)) (base_of_head id base size lt)
    ∙ ap (λ (x : State). ok x) (sym same)

-- and a crash leaves what opens to it
pub made_leaves : (o : Option Lies) (head id : List ℕ) (base : ℕ) (ps : List (List ℕ)) (doubt : Option (List ℕ)) → length id ≡ 16 → base < 2 ^ 63 → head ≡ head_of id base → ps ≡ [] → doubt ≡ None → IfSome o (LeavesOpen head ps doubt) → IfSome o (LeavesState (start id base))
made_leaves o head id base ps doubt size lt is none settled sure =
    after_weaker o (LeavesOpen head ps doubt) (LeavesState (start id base))
    (λ d leaves c image. record { head = head; payloads = ps; file = subst (λ (q : Option (List ℕ)). OpensTo head ps q c) settled (leaves c image); gives = made_opens head id base ps (start id base) size lt is none refl }) sure
