-- One turn of a shared store, and whose entries are whose.
use Rattle.std.proofs.Common.{◌≡◌, ℕ, ◌+◌, ◌%◌, length, Bool, true, false, List, [], ◌∷◌, ◌++◌, refl, sym, ◌∙◌, ap, subst, arith}
use Rattle.std.specs.Prelude.{cond, ◌==◌, ◌^◌, slice_index_or}
use Rattle.std.proofs.lemmas.Bool.Decides.{nat_tests}
use Rattle.std.proofs.lemmas.List.{append_cancel_left, length-append}
use Rattle.std.proofs.Math.Nat.{mod-add-mod}
use Rattle.desk.specs.Adds.{own}
use Rattle.desk.specs.Entries.{Others}
use Rattle.desk.specs.History.{Entry, NoneAbove}
use Rattle.cat_types.specs.declared.steps.Answer.{Answer}
use Rattle.cat_types.specs.declared.steps.Step.{Step}
use Rattle.turn_lock.specs.Histories as lock
use Rattle.ms_server.specs.Turns.{TakesTurn, by_caller, entry, last_fault}

-- the lock's word for the entries of a caller is the desk's
pub own_same : (me : ℕ) (es : List Entry) → lock.own by_caller me es ≡ own me es
own_same me [] = refl
own_same me (e ∷ es) = ap (λ (l : List Entry). cond (e.0.caller == me) (e ∷ l) l) (own_same me es)

-- where none are the caller's own, all are others'
pub others_of : (me : ℕ) (es : List Entry) → own me es ≡ [] → Others me es
others_of me [] none = tt
others_of me (e ∷ es) none = by_test (e.0.caller == me) refl (others_of me es) none
  where
    by_test : (b : Bool) → (e.0.caller == me) ≡ b → (own me es ≡ [] → Others me es) → cond b (e ∷ own me es) (own me es) ≡ [] → (e.0.caller ≡ me → ⊥) × Others me es
    by_test true is later none = grind (arith, none)
    by_test false is later none = ((λ same. grind (arith, nat_tests, is, same)), later none)

-- the last of two equal lists
pub same_last : (xs : List Entry) (d e : Entry) → xs ++ d ∷ [] ≡ xs ++ e ∷ [] → d ≡ e
same_last xs d e is = ap (λ (l : List Entry). slice_index_or l 0 d) (append_cancel_left xs (d ∷ []) (e ∷ []) is)

pub turned : (me caller : ℕ) (s : Step) (answer : Answer) (fault : ℕ) (seen mid rest new mine mine' : List Entry) (e : Entry)
    → mid ≡ seen ++ rest → lock.own by_caller me rest ≡ [] → caller ≡ me
    → new ≡ mid ++ entry caller s answer fault ∷ [] → new ≡ mid ++ e ∷ [] → mine' ≡ mine ++ e ∷ []
    → NoneAbove fault new → TakesTurn me s answer seen mine new mine'
turned me caller s answer fault seen mid rest new mine mine' e begins none is new_is last mine_is counted = record {
  between = rest;
  fault = fault;
  others = others_of me rest (sym (own_same me rest) ∙ none);
  seen_is = new_is ∙ ap (λ (l : List Entry). l ++ entry caller s answer fault ∷ []) begins ∙ ap (λ (n : ℕ). (seen ++ rest) ++ entry n s answer fault ∷ []) is;
  mine_is = mine_is ∙ ap (λ (d : Entry). mine ++ d ∷ []) (same_last mid e (entry caller s answer fault) (sym last ∙ new_is)) ∙ ap (λ (n : ℕ). mine ++ entry n s answer fault ∷ []) is;
  counted = counted;
}

-- the last entry has the fault number with which the history ends
ends_with : (n : ℕ) (es : List Entry) (e : Entry) → last_fault n (es ++ e ∷ []) ≡ e.1.fault
ends_with n [] e = refl
ends_with n (x ∷ es) e = ends_with x.1.fault es e

its_fault : (me : ℕ) (s : Step) (answer : Answer) (before : ℕ) (seen mine new mine' : List Entry) (t : TakesTurn me s answer seen mine new mine') → last_fault before new ≡ t.fault
its_fault me s answer before seen mine new mine' t = ap (last_fault before) t.seen_is ∙ ends_with before (seen ++ t.between) (entry me s answer t.fault)

-- a turn as a desk tells it, whose fault number is the history's
pub desk_turn : (me : ℕ) (s : Step) (answer : Answer) (before : ℕ) (seen mine new mine' : List Entry) → TakesTurn me s answer seen mine new mine'
    → (between : List Entry) × Others me between × (new ≡ (seen ++ between) ++ entry me s answer (last_fault before new) ∷ [])
desk_turn me s answer before seen mine new mine' t =
    (t.between, t.others, t.seen_is ∙ ap (λ (n : ℕ). (seen ++ t.between) ++ entry me s answer n ∷ []) (sym (its_fault me s answer before seen mine new mine' t)))

-- no fault number that was seen is above the last one
pub desk_counted : (me : ℕ) (s : Step) (answer : Answer) (before : ℕ) (seen mine new mine' : List Entry) → TakesTurn me s answer seen mine new mine' → NoneAbove (last_fault before new) new
desk_counted me s answer before seen mine new mine' t = subst (λ (n : ℕ). NoneAbove n new) (sym (its_fault me s answer before seen mine new mine' t)) t.counted

-- one call more was counted
pub counts_on : (me : ℕ) (s : Step) (answer : Answer) (seen mine new mine' : List Entry) (done : ℕ) → TakesTurn me s answer seen mine new mine'
    → done ≡ length mine % 2 ^ 64 → (done + 1) % 2 ^ 64 ≡ length mine' % 2 ^ 64
counts_on me s answer seen mine new mine' done t is =
    let more : length mine' ≡ length mine + 1 = ap (λ (l : List Entry). length l) t.mine_is ∙ length-append mine (entry me s answer t.fault ∷ []) in
    ap (λ (n : ℕ). (n + 1) % 2 ^ 64) is ∙ mod-add-mod (length mine) (2 ^ 64) 1 ∙ ap (λ (n : ℕ). n % 2 ^ 64) (sym more)
