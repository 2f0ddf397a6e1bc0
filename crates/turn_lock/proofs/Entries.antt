-- The entries of one caller, when a list grows.
use Rattle.std.proofs.Common.{◌≡◌, ◌≢◌, ℕ, ◌+◌, Bool, true, false, List, [], ◌∷◌, ◌++◌, length, refl, sym, ◌∙◌, ap, arith, append_assoc, eq-eqb}
use Rattle.std.specs.Prelude.{cond, ◌==◌}
use Rattle.std.proofs.lemmas.Bool.Decides.{nat_tests}
use Rattle.std.proofs.lemmas.List.{append-nil, append_cancel_left}
use Rattle.turn_lock.specs.Histories.{own, Fits}
use Rattle.turn_lock.specs.Lock.{Told}
use Rattle.turn_lock.specs.declared.view.Past.{Past}

module _ {E : Type 0} where
  pub length_more : (log : List E) (e : E) → length (log ++ e ∷ []) ≡ length log + 1
  length_more [] e = refl
  length_more (x ∷ xs) e = let h = length_more xs e in omega (arith, h)

module _ {E : Type 0} (by : E → ℕ) where
  pub own-append : (me : ℕ) (xs ys : List E) → own by me (xs ++ ys) ≡ own by me xs ++ own by me ys
  own-append me [] ys = refl
  own-append me (x ∷ xs) ys = by_test (by x == me) (own-append me xs ys)
    where
      by_test : (b : Bool) → own by me (xs ++ ys) ≡ own by me xs ++ own by me ys → cond b (x ∷ own by me (xs ++ ys)) (own by me (xs ++ ys)) ≡ cond b (x ∷ own by me xs) (own by me xs) ++ own by me ys
      by_test true later = ap (λ (l : List E). x ∷ l) later
      by_test false later = later

  pub other_mine : (caller : ℕ) (log : List E) (e : E) → by e ≢ caller → own by caller (log ++ e ∷ []) ≡ own by caller log
  other_mine caller log e not =
      let no : (by e == caller) ≡ false = grind (arith, nat_tests, not) in
      own-append caller log (e ∷ []) ∙ ap (λ (b : Bool). own by caller log ++ cond b (e ∷ []) []) no ∙ append-nil (own by caller log)

  pub one_mine : (caller : ℕ) (log : List E) (e : E) → by e ≡ caller → own by caller (log ++ e ∷ []) ≡ own by caller log ++ e ∷ []
  one_mine caller log e is = own-append caller log (e ∷ []) ∙ ap (λ (b : Bool). own by caller log ++ cond b (e ∷ []) []) (eq-eqb (by e) caller is)

  -- one more entry of another caller
  pub told_other : (log : List E) (splits : ℕ) (p : Past E) (e : E) → Told by log splits p → by e ≢ p.caller → Told by (log ++ e ∷ []) splits p
  told_other log splits p e f not = record {
    fits = record {
      begins = (f.fits.begins.0 ++ e ∷ [], ap (λ (l : List E). l ++ e ∷ []) f.fits.begins.1 ∙ append_assoc p.seen f.fits.begins.0 (e ∷ []));
      calls = other_mine p.caller log e not ∙ f.fits.calls;
      calls_seen = f.fits.calls_seen;
    };
    known = f.known;
  }

  -- what stands in the history behind the part that a pass has seen is of others
  pub others_behind : (log : List E) (p : Past E) (f : Fits by log p) → own by p.caller f.begins.0 ≡ []
  others_behind log p f =
      append_cancel_left (own by p.caller p.seen) (own by p.caller f.begins.0) []
      (sym (own-append p.caller p.seen f.begins.0) ∙ ap (own by p.caller) (sym f.begins.1) ∙ f.calls ∙ sym f.calls_seen ∙ sym (append-nil (own by p.caller p.seen)))
