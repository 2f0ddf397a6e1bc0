-- How the entries that runs add go together.
use Rattle.std.proofs.Common.{◌≡◌, ℕ, Bool, true, false, IsTrue, List, [], ◌∷◌, ◌++◌, refl, sym, ◌∙◌, ap, subst, append_assoc, eq-eqb, arith}
use Rattle.std.specs.Prelude.{cond, ◌==◌}
use Rattle.std.proofs.lemmas.List.{append-nil}
use Rattle.std.proofs.lemmas.Bool.Decides.{nat_tests}
use Rattle.desk.specs.Adds.{Adds, own}
use Rattle.desk.specs.Entries.{Others}
use Rattle.desk.specs.History.{Entry}

pub own-append : (me : ℕ) (xs ys : List Entry) → own me (xs ++ ys) ≡ own me xs ++ own me ys
own-append me [] ys = refl
own-append me (x ∷ xs) ys = by_test (x.0.caller == me) (own-append me xs ys)
  where
    by_test : (b : Bool) → own me (xs ++ ys) ≡ own me xs ++ own me ys → cond b (x ∷ own me (xs ++ ys)) (own me (xs ++ ys)) ≡ cond b (x ∷ own me xs) (own me xs) ++ own me ys
    by_test true later = ap (λ (l : List Entry). x ∷ l) later
    by_test false later = later

pub own-others : (me : ℕ) (xs : List Entry) → Others me xs → own me xs ≡ []
own-others me [] others = refl
own-others me (x ∷ xs) others =
    let no : (x.0.caller == me) ≡ false = grind (arith, nat_tests, others.0) in
    ap (λ (b : Bool). cond b (x ∷ own me xs) (own me xs)) no ∙ own-others me xs others.1

pub own-one : (me : ℕ) (e : Entry) → e.0.caller ≡ me → own me (e ∷ []) ≡ e ∷ []
own-one me e is = ap (λ (b : Bool). cond b (e ∷ []) []) (eq-eqb e.0.caller me is)

-- no entry was added
pub adds_none : (alone : Bool) (me : ℕ) (es : List Entry) (P : List Entry → Type 0) → P [] → Adds alone me es es P
adds_none alone me es P none = record { added = []; is = sym (append-nil es); mine = none; sole = λ _. sym (append-nil es) }

-- one own entry, behind those of others
pub adds_one : (alone : Bool) (me : ℕ) (old new between : List Entry) (e : Entry) (P : List Entry → Type 0) → e.0.caller ≡ me → Others me between → new ≡ (old ++ between) ++ e ∷ [] → (IsTrue alone → new ≡ old ++ e ∷ []) → P (e ∷ []) → Adds alone me old new P
adds_one alone me old new between e P mine others is sole one =
    let same : own me (between ++ e ∷ []) ≡ e ∷ [] = own-append me between (e ∷ []) ∙ ap (λ (l : List Entry). l ++ own me (e ∷ [])) (own-others me between others) ∙ own-one me e mine in
    record {
      added = between ++ e ∷ [];
      is = is ∙ append_assoc old between (e ∷ []);
      mine = subst P (sym same) one;
      sole = λ yes. sole yes ∙ ap (λ (l : List Entry). old ++ l) (sym same);
    }

-- one run after another
pub adds_both : (alone : Bool) (me : ℕ) (old mid new : List Entry) (P Q R : List Entry → Type 0) → Adds alone me old mid P → Adds alone me mid new Q → ((xs ys : List Entry) → P xs → Q ys → R (xs ++ ys)) → Adds alone me old new R
adds_both alone me old mid new P Q R a b join =
    let mine : own me (a.added ++ b.added) ≡ own me a.added ++ own me b.added = own-append me a.added b.added in
    record {
      added = a.added ++ b.added;
      is = b.is ∙ ap (λ (l : List Entry). l ++ b.added) a.is ∙ append_assoc old a.added b.added;
      mine = subst R (sym mine) (join (own me a.added) (own me b.added) a.mine b.mine);
      sole = λ yes. b.sole yes ∙ ap (λ (l : List Entry). l ++ own me b.added) (a.sole yes) ∙ append_assoc old (own me a.added) (own me b.added) ∙ ap (λ (l : List Entry). old ++ l) (sym mine);
    }

-- the same of an equal caller
pub adds_as : (alone : Bool) (me you : ℕ) (old new : List Entry) (P : List Entry → Type 0) → me ≡ you → Adds alone me old new P → Adds alone you old new P
adds_as alone me you old new P is h = subst (λ (n : ℕ). Adds alone n old new P) is h

-- the same, said in another way
pub adds_weaker : (alone : Bool) (me : ℕ) (old new : List Entry) (P Q : List Entry → Type 0) → ((xs : List Entry) → P xs → Q xs) → Adds alone me old new P → Adds alone me old new Q
adds_weaker alone me old new P Q weaker h = record { added = h.added; is = h.is; mine = weaker (own me h.added) h.mine; sole = h.sole }

-- what a caller alone adds is its own
pub adds_alone : (me : ℕ) (old new : List Entry) (P : List Entry → Type 0) → Adds true me old new P → (entries : List Entry) × (new ≡ old ++ entries) × P entries
adds_alone me old new P h = (own me h.added, h.sole refl, h.mine)
