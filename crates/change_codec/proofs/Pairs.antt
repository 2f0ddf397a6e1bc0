-- Writing pairs one behind the other, as a loop does.
use Rattle.std.proofs.Common.{◌≡◌, ℕ, List, [], ◌∷◌, ◌++◌, refl, sym, ap, subst, ◌∙◌, append_assoc}
use Rattle.std.proofs.lemmas.List.{append-nil}
use Rattle.std.specs.List.{AllByRecursion, flat_map}

module _ {K V : Type 0} (KFits : K → Type 0) (VFits : V → Type 0) (key_code : K → List ℕ) (value_code : V → List ℕ) where
  abbrev pub code : K × V → List ℕ
  code p = key_code p.0 ++ value_code p.1

  abbrev pub HasCode : K × V → Type 0
  HasCode p = KFits p.0 × VFits p.1

  -- what is written and what is still to be written is the whole; and where the rest fits, the whole does
  pub record Written (old out : List ℕ) (left pairs : List (K × V)) : Type 0 where
    pub grown : (more : List ℕ) × (out ≡ old ++ more)
    pub whole : out ++ flat_map code left ≡ old ++ flat_map code pairs
    pub fits : AllByRecursion HasCode left → AllByRecursion HasCode pairs

  pub begins : (old : List ℕ) (pairs : List (K × V)) → Written old old pairs pairs
  begins old pairs = record { grown = ([], sym (append-nil old)); whole = refl; fits = λ all. all }

  pub one_more : (old out new : List ℕ) (left after pairs : List (K × V)) (key : K) (value : V) → left ≡ (key, value) ∷ after → new ≡ out ++ code (key, value) → HasCode (key, value)
      → Written old out left pairs → Written old new after pairs
  one_more old out new left after pairs key value taken put fits so_far = record {
    grown = (so_far.grown.0 ++ code (key, value), put ∙ ap (λ (l : List ℕ). l ++ code (key, value)) so_far.grown.1 ∙ append_assoc old so_far.grown.0 (code (key, value)));
    whole = ap (λ (l : List ℕ). l ++ flat_map code after) put ∙ append_assoc out (code (key, value)) (flat_map code after) ∙ ap (λ (ps : List (K × V)). out ++ flat_map code ps) (sym taken) ∙ so_far.whole;
    fits = λ all. so_far.fits (subst (AllByRecursion HasCode) (sym taken) (fits, all));
  }

  pub stops : (old out new more : List ℕ) (left pairs : List (K × V)) → new ≡ out ++ more → Written old out left pairs → (m : List ℕ) × (new ≡ old ++ m)
  stops old out new more left pairs put so_far = (so_far.grown.0 ++ more, put ∙ ap (λ (l : List ℕ). l ++ more) so_far.grown.1 ∙ append_assoc old so_far.grown.0 more)

  pub is_done : (old out : List ℕ) (pairs : List (K × V)) → Written old out [] pairs → out ≡ old ++ flat_map code pairs
  is_done old out pairs so_far = sym (append-nil out) ∙ so_far.whole
