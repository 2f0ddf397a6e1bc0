-- Values behind tags are read as they are written.
use Rattle.std.proofs.Common.{◌≡◌, ◌==◌, ℕ, Bool, true, false, cond, List, [], ◌∷◌, ◌++◌, Ok, refl, sym, ap, subst, ◌∙◌}
use Rattle.std.proofs.lemmas.Bool.{eqb-true}
use Rattle.change_codec.specs.Forms.{Form, Reading, Tags, alone, behind_tag, made_read, tagged_read}
use Rattle.change_codec.specs.Whole.{AreBytes}
use Rattle.change_codec.proofs.Bind.{ok_is, AreBytes-behind}
use Rattle.change_codec.proofs.Numbers.{IsLawful}
use Rattle.change_codec.proofs.Composed.{made_parts}

module _ {T : Type 0} (HasCode : T → Type 0) (code : T → List ℕ) where
  -- what is read behind a tag is spelled with that tag
  abbrev pub Behind : ℕ → (List ℕ → Reading T) → Type 0
  Behind tag read = (bytes : List ℕ) (value : T) (rest : List ℕ) → AreBytes bytes → read bytes ≡ Ok (value, rest) → (tag ∷ bytes ≡ code value ++ rest) × HasCode value

  abbrev pub AllBehind : Tags T → Type 0
  AllBehind [] = Unit {0}
  AllBehind (known ∷ tags) = Behind known.0 known.1 × AllBehind tags

  -- a value that is made of what stands behind the tag
  pub variant : {A : Type 0} (tag : ℕ) (make : A → T) (form : Form A) → IsLawful form → ((a : A) → code (make a) ≡ tag ∷ form.code a) → ((a : A) → form.HasCode a → HasCode (make a)) → Behind tag (made_read make form.read)
  variant tag make form p is fits bytes value rest are e =
      let x = made_parts make form p bytes value rest are e in
      let spelled : tag ∷ bytes ≡ code (make x.0) ++ rest = ap (λ (l : List ℕ). tag ∷ l) x.2 ∙ ap (λ (l : List ℕ). l ++ rest) (sym (is x.0)) in
      subst (λ (v : T). (tag ∷ bytes ≡ code v ++ rest) × HasCode v) x.1 (spelled, fits x.0 x.3)

  -- a value whose tag says all
  pub lone : (tag : ℕ) (v : T) → code v ≡ tag ∷ [] → HasCode v → Behind tag (alone v)
  lone tag v is fits bytes value rest are e =
      subst (λ (r : T × List ℕ). (tag ∷ bytes ≡ code r.0 ++ r.1) × HasCode r.0) (ok_is (v, bytes) (value, rest) e) (ap (λ (l : List ℕ). l ++ bytes) (sym is), fits)

  tags_spelled : (tags : Tags T) → AllBehind tags → (tag : ℕ) (bytes : List ℕ) (value : T) (rest : List ℕ) → AreBytes bytes → behind_tag tags tag bytes ≡ Ok (value, rest) → (tag ∷ bytes ≡ code value ++ rest) × HasCode value
  tags_spelled [] all tag bytes value rest are e = absurd cc
  tags_spelled (known ∷ tags) all tag bytes value rest are e = by (tag == known.0) refl e (tags_spelled tags all.1 tag bytes value rest are)
    where
      by : (b : Bool) → (tag == known.0) ≡ b → cond b (known.1 bytes) (behind_tag tags tag bytes) ≡ Ok (value, rest) → (behind_tag tags tag bytes ≡ Ok (value, rest) → (tag ∷ bytes ≡ code value ++ rest) × HasCode value)
          → (tag ∷ bytes ≡ code value ++ rest) × HasCode value
      by true same e more = subst (λ (t : ℕ). (t ∷ bytes ≡ code value ++ rest) × HasCode value) (sym (eqb-true tag known.0 same)) (all.0 bytes value rest are e)
      by false other e more = more e

  pub tagged_spelled : (tags : Tags T) → AllBehind tags → (bytes : List ℕ) (value : T) (rest : List ℕ) → AreBytes bytes → tagged_read tags bytes ≡ Ok (value, rest) → (bytes ≡ code value ++ rest) × HasCode value
  unfolding tagged_read
  tagged_spelled tags all [] value rest are e = absurd cc
  tagged_spelled tags all (tag ∷ bytes) value rest are e = tags_spelled tags all tag bytes value rest (AreBytes-behind (tag ∷ []) bytes are) e
