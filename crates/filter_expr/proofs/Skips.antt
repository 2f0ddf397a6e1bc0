-- Steps that leave an operand out.
use Rattle.std.proofs.Common.{◌≡◌, ℕ, ◌-◌, List, [], ◌∷◌, ◌++◌, length, refl, sym, ap, ◌∙◌, arith, append_assoc, length-append, slice_set}
use Rattle.std.proofs.Math.Seq.{set-append_seam}

-- the step at a place is set
pub set_skip : {X : Type 0} (steps front behind : List X) (at : ℕ) (x y : X) → steps ≡ front ++ x ∷ behind → length front ≡ at → slice_set steps at y ≡ front ++ y ∷ behind
set_skip steps front behind at x y e len = rw (e, sym len) (set-append_seam front x behind y)

-- how many steps stand behind it
pub behind_count : {X : Type 0} (steps front behind : List X) (at n : ℕ) (x : X) → steps ≡ front ++ x ∷ behind → length front ≡ at → n ≡ length steps → n - at - 1 ≡ length behind
behind_count {X = X} steps front behind at n x e len count = omega (arith, ap (λ (zs : List X). length zs) e, length-append front (x ∷ behind), len, count)

-- an operand, with the step before it
pub operand_behind : {X : Type 0} (old pushed after new part : List X) (before now : X) → pushed ≡ old ++ before ∷ [] → after ≡ pushed ++ part → ((front behind : List X) (x : X) → after ≡ front ++ x ∷ behind → length front ≡ length old → new ≡ front ++ now ∷ behind) → new ≡ old ++ now ∷ part
operand_behind {X = X} old pushed after new part before now p q r = r old part before (q ∙ ap (λ (zs : List X). zs ++ part) p ∙ append_assoc old (before ∷ []) part) refl

-- an operand behind others
pub joined : {X : Type 0} (old now new first part : List X) (x : X) → now ≡ old ++ first → new ≡ now ++ x ∷ part → new ≡ old ++ (first ++ x ∷ part)
joined {X = X} old now new first part x p q = q ∙ ap (λ (zs : List X). zs ++ x ∷ part) p ∙ append_assoc old first (x ∷ part)
