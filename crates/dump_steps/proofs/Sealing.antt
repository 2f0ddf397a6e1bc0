-- A list whose elements are changed one after the other, in place.
use Rattle.std.proofs.Common.{◌≡◌, sym, ap, ◌∙◌, ℕ, zero, suc, ◌+◌, ◌<◌, List, [], ◌∷◌, ◌++◌, length, map, take, drop, get_or, Bool, true, false, add-one, arith}
use Rattle.std.specs.Prelude.{slice_set, if◌then◌else◌}
use Rattle.dump_steps.specs.Open.{is_dump, sealed_at}
use Rattle.dump_steps.specs.declared.open_dumps.OpenDump.{OpenDump}

module _ {X : Type 0} (f : X → X) where
  -- the first elements changed, and the others as they were
  abbrev pub changed_to : ℕ → List X → List X
  changed_to i xs = map f (take i xs) ++ drop i xs

  set_next : (i : ℕ) (xs : List X) (x y : X) → i < length xs → x ≡ get_or (changed_to i xs) i x → y ≡ f x → slice_set (changed_to i xs) i y ≡ changed_to (suc i) xs
  set_next i [] x y within at is = absurd (omega arith)
  set_next zero (a ∷ xs) x y within at is = ap (λ z. z ∷ xs) (is ∙ ap f at)
  set_next (suc i) (a ∷ xs) x y within at is = ap (λ zs. f a ∷ zs) (set_next i xs x y (omega arith) at is)

  pub is_set : (i : ℕ) (xs old new : List X) (x y : X) → i < length xs → old ≡ changed_to i xs → x ≡ get_or old i x → y ≡ f x → new ≡ slice_set old i y → new ≡ changed_to (i + 1) xs
  is_set i xs old new x y within so_far at is set =
      set ∙ (ap (λ zs. slice_set zs i y) so_far
      ∙ (set_next i xs x y within (at ∙ ap (λ zs. get_or zs i x) so_far) is ∙ ap (λ j. changed_to j xs) (sym (add-one i))))

-- a dump, sealed where it is this one
abbrev pub sealed_if : ℕ → ℕ → ℕ → OpenDump → OpenDump
sealed_if caller number end dump = if is_dump caller number dump then sealed_at end dump else dump

pub sealed_then : (caller number end : ℕ) (x at new : OpenDump) (b : Bool) → x ≡ at → b ≡ is_dump caller number at → b ≡ true → new ≡ sealed_at end at → new ≡ sealed_if caller number end x
sealed_then caller number end x at new b same is holds sealed =
    sealed ∙ (ap (λ (t : Bool). if t then sealed_at end at else at) (sym holds ∙ is) ∙ ap (sealed_if caller number end) (sym same))

pub sealed_else : (caller number end : ℕ) (x at : OpenDump) (b : Bool) → x ≡ at → b ≡ is_dump caller number at → b ≡ false → at ≡ sealed_if caller number end x
sealed_else caller number end x at b same is fails =
    ap (λ (t : Bool). if t then sealed_at end at else at) (sym fails ∙ is) ∙ ap (sealed_if caller number end) (sym same)
