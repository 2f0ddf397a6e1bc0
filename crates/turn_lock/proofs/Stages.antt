-- Stages by what is known of them.
use Rattle.std.proofs.Common.{◌≡◌, ℕ, true, false, refl, sym, ◌∙◌, ap}
use Rattle.std.specs.Prelude.{Option, Some, None, IsSome}
use Rattle.turn_lock.specs.Rests.{rests, turn_out, given}
use Rattle.turn_lock.specs.declared.view.Stage.{Stage}
use Rattle.turn_lock.specs.declared.view.Stage.TheVariants.{Spent, Idle, Waits, Holds, Leaves}

module _ {E : Type 0} where
  pub idle_of : (st : Stage E) → rests st ≡ true → turn_out st ≡ false → st ≡ Idle
  idle_of Spent r o = absurd (cc)
  idle_of Idle r o = refl
  idle_of (Waits n) r o = absurd (cc)
  idle_of (Holds n) r o = absurd (cc)
  idle_of (Leaves n d) r o = absurd (cc)

  pub holds_of : (st : Stage E) → turn_out st ≡ true → (n : ℕ) × (st ≡ Holds n)
  holds_of Spent o = absurd (cc)
  holds_of Idle o = absurd (cc)
  holds_of (Waits n) o = absurd (cc)
  holds_of (Holds n) o = (n, refl)
  holds_of (Leaves n d) o = absurd (cc)

module _ {S : Type 0} where
  pub given_is : (o : Option S) (there : IsSome o) → Some (given o there) ≡ o
  given_is (Some x) there = refl
  given_is None there = absurd (cc)

  abbrev or_else : S → Option S → S
  or_else d (Some x) = x
  or_else d None = d

  -- of two equal options the same is given
  pub given_same : (o q : Option S) (a : IsSome o) (b : IsSome q) → o ≡ q → given o a ≡ given q b
  given_same o q a b same = ap (or_else (given o a)) (given_is o a ∙ same ∙ sym (given_is q b))

  pub given_by : (o : Option S) (a : IsSome o) (s : S) → Some s ≡ o → s ≡ given o a
  given_by o a s is = ap (or_else s) (is ∙ sym (given_is o a))
