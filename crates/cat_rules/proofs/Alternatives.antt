-- Whether one of a pattern's alternatives matches a name.
use Rattle.std.proofs.Common.{◌≡◌, ℕ, ◌<◌, Bool, true, false, List, [], length, refl, sym, subst, arith, ◌↔◌}
use Rattle.std.specs.Bool.{MatchBool, IsTrue}
use Rattle.std.specs.List.{AllWithin, HoldsAt, slice_index_or}
use Rattle.std.specs.Str.{chars}
use Rattle.std.proofs.lemmas.Bool.{false≢true}
use Rattle.std.proofs.lemmas.List.{get_or_default}
use Rattle.cat_rules.specs.Patterns.{MatchesSigns, Matches, alternatives}

-- from one alternative that does, or none
pub matches_from_cases : (r : Bool) (pattern name same : List ℕ) → same ≡ name → MatchBool r ((k : ℕ) × (k < length (alternatives pattern)) × HoldsAt (λ a. MatchesSigns (chars a) (chars same)) (alternatives pattern) k) (AllWithin (λ a. MatchesSigns (chars a) (chars same) → ⊥) (alternatives pattern) 0 (length (alternatives pattern))) → IsTrue r ↔ Matches pattern name
matches_from_cases true pattern name same e h = (
  λ _. (h.0, slice_index_or (alternatives pattern) h.0 [], h.1, get_or_default_at, subst (λ (n : List ℕ). MatchesSigns (chars (slice_index_or (alternatives pattern) h.0 [])) (chars n)) e (h.2 [])),
  λ _. refl,
)
  where
    get_or_default_at : slice_index_or (alternatives pattern) h.0 (slice_index_or (alternatives pattern) h.0 []) ≡ slice_index_or (alternatives pattern) h.0 []
    get_or_default_at = get_or_default (alternatives pattern) h.0 _ _ h.1
matches_from_cases false pattern name same e h = (
  λ t. absurd (false≢true t),
  λ m. absurd (h m.0 m.1 (omega arith) m.2 (subst (λ (a : List ℕ). MatchesSigns (chars a) (chars same)) (sym m.3) (subst (λ (n : List ℕ). MatchesSigns (chars m.1) (chars n)) (sym e) m.4))),
)
