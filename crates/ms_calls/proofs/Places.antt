-- The place of an exception among those that are declared.
use Rattle.std.proofs.Common.{◌≡◌, ◌==◌, ◌+◌, ◌<◌, ℕ, suc, true, false, List, Some, pos, length, drop, get_or, ap, refl, ◌∙◌}
use Rattle.std.proofs.lemmas.List.{drop_more}
use Rattle.ms_calls.specs.declared.exception.Exception.{Exception}
use Rattle.ms_calls.specs.Exceptions.{exception_number, place_from}

-- the one that is looked at is the one that is wanted
pub place_here : (n : ℕ) (e : Exception) (xs : List Exception) (at : ℕ) (d : Exception) → at < length xs → (exception_number (get_or xs at d) == exception_number e) ≡ true → place_from n e (drop at xs) ≡ Some (pos n)
place_here n e xs at d fits is = ap (place_from n e) (drop_more xs at d fits) ∙ rw is refl

-- it isn't
pub place_behind : (n : ℕ) (e : Exception) (xs : List Exception) (at : ℕ) (d : Exception) → at < length xs → (exception_number (get_or xs at d) == exception_number e) ≡ false → place_from n e (drop at xs) ≡ place_from (suc n) e (drop (at + 1) xs)
place_behind n e xs at d fits is = ap (place_from n e) (drop_more xs at d fits) ∙ rw is refl
