-- Where a map goes on after a key.
use Rattle.std.specs.Prelude.{List, Option, None, Some}
use Rattle.std.specs.List.{find, slice_get}
use Rattle.std.specs.Ordering.{is_lt}
use Rattle.std.specs.declared.cmp.Ordering.{Ordering}

-- the first pair whose key is above this one, or the first of all; the pairs stand in rising order of their keys
abbrev pub first_after : {K V : Type 0} → (K → K → Ordering) → Option K → List (K × V) → Option (K × V)
first_after cmp None pairs = slice_get pairs 0
first_after cmp (Some key) pairs = find (λ pair. is_lt (cmp key pair.0)) pairs
