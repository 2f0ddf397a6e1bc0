-- Connections that were handed back.
use Rattle.std.proofs.Common.{◌≡◌, List, [], ◌∷◌, ◌++◌, ◌∙◌, ap}
use Rattle.std.proofs.lemmas.List.{map-append}
use Rattle.hms_outside.specs.Memory.{Store, Supply}
use Rattle.hms_listeners.specs.Memory.{all_returned, returned_of}

-- one connection more
pub returned_push : (xs ys : List (Supply × Store)) (rx : Supply) (tx : Store) → ys ≡ xs ++ (rx, tx) ∷ [] → all_returned ys ≡ all_returned xs ++ returned_of (rx, tx) ∷ []
returned_push xs ys rx tx is = ap all_returned is ∙ map-append returned_of xs ((rx, tx) ∷ [])
