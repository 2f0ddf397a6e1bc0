-- Doubles, which nothing here computes with.
use Rattle.std.specs.Prelude.{ℕ, List, [], ◌∷◌}
use Rattle.ms_structs.specs.declared.got.Got.{Got}
use Rattle.ms_structs.specs.declared.got.Got.TheVariants.{Nothing, Is}
use Rattle.thrift_binary.specs.Tree.{Wire, Eight}

-- the eight bytes that a double says
abbrev pub eight_of : Wire → Got (List ℕ)
eight_of (Eight eight) = Is eight
eight_of w = Nothing

-- the eight bytes of the double 0
abbrev pub eight_zeros : List ℕ
eight_zeros = 0 ∷ 0 ∷ 0 ∷ 0 ∷ 0 ∷ 0 ∷ 0 ∷ 0 ∷ []
