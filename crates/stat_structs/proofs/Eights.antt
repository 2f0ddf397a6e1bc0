-- Doubles as their eight bytes.
use Rattle.std.proofs.Common.{◌≡◌, ℕ, zero, suc, List, refl, inl, inr}
use Rattle.ms_structs.specs.declared.got.Got.TheVariants.{Is}
use Rattle.thrift_binary.specs.Codes.{double_code}
use Rattle.thrift_binary.specs.Taking.{Stop}
use Rattle.thrift_binary.specs.Tree.{Wire, Eight}
use Rattle.thrift_binary.specs.Wire.{IsBody, IsWire, StopsShort, StopsWire}
use Rattle.stat_structs.specs.Doubles.{eight_of}

pub stops_eight : (depth : ℕ) (s : Stop) (bytes : List ℕ) → StopsShort 8 s bytes → StopsWire depth double_code s bytes
stops_eight zero s bytes h = inl (inl (8, inr (inr (inl (refl, refl))), h))
stops_eight (suc d) s bytes h = inl (inl (8, inr (inr (inl (refl, refl))), h))

-- what is read off a double is what its tree says
pub eight_read : (depth : ℕ) (eight bytes : List ℕ) → IsBody 8 eight bytes → (w : Wire) × IsWire w depth double_code bytes × (Is eight ≡ eight_of w)
eight_read depth eight bytes h = (Eight eight, (refl, h), refl)
