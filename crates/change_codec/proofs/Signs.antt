-- Numbers with a sign, in two's complement.
use Rattle.std.proofs.Common.{ℕ, ℤ, ◌^◌, ◌<◌, arith}
use Rattle.std.specs.Prelude.{FitsSigned}
use Rattle.std.specs.Int.{w32, w64, cast_signed, cast_unsigned}
use Rattle.std.proofs.lemmas.Int.{to_z-of_z, of_z-to_z, ints}
use Rattle.change_codec.proofs.Numbers.{IsSigned}

fits32 : (n : ℕ) → n < 2 ^ 32 → FitsSigned w32 (cast_signed w32 n)
fits32 n lt = omega (arith, ints)

below32 : (z : ℤ) → FitsSigned w32 z → cast_unsigned w32 z < 2 ^ 32
below32 z f = omega (arith, ints)

fits64 : (n : ℕ) → n < 2 ^ 64 → FitsSigned w64 (cast_signed w64 n)
fits64 n lt = omega (arith, ints)

below64 : (z : ℤ) → FitsSigned w64 z → cast_unsigned w64 z < 2 ^ 64
below64 z f = omega (arith, ints)

pub signs32 : IsSigned w32
signs32 = record { again = to_z-of_z w32; below = below32; back = of_z-to_z w32; fits = fits32 }

pub signs64 : IsSigned w64
signs64 = record { again = to_z-of_z w64; below = below64; back = of_z-to_z w64; fits = fits64 }
