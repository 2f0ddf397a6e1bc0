-- Numbers of two bytes.
use Rattle.std.proofs.Common.{◌≡◌, ℕ, zero, suc, List, ℤ, refl, ap, inl, inr}
use Rattle.ms_structs.specs.declared.got.Got.TheVariants.{Is}
use Rattle.ms_structs.specs.Values.{number_of}
use Rattle.thrift_binary.specs.Taking.{Stop}
use Rattle.thrift_binary.specs.Tree.{Wire, Number}
use Rattle.thrift_binary.specs.Wire.{IsShort, IsWire, StopsPlain, StopsShort, StopsWire}

stops_plain : (depth ty : ℕ) (s : Stop) (bytes : List ℕ) → StopsPlain ty s bytes → StopsWire depth ty s bytes
stops_plain zero ty s bytes h = inl h
stops_plain (suc d) ty s bytes h = inl h

pub stops_short : (depth : ℕ) (s : Stop) (bytes : List ℕ) → StopsShort 2 s bytes → StopsWire depth 6 s bytes
stops_short depth s bytes h = stops_plain depth 6 s bytes (inl (2, inr (inr (inr (inl (refl, refl)))), h))

pub short_read : (depth : ℕ) (n m : ℤ) (bytes : List ℕ) → m ≡ n → IsShort n bytes → (w : Wire) × IsWire w depth 6 bytes × (Is m ≡ number_of w)
short_read depth n m bytes same h = (Number n, inr (inl (refl, h)), ap Is same)
