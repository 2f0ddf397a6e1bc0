-- What has the type of a struct is one.
use Rattle.std.proofs.Common.{◌≡◌, ℕ, List, Option, refl, arith, inl, inr, ◌⊎◌}
use Rattle.thrift_binary.specs.declared.fault.WireFault.{WireFault}
use Rattle.thrift_binary.specs.declared.progress.Progress.{Progress}
use Rattle.thrift_binary.specs.Tree.{Wire, Flag, Number, Eight, Bytes, Struct, Items, Pairs, Fields}
use Rattle.thrift_binary.specs.Wire.{IsWire, StopsWire}
use Rattle.ms_structs.proofs.Getting.{Fails, fails_as}

no_items : (ty : ℕ) → ty ≡ 12 → (ty ≡ 14) ⊎ (ty ≡ 15) → ⊥
no_items ty is (inl e) = absurd (omega (arith, is, e))
no_items ty is (inr e) = absurd (omega (arith, is, e))

pub is_struct : (w : Wire) (depth : ℕ) (bytes : List ℕ) → IsWire w depth 12 bytes → (v : Fields) × IsWire (Struct v) depth 12 bytes
is_struct (Flag value) depth bytes h = absurd (omega (arith, h.0))
is_struct (Number n) depth bytes (inl h) = absurd (omega (arith, h.0))
is_struct (Number n) depth bytes (inr (inl h)) = absurd (omega (arith, h.0))
is_struct (Number n) depth bytes (inr (inr (inl h))) = absurd (omega (arith, h.0))
is_struct (Number n) depth bytes (inr (inr (inr h))) = absurd (omega (arith, h.0))
is_struct (Eight eight) depth bytes h = absurd (omega (arith, h.0))
is_struct (Bytes body) depth bytes h = absurd (omega (arith, h.0))
is_struct (Struct v) depth bytes h = (v, h)
is_struct (Items of es) depth bytes h = absurd (no_items 12 refl h.0)
is_struct (Pairs key value ps) depth bytes h = absurd (omega (arith, h.0))

-- a fault where a struct was to be skipped is one of its fields
pub struct_fails : (a b : Option (List ℕ)) (p q : Progress) (e : WireFault) → Fails a b p q e (λ w. IsWire w p.room 12) (StopsWire p.room 12) → Fails a b p q e (λ v. IsWire (Struct v) p.room 12) (StopsWire p.room 12)
struct_fails a b p q e h = fails_as a b p q e (λ w. IsWire w p.room 12) (StopsWire p.room 12) (λ v. IsWire (Struct v) p.room 12) (StopsWire p.room 12) (λ s bytes x. x) (λ w bytes x. inr (is_struct w p.room bytes x)) h
