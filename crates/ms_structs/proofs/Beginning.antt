-- What begins a value: nothing at all stops to be one.
use Rattle.std.proofs.Common.{◌≡◌, ℕ, ◌<◌, ◌≤◌, List, [], refl, sym, ap, arith, inl, inr, zero, suc, ◌⊎◌, append-nil}
use Rattle.thrift_binary.specs.Taking.{Stop, Cut, Large}
use Rattle.thrift_binary.specs.Tree.{Fields, NoFields}
use Rattle.thrift_binary.specs.Wire.{IsCode, IsNested, IsElementType, AreFields, StopsPlain, StopsFields, StopsWire}

-- a code is that of a plain type, of which no byte came, or that of a struct or a collection
plain_or_nested : (ty : ℕ) → IsCode ty → StopsPlain ty Cut [] ⊎ IsNested ty
plain_or_nested ty (inl e) = inl (inl (1, inl (e, refl), (refl, omega arith)))
plain_or_nested ty (inr (inl e)) = inl (inl (1, inr (inl (e, refl)), (refl, omega arith)))
plain_or_nested ty (inr (inr (inl e))) = inl (inl (8, inr (inr (inl (e, refl))), (refl, omega arith)))
plain_or_nested ty (inr (inr (inr (inl e)))) = inl (inl (2, inr (inr (inr (inl (e, refl)))), (refl, omega arith)))
plain_or_nested ty (inr (inr (inr (inr (inl e))))) = inl (inl (4, inr (inr (inr (inr (inl (e, refl))))), (refl, omega arith)))
plain_or_nested ty (inr (inr (inr (inr (inr (inl e)))))) = inl (inl (8, inr (inr (inr (inr (inr (e, refl))))), (refl, omega arith)))
plain_or_nested ty (inr (inr (inr (inr (inr (inr (inl e))))))) = inl (inr (e, inl (inl (refl, omega arith))))
plain_or_nested ty (inr (inr (inr (inr (inr (inr (inr h))))))) = inr h

-- some fields and no end yet
pub fields_so_far : (depth : ℕ) (v : Fields) (bytes : List ℕ) → AreFields v depth bytes → StopsFields depth Cut bytes
fields_so_far depth v bytes are = (v, bytes, [], Cut, sym (append-nil bytes), are, refl, inl (inl (inl (refl, omega arith))))

nested_empty : (depth ty : ℕ) → IsNested ty → (stop : Stop) × StopsWire depth ty stop []
nested_empty zero ty nested = (Large 0, inr (nested, refl, refl))
nested_empty (suc d) ty (inl e) = (Cut, inr (inl (e, fields_so_far d NoFields [] refl)))
nested_empty (suc d) ty (inr (inl e)) = (Cut, inr (inr (inr (e, inl (inl (refl, omega arith))))))
nested_empty (suc d) ty (inr (inr e)) = (Cut, inr (inr (inl (e, inl (inl (refl, omega arith))))))

plain_stops : (depth ty : ℕ) (s : Stop) (bytes : List ℕ) → StopsPlain ty s bytes → StopsWire depth ty s bytes
plain_stops zero ty s bytes h = inl h
plain_stops (suc d) ty s bytes h = inl h

empty_by : (depth ty : ℕ) → StopsPlain ty Cut [] ⊎ IsNested ty → (stop : Stop) × StopsWire depth ty stop []
empty_by depth ty (inl h) = (Cut, plain_stops depth ty Cut [] h)
empty_by depth ty (inr nested) = nested_empty depth ty nested

-- no bytes at all stop to be a value of this type
pub empty_stops : (depth ty : ℕ) → IsCode ty → (stop : Stop) × StopsWire depth ty stop []
empty_stops depth ty code = empty_by depth ty (plain_or_nested ty code)

-- so many of these: all of them, or fewer
pub all_or_fewer : (n count : ℕ) → n ≤ count → (n ≡ count) ⊎ (n < count)
all_or_fewer zero zero h = inl refl
all_or_fewer zero (suc m) h = inr (omega arith)
all_or_fewer (suc n) zero h = absurd (omega (arith, h))
all_or_fewer (suc n) (suc m) h = elim (all_or_fewer n m (omega (arith, h))) [ inl e ↦ inl (ap suc e) | inr less ↦ inr (omega (arith, less)) ]

-- where elements are wanted their type has a code
pub type_code : (n count ty : ℕ) → n < count → IsElementType count ty → IsCode ty
type_code n count ty less code = code (λ none. omega (arith, less, none))
