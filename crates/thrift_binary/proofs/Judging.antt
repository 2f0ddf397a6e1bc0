-- What the heads of fields and collections tell.
use Rattle.std.proofs.Common.{◌≡◌, ◌≢◌, ℕ, ◌+◌, ℤ, List, [], ◌∷◌, length, get_or, Option, Some, refl, sym, ap, subst, arith, inl, inr, w16, to_z, of_z}
use mir.Val.{SFits}
use Rattle.std.proofs.lemmas.Int.{to_z-of_z}
use Rattle.thrift_binary.specs.declared.fault.WireFault.{WireFault}
use Rattle.thrift_binary.specs.declared.fault.WireFault.TheVariants.{BadWire}
use Rattle.thrift_binary.specs.declared.progress.Progress.{Progress}
use Rattle.thrift_binary.specs.Taking.{Stop, Bad, moved, Took, IsFaultOf}
use Rattle.thrift_binary.specs.Wire.{IsCode, IsElementType, IsCount, IsNoCount, StopsListHead, IsMapHead, StopsMapHead, StopsFieldType, IsFieldType, IsShort, IsField}
use Rattle.thrift_binary.proofs.Words.{single, five, six}
use Rattle.thrift_binary.proofs.Reading.{fault_moved, Took-then}

-- a byte that is no type
pub no_type : (place : ℕ) (xs : List ℕ) → length xs ≡ 1 → get_or xs 0 0 ≢ 0 → (IsCode (get_or xs 0 0) → ⊥) → (s : Stop) × StopsFieldType s xs × IsFaultOf place s (BadWire 4 place)
no_type place xs len some none = (Bad 4 0, inr (get_or xs 0 0, single xs len, some, none, refl), ap (BadWire 4) (omega arith))

-- where no elements of this type may follow, there are some, and it is no type
some_elements : (count ty : ℕ) → (IsElementType count ty → ⊥) → count ≢ 0
some_elements count ty none e = none (λ some. absurd (some e))

no_code : (count ty : ℕ) → (IsElementType count ty → ⊥) → IsCode ty → ⊥
no_code count ty none code = none (λ _. code)

-- a list's head, whose count stops or whose type does
pub list_count : (place : ℕ) (xs : List ℕ) (fault : WireFault) → length xs ≡ 5 → ((s : Stop) × IsNoCount s (get_or xs 1 0 ∷ get_or xs 2 0 ∷ get_or xs 3 0 ∷ get_or xs 4 0 ∷ []) × IsFaultOf (place + 1) s fault) → (s : Stop) × StopsListHead s xs × IsFaultOf place s fault
list_count place xs fault len v = (moved 1 v.0, inr (inl (get_or xs 0 0, _, v.0, five xs len, v.1, refl)), fault_moved place 1 v.0 fault v.2)

pub list_type : (place : ℕ) (xs : List ℕ) (count : ℕ) → length xs ≡ 5 → IsCount count (get_or xs 1 0 ∷ get_or xs 2 0 ∷ get_or xs 3 0 ∷ get_or xs 4 0 ∷ []) → (IsElementType count (get_or xs 0 0) → ⊥) → (s : Stop) × StopsListHead s xs × IsFaultOf place s (BadWire 4 place)
list_type place xs count len counted none = (Bad 4 0, inr (inr (get_or xs 0 0, count, _, five xs len, counted, some_elements count _ none, no_code count _ none, refl)), ap (BadWire 4) (omega arith))

-- a map's head, whose count stops or one of whose types does
pub map_count : (place : ℕ) (xs : List ℕ) (fault : WireFault) → length xs ≡ 6 → ((s : Stop) × IsNoCount s (get_or xs 2 0 ∷ get_or xs 3 0 ∷ get_or xs 4 0 ∷ get_or xs 5 0 ∷ []) × IsFaultOf (place + 2) s fault) → (s : Stop) × StopsMapHead s xs × IsFaultOf place s fault
map_count place xs fault len v = (moved 2 v.0, inr (inl (get_or xs 0 0, get_or xs 1 0, _, v.0, six xs len, v.1, refl)), fault_moved place 2 v.0 fault v.2)

pub map_key : (place : ℕ) (xs : List ℕ) (count : ℕ) → length xs ≡ 6 → IsCount count (get_or xs 2 0 ∷ get_or xs 3 0 ∷ get_or xs 4 0 ∷ get_or xs 5 0 ∷ []) → (IsElementType count (get_or xs 0 0) → ⊥) → (s : Stop) × StopsMapHead s xs × IsFaultOf place s (BadWire 4 place)
map_key place xs count len counted none = (Bad 4 0, inr (inr (inl (get_or xs 0 0, get_or xs 1 0, count, _, six xs len, counted, some_elements count _ none, no_code count _ none, refl))), ap (BadWire 4) (omega arith))

pub map_value : (place : ℕ) (xs : List ℕ) (count : ℕ) → length xs ≡ 6 → IsCount count (get_or xs 2 0 ∷ get_or xs 3 0 ∷ get_or xs 4 0 ∷ get_or xs 5 0 ∷ []) → IsElementType count (get_or xs 0 0) → (IsElementType count (get_or xs 1 0) → ⊥) → (s : Stop) × StopsMapHead s xs × IsFaultOf place s (BadWire 4 (place + 1))
map_value place xs count len counted key none =
    let some = some_elements count _ none in
    (Bad 4 1, inr (inr (inr (get_or xs 0 0, get_or xs 1 0, count, _, six xs len, counted, some, key some, no_code count _ none, refl))), refl)

pub map_head : (xs : List ℕ) (count : ℕ) → length xs ≡ 6 → IsCount count (get_or xs 2 0 ∷ get_or xs 3 0 ∷ get_or xs 4 0 ∷ get_or xs 5 0 ∷ []) → IsElementType count (get_or xs 0 0) → IsElementType count (get_or xs 1 0) → IsMapHead (get_or xs 0 0) (get_or xs 1 0) count xs
map_head xs count len counted key value = (_, six xs len, counted, key, value)

-- the id of a field was read behind its type
pub field_read : (a b c : Option (List ℕ)) (p q r : Progress) (ty : ℕ) (z : ℤ) → SFits w16 z → Took a b p q (IsFieldType (Some ty)) → Took b c q r (IsShort z) → Took a c p r (IsField (Some (ty, to_z w16 (of_z w16 z))))
field_read a b c p q r ty z fits first second =
    subst (λ y. Took a c p r (IsField (Some (ty, y)))) (sym (to_z-of_z w16 z fits))
    (Took-then a b c p q r (IsFieldType (Some ty)) (IsShort z) (IsField (Some (ty, z))) (λ front rest x y. (front, rest, refl, x, y)) first second)
