-- The strict spelling of trees that are made piece by piece, and that they are within the limits.
use Rattle.std.proofs.Common.{◌≡◌, ℕ, suc, List, [], ◌∷◌, ◌++◌, length, refl, sym, ap, ◌∙◌, append_assoc, flat_map}
use Rattle.thrift_binary.specs.Tree.{Wire, Fields, NoFields, Field, elements_count, entries_count}
use Rattle.thrift_binary.specs.Strict.{field_bytes, wire_bytes, fields_bytes, elements_bytes, entries_bytes}
use Rattle.thrift_binary.specs.Spelling.{Within, FieldsWithin, ElementsWithin, EntriesWithin}
use Rattle.thrift_binary.specs.Building.{followed, elements_of, entries_of}

-- fields behind fields are spelled one behind the other
pub followed_bytes : (v further : Fields) → fields_bytes (followed v further) ≡ fields_bytes v ++ fields_bytes further
followed_bytes NoFields further = refl
followed_bytes (Field ty id w v) further =
    ap (λ rest. field_bytes ty id ++ (wire_bytes ty w ++ rest)) (followed_bytes v further)
    ∙ sym (append_assoc (field_bytes ty id) (wire_bytes ty w ++ fields_bytes v) (fields_bytes further)
    ∙ ap (λ rest. field_bytes ty id ++ rest) (append_assoc (wire_bytes ty w) (fields_bytes v) (fields_bytes further)))

pub followed_within : (v further : Fields) (depth : ℕ) → FieldsWithin v depth → FieldsWithin further depth → FieldsWithin (followed v further) depth
followed_within NoFields further depth h more = more
followed_within (Field ty id w v) further depth (code, fits, within, rest) more = (code, fits, within, followed_within v further depth rest more)

-- elements that are made of a list's items: how many they are, and how they are spelled
pub elements_of_count : {A : Type 0} (f : A → Wire) (xs : List A) → elements_count (elements_of f xs) ≡ length xs
elements_of_count f [] = refl
elements_of_count f (x ∷ xs) = ap suc (elements_of_count f xs)

pub elements_of_bytes : {A : Type 0} (ty : ℕ) (f : A → Wire) (xs : List A) → elements_bytes ty (elements_of f xs) ≡ flat_map (λ x. wire_bytes ty (f x)) xs
elements_of_bytes ty f [] = refl
elements_of_bytes ty f (x ∷ xs) = ap (λ rest. wire_bytes ty (f x) ++ rest) (elements_of_bytes ty f xs)

pub elements_of_within : {A : Type 0} (f : A → Wire) (depth ty : ℕ) → ((x : A) → Within (f x) depth ty) → (xs : List A) → ElementsWithin (elements_of f xs) depth ty
elements_of_within f depth ty each [] = tt
elements_of_within f depth ty each (x ∷ xs) = (each x, elements_of_within f depth ty each xs)

-- the same for the pairs of a map
pub entries_of_count : {A : Type 0} (key value : A → Wire) (xs : List A) → entries_count (entries_of key value xs) ≡ length xs
entries_of_count key value [] = refl
entries_of_count key value (x ∷ xs) = ap suc (entries_of_count key value xs)

pub entries_of_bytes : {A : Type 0} (key_ty value_ty : ℕ) (key value : A → Wire) (xs : List A)
    → entries_bytes key_ty value_ty (entries_of key value xs) ≡ flat_map (λ x. wire_bytes key_ty (key x) ++ wire_bytes value_ty (value x)) xs
entries_of_bytes key_ty value_ty key value [] = refl
entries_of_bytes key_ty value_ty key value (x ∷ xs) =
    ap (λ rest. wire_bytes key_ty (key x) ++ (wire_bytes value_ty (value x) ++ rest)) (entries_of_bytes key_ty value_ty key value xs)
    ∙ sym (append_assoc (wire_bytes key_ty (key x)) (wire_bytes value_ty (value x)) _)

pub entries_of_within : {A : Type 0} (key value : A → Wire) (depth key_ty value_ty : ℕ) → ((x : A) → Within (key x) depth key_ty) → ((x : A) → Within (value x) depth value_ty)
    → (xs : List A) → EntriesWithin (entries_of key value xs) depth key_ty value_ty
entries_of_within key value depth key_ty value_ty keys values [] = tt
entries_of_within key value depth key_ty value_ty keys values (x ∷ xs) = (keys x, values x, entries_of_within key value depth key_ty value_ty keys values xs)
