-- The trees that values are written as.
use Rattle.std.specs.Prelude.{ℕ, ℤ, pos, List, [], ◌∷◌, Option, None, Some}
use Rattle.cat_values.specs.declared.records.DbRec.{DbRec}
use Rattle.thrift_binary.specs.Codes.{map_code, text_code}
use Rattle.thrift_binary.specs.Building.{elements_of, entries_of}
use Rattle.thrift_binary.specs.Strict.{fields_bytes}
use Rattle.thrift_binary.specs.Tree.{Wire, Bytes, Items, Pairs, Fields, NoFields, Field}

-- a list of values whose trees have this code
abbrev pub items_tree : {A : Type 0} → ℕ → (A → Wire) → List A → Wire
items_tree code tree items = Items code (elements_of tree items)

-- a map of keys and values whose trees have these codes
abbrev pub pairs_tree : {K V : Type 0} → ℕ → (K → Wire) → ℕ → (V → Wire) → List (K × V) → Wire
pairs_tree key key_tree value value_tree pairs = Pairs key value (entries_of (λ pair. key_tree pair.0) (λ pair. value_tree pair.1) pairs)

-- a list of texts
abbrev pub texts_tree : List (List ℕ) → Wire
texts_tree = items_tree text_code Bytes

-- a map from texts to texts
abbrev pub params_tree : List (List ℕ × List ℕ) → Wire
params_tree = pairs_tree text_code Bytes text_code Bytes

-- a text under this id; an absent one isn't written
abbrev pub optional_text : ℤ → Option (List ℕ) → Fields
optional_text id None = NoFields
optional_text id (Some text) = Field text_code id (Bytes text) NoFields

-- ---- fields

-- a field of a struct that is to be written: its id, the code of its type, and its value, where there is one
pub record OwnField : Type 0 where
  pub id : ℤ
  pub code : ℕ
  pub value : Option Wire

-- a field that is always written
abbrev pub given : {A : Type 0} → ℤ → ℕ → (A → Wire) → A → OwnField
given id code tree value = record { id = id; code = code; value = Some (tree value) }

-- the tree of a value that may be absent
abbrev pub tree_if_any : {A : Type 0} → (A → Wire) → Option A → Option Wire
tree_if_any tree None = None
tree_if_any tree (Some value) = Some (tree value)

-- a field that is written where its value is there
abbrev pub if_any : {A : Type 0} → ℤ → ℕ → (A → Wire) → Option A → OwnField
if_any id code tree value = record { id = id; code = code; value = tree_if_any tree value }

-- a field in front of others, where its value is there
abbrev pub with_field : ℤ → ℕ → Option Wire → Fields → Fields
with_field id code None v = v
with_field id code (Some w) v = Field code id w v

-- the fields whose values are there, in their order
abbrev pub fields_of : List OwnField → Fields
fields_of [] = NoFields
fields_of (field ∷ fields) = with_field field.id field.code field.value (fields_of fields)

-- how one field is spelled
unfoldable pub field_spelled : OwnField → List ℕ
field_spelled field = fields_bytes (fields_of (field ∷ []))

-- ---- databases

-- a database: 1 the name, 2 the description, 3 the location, 4 the parameters, 6 the owner
abbrev pub database_written : List ℕ → DbRec → List OwnField
database_written name rec =
    given (pos 1) text_code Bytes name
    ∷ if_any (pos 2) text_code Bytes rec.description
    ∷ if_any (pos 3) text_code Bytes rec.location
    ∷ given (pos 4) map_code params_tree rec.params
    ∷ if_any (pos 6) text_code Bytes rec.owner
    ∷ []

-- the fields that are there of a database
abbrev pub database_fields : List ℕ → DbRec → Fields
database_fields name rec = fields_of (database_written name rec)
