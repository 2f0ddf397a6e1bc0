-- A value on the wire, as a tree.
use Rattle.std.specs.Prelude.{Bool, ℕ, zero, suc, ℤ, List}

mutual
  pub data Wire : Type 0 where
    -- a bool: true exactly where its byte is 1
    Flag : Bool → Wire
    -- a number; its type tells of how many bytes
    Number : ℤ → Wire
    -- the eight bytes of a double
    Eight : List ℕ → Wire
    -- the bytes of a text, in UTF-8 or not
    Bytes : List ℕ → Wire
    Struct : Fields → Wire
    -- a list or a set: the type of its elements, and the elements
    Items : ℕ → Elements → Wire
    -- a map: the type of its keys, that of its values, and its pairs
    Pairs : ℕ → ℕ → Entries → Wire

  -- the fields of a struct as they came, known or not, repeated ones too: the first one's type, id and value, and the others
  pub data Fields : Type 0 where
    NoFields : Fields
    Field : ℕ → ℤ → Wire → Fields → Fields

  pub data Elements : Type 0 where
    NoElements : Elements
    Element : Wire → Elements → Elements

  pub data Entries : Type 0 where
    NoEntries : Entries
    Entry : Wire → Wire → Entries → Entries

-- how many elements, and how many pairs
abbrev pub elements_count : Elements → ℕ
elements_count NoElements = zero
elements_count (Element w es) = suc (elements_count es)

abbrev pub entries_count : Entries → ℕ
entries_count NoEntries = zero
entries_count (Entry key value ps) = suc (entries_count ps)
