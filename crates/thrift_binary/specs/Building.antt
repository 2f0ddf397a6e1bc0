-- Trees that a writer makes piece by piece.
use Rattle.std.specs.Prelude.{List, [], ◌∷◌}
use Rattle.thrift_binary.specs.Tree.{Wire, Fields, NoFields, Field, Elements, NoElements, Element, Entries, NoEntries, Entry}

-- some fields, and behind them further ones
abbrev pub followed : Fields → Fields → Fields
followed NoFields further = further
followed (Field ty id w v) further = Field ty id w (followed v further)

-- the elements that a list's items are written as
abbrev pub elements_of : {A : Type 0} → (A → Wire) → List A → Elements
elements_of f [] = NoElements
elements_of f (x ∷ xs) = Element (f x) (elements_of f xs)

-- the pairs that a list's items are written as: of each a key and a value
abbrev pub entries_of : {A : Type 0} → (A → Wire) → (A → Wire) → List A → Entries
entries_of key value [] = NoEntries
entries_of key value (x ∷ xs) = Entry (key x) (value x) (entries_of key value xs)
