-- A value of any type is determined by the text at whose front it stands.
use Rattle.std.proofs.Common.{◌≡◌, ℕ, zero, suc, ◌+◌, ◌⊎◌, ◌==◌, if◌then◌else◌, Bool, List, [], ◌∷◌, ◌++◌, length, Option, Some, None, ℤ, refl, sym, ap, ◌∙◌, subst, append_assoc, arith, inl, inr}
use Rattle.thrift_binary.specs.Taking.{Stop, Large}
use Rattle.thrift_binary.specs.Tree.{Wire, Flag, Number, Eight, Bytes, Struct, Items, Pairs, Fields, NoFields, Field, Elements, NoElements, Element, Entries, NoEntries, Entry, elements_count, entries_count}
use Rattle.thrift_binary.specs.Wire.{IsThen, StopsThen, Behind, StopsShort, IsByte, IsShort, IsInt, IsLong, IsFlag, IsBody, IsString, StopsString, IsField, StopsField, IsListHead, StopsListHead, IsMapHead, StopsMapHead, IsNumber, IsWire, AreFields, AreElements, AreEntries, IsStruct, IsWidth, StopsPlain, StopsFieldsBy, StopsElementsBy, StopsEntriesBy, StopsListBy, StopsMapBy, IsNested, StopsWire}
use Rattle.thrift_binary.proofs.Determined.{Determined, determined_then, determined_by, no_proper_front}
use Rattle.thrift_binary.proofs.Walking.{AreAll, IsRow, StopsRow, determined_row, IsUntil, StopsUntil, determined_until}
use Rattle.thrift_binary.proofs.OneReading.{determined_byte, determined_short, determined_int, determined_long, determined_flag, determined_body, determined_string, determined_field, determined_list_head, determined_map_head}

-- ---- what stands one behind the other, as a list

abbrev elements_list : Elements → List Wire
elements_list NoElements = []
elements_list (Element w es) = w ∷ elements_list es

abbrev list_elements : List Wire → Elements
list_elements [] = NoElements
list_elements (w ∷ ws) = Element w (list_elements ws)

elements_back : (es : Elements) → list_elements (elements_list es) ≡ es
elements_back NoElements = refl
elements_back (Element w es) = ap (Element w) (elements_back es)

elements_length : (es : Elements) → length (elements_list es) ≡ elements_count es
elements_length NoElements = refl
elements_length (Element w es) = ap suc (elements_length es)

abbrev entries_list : Entries → List (Wire × Wire)
entries_list NoEntries = []
entries_list (Entry k w ps) = (k, w) ∷ entries_list ps

abbrev list_entries : List (Wire × Wire) → Entries
list_entries [] = NoEntries
list_entries (p ∷ ps) = Entry p.0 p.1 (list_entries ps)

entries_back : (ps : Entries) → list_entries (entries_list ps) ≡ ps
entries_back NoEntries = refl
entries_back (Entry k w ps) = ap (Entry k w) (entries_back ps)

entries_length : (ps : Entries) → length (entries_list ps) ≡ entries_count ps
entries_length NoEntries = refl
entries_length (Entry k w ps) = ap suc (entries_length ps)

-- a field: its type and id, and its value; at the end of a struct neither
abbrev FieldAndValue : Type 0
FieldAndValue = Option (ℕ × ℤ) × Wire

abbrev fields_list : Fields → List FieldAndValue
fields_list NoFields = []
fields_list (Field ty id w v) = (Some (ty, id), w) ∷ fields_list v

abbrev field_of : FieldAndValue → Fields → Fields
field_of (None, w) v = v
field_of (Some field, w) v = Field field.0 field.1 w v

abbrev list_fields : List FieldAndValue → Fields
list_fields [] = NoFields
list_fields (f ∷ fs) = field_of f (list_fields fs)

fields_back : (v : Fields) → list_fields (fields_list v) ≡ v
fields_back NoFields = refl
fields_back (Field ty id w v) = ap (Field ty id w) (fields_back v)

-- Values one deeper are determined: so are rows of them.
module _ (depth : ℕ) (inner : (ty : ℕ) → Determined (λ (w : Wire). IsWire w depth ty) (StopsWire depth ty)) where
  -- ---- elements
  are_elements : (es : Elements) (ty at : ℕ) (x : List ℕ) → AreElements es depth ty x → AreAll (λ (_ : ℕ) (w : Wire). IsWire w depth ty) at (elements_list es) x
  are_elements NoElements ty at x p = p
  are_elements (Element w es) ty at x p = (p.0, p.1, p.2, p.3, are_elements es ty (at + length p.0) p.1 p.4)

  determined_elements : (ty n : ℕ) → Determined (λ (es : Elements) x. AreElements es depth ty x × (elements_count es ≡ n)) (StopsElementsBy (StopsWire depth) depth ty n)
  determined_elements ty n =
      determined_by (IsRow (λ (w : Wire). IsWire w depth ty) (StopsWire depth ty) n) (StopsRow (λ (w : Wire). IsWire w depth ty) (StopsWire depth ty) n)
      (λ es x. AreElements es depth ty x × (elements_count es ≡ n)) (StopsElementsBy (StopsWire depth) depth ty n) (λ es ws. ws ≡ elements_list es)
      (determined_row (λ (w : Wire). IsWire w depth ty) (StopsWire depth ty) (inner ty) n)
      (λ es x p. (elements_list es, (are_elements es ty 0 x p.0, elements_length es ∙ p.1), refl))
      (λ c d a p q. sym (elements_back c) ∙ ap list_elements (sym p ∙ q) ∙ elements_back d)
      (λ s x p. (elements_list p.0, p.1, p.2, p.3, p.4, are_elements p.0 ty 0 p.1 p.5, omega (arith, elements_length p.0, p.6), p.7, p.8))

  -- ---- pairs
  abbrev IsPair : ℕ → ℕ → Wire × Wire → List ℕ → Type 0
  IsPair key value p = IsThen (λ (w : Wire). IsWire w depth key) (λ (_ : Wire) (w : Wire). IsWire w depth value) p.0 p.1

  abbrev StopsPair : ℕ → ℕ → Stop → List ℕ → Type 0
  StopsPair key value = StopsThen (λ (w : Wire). IsWire w depth key) (StopsWire depth key) (λ (_ : Wire). StopsWire depth value)

  determined_pair : (key value : ℕ) → Determined (IsPair key value) (StopsPair key value)
  determined_pair key value =
      determined_then (λ (w : Wire). IsWire w depth key) (StopsWire depth key) (λ (_ : Wire) (w : Wire). IsWire w depth value) (λ (_ : Wire). StopsWire depth value) (inner key) (λ _. inner value)

  are_entries : (ps : Entries) (key value at : ℕ) (x : List ℕ) → AreEntries ps depth key value x → AreAll (λ (_ : ℕ). IsPair key value) at (entries_list ps) x
  are_entries NoEntries key value at x p = p
  are_entries (Entry k w ps) key value at x p =
      (p.0 ++ p.1, p.2, p.3 ∙ sym (append_assoc p.0 p.1 p.2), (p.0, p.1, refl, p.4, p.5), are_entries ps key value (at + length (p.0 ++ p.1)) p.2 p.6)

  determined_entries : (key value n : ℕ) → Determined (λ (ps : Entries) x. AreEntries ps depth key value x × (entries_count ps ≡ n)) (StopsEntriesBy (StopsWire depth) depth key value n)
  determined_entries key value n =
      determined_by (IsRow (IsPair key value) (StopsPair key value) n) (StopsRow (IsPair key value) (StopsPair key value) n)
      (λ ps x. AreEntries ps depth key value x × (entries_count ps ≡ n)) (StopsEntriesBy (StopsWire depth) depth key value n) (λ ps ws. ws ≡ entries_list ps)
      (determined_row (IsPair key value) (StopsPair key value) (determined_pair key value) n)
      (λ ps x p. (entries_list ps, (are_entries ps key value 0 x p.0, entries_length ps ∙ p.1), refl))
      (λ c d a p q. sym (entries_back c) ∙ ap list_entries (sym p ∙ q) ∙ entries_back d)
      (λ s x p. (entries_list p.0, p.1, p.2, p.3, p.4, are_entries p.0 key value 0 p.1 p.5, omega (arith, entries_length p.0, p.6), p.7, p.8))

  -- ---- fields
  abbrev ValueBehind : Option (ℕ × ℤ) → Wire → List ℕ → Type 0
  ValueBehind None w x = (w ≡ Bytes []) × (x ≡ [])
  ValueBehind (Some field) w x = IsWire w depth field.0 x

  abbrev StopsBehind : Option (ℕ × ℤ) → Stop → List ℕ → Type 0
  StopsBehind = Behind (λ field. StopsWire depth field.0)

  determined_behind : (field : Option (ℕ × ℤ)) → Determined (ValueBehind field) (StopsBehind field)
  determined_behind None =
      record {
        one = (λ a b x y u v p q e. (p.0 ∙ sym q.0, p.1 ∙ sym q.1));
        hinders = (λ s a x y u v none q e. absurd none);
        agree = (λ s t x y u v none q e. absurd none);
      }
  determined_behind (Some field) = inner field.0

  abbrev IsItem : FieldAndValue → List ℕ → Type 0
  IsItem f = IsThen IsField ValueBehind f.0 f.1

  abbrev StopsItem : Stop → List ℕ → Type 0
  StopsItem = StopsThen IsField StopsField StopsBehind

  determined_item : Determined IsItem StopsItem
  determined_item = determined_then IsField StopsField ValueBehind StopsBehind determined_field determined_behind

  abbrev NotTheEnd : FieldAndValue → Type 0
  NotTheEnd (None, w) = ⊥
  NotTheEnd (Some field, w) = Unit {0}

  abbrev the_end : FieldAndValue
  the_end = (None, Bytes [])

  abbrev AreItems : ℕ → List FieldAndValue → List ℕ → Type 0
  AreItems = AreAll (λ (_ : ℕ) (f : FieldAndValue) (y : List ℕ). IsItem f y × NotTheEnd f)

  are_fields : (v : Fields) (at : ℕ) (x : List ℕ) → AreFields v depth x → AreItems at (fields_list v) x
  are_fields NoFields at x p = p
  are_fields (Field ty id w v) at x p =
      (p.0 ++ p.1, p.2, p.3 ∙ sym (append_assoc p.0 p.1 p.2), ((p.0, p.1, refl, p.4, p.5), tt), are_fields v (at + length (p.0 ++ p.1)) p.2 p.6)

  determined_struct : Determined (IsStruct depth) (StopsFieldsBy (StopsWire depth) depth)
  determined_struct =
      determined_by (IsUntil IsItem StopsItem NotTheEnd the_end) (StopsUntil IsItem StopsItem NotTheEnd the_end) (IsStruct depth) (StopsFieldsBy (StopsWire depth) depth) (λ v fs. fs ≡ fields_list v)
      (determined_until IsItem StopsItem NotTheEnd the_end determined_item (λ goes. goes))
      (λ v x p. (fields_list v, (p.0, 0 ∷ [], p.1, are_fields v 0 p.0 p.2, (0 ∷ [], [], refl, refl, (refl, refl))), refl))
      (λ c d a p q. sym (fields_back c) ∙ ap list_fields (sym p ∙ q) ∙ fields_back d)
      (λ s x p. (fields_list p.0, p.1, p.2, p.3, p.4, are_fields p.0 0 p.1 p.5, p.6, p.7))

  -- ---- collections, with their heads
  abbrev IsList : (ℕ × ℕ) × Elements → List ℕ → Type 0
  IsList a = IsThen {A = ℕ × ℕ} {B = Elements} (λ head. IsListHead head.0 head.1) (λ head es x. AreElements es depth head.0 x × (elements_count es ≡ head.1)) a.0 a.1

  determined_list : Determined IsList (StopsListBy (StopsWire depth) depth)
  determined_list =
      determined_then {A = ℕ × ℕ} {B = Elements} (λ head. IsListHead head.0 head.1) StopsListHead (λ head es x. AreElements es depth head.0 x × (elements_count es ≡ head.1)) (λ head. StopsElementsBy (StopsWire depth) depth head.0 head.1)
      determined_list_head (λ head. determined_elements head.0 head.1)

  abbrev IsMap : (ℕ × ℕ × ℕ) × Entries → List ℕ → Type 0
  IsMap a = IsThen {A = ℕ × ℕ × ℕ} {B = Entries} (λ head. IsMapHead head.0 head.1 head.2) (λ head ps x. AreEntries ps depth head.0 head.1 x × (entries_count ps ≡ head.2)) a.0 a.1

  determined_map : Determined IsMap (StopsMapBy (StopsWire depth) depth)
  determined_map =
      determined_then {A = ℕ × ℕ × ℕ} {B = Entries} (λ head. IsMapHead head.0 head.1 head.2) StopsMapHead (λ head ps x. AreEntries ps depth head.0 head.1 x × (entries_count ps ≡ head.2)) (λ head. StopsEntriesBy (StopsWire depth) depth head.0 head.1 head.2)
      determined_map_head (λ head. determined_entries head.0 head.1 head.2)

-- ---- values by the sorts of their types

data Sort : Type 0 where
  Flags : Sort
  Octets : Sort
  Shorts : Sort
  Ints : Sort
  Longs : Sort
  Eights : Sort
  Texts : Sort
  Structs : Sort
  Lists : Sort
  Maps : Sort
  Unknown : Sort

abbrev sort_of : ℕ → Sort
sort_of ty =
    if ty == 2 then Flags else (if ty == 3 then Octets else (if ty == 4 then Eights else (if ty == 6 then Shorts else (if ty == 8 then Ints else (if ty == 10 then Longs else (
    if ty == 11 then Texts else (if ty == 12 then Structs else (if ty == 13 then Maps else (if ty == 14 then Lists else (if ty == 15 then Lists else Unknown))))))))))

-- a value of such a sort, which may open so many
abbrev OfSort : Sort → ℕ → Wire → List ℕ → Type 0
OfSort Flags depth w x = (value : Bool) × IsFlag value x × (w ≡ Flag value)
OfSort Octets depth w x = (n : ℤ) × IsByte n x × (w ≡ Number n)
OfSort Shorts depth w x = (n : ℤ) × IsShort n x × (w ≡ Number n)
OfSort Ints depth w x = (n : ℤ) × IsInt n x × (w ≡ Number n)
OfSort Longs depth w x = (n : ℤ) × IsLong n x × (w ≡ Number n)
OfSort Eights depth w x = (body : List ℕ) × IsBody 8 body x × (w ≡ Eight body)
OfSort Texts depth w x = (body : List ℕ) × IsString body x × (w ≡ Bytes body)
OfSort Structs zero w x = ⊥
OfSort Structs (suc under) w x = (v : Fields) × IsStruct under v x × (w ≡ Struct v)
OfSort Lists zero w x = ⊥
OfSort Lists (suc under) w x = (a : (ℕ × ℕ) × Elements) × IsThen {A = ℕ × ℕ} {B = Elements} (λ head. IsListHead head.0 head.1) (λ head es y. AreElements es under head.0 y × (elements_count es ≡ head.1)) a.0 a.1 x × (w ≡ Items a.0.0 a.1)
OfSort Maps zero w x = ⊥
OfSort Maps (suc under) w x = (a : (ℕ × ℕ × ℕ) × Entries) × IsThen {A = ℕ × ℕ × ℕ} {B = Entries} (λ head. IsMapHead head.0 head.1 head.2) (λ head ps y. AreEntries ps under head.0 head.1 y × (entries_count ps ≡ head.2)) a.0 a.1 x × (w ≡ Pairs a.0.0 a.0.1 a.1)
OfSort Unknown depth w x = ⊥

-- one that is too deep stops before its first byte
abbrev TooDeep : Stop → List ℕ → Type 0
TooDeep s x = (x ≡ []) × (s ≡ Large 0)

abbrev StopsSort : Sort → ℕ → Stop → List ℕ → Type 0
StopsSort Flags depth = StopsShort 1
StopsSort Octets depth = StopsShort 1
StopsSort Shorts depth = StopsShort 2
StopsSort Ints depth = StopsShort 4
StopsSort Longs depth = StopsShort 8
StopsSort Eights depth = StopsShort 8
StopsSort Texts depth = StopsString
StopsSort Structs zero = TooDeep
StopsSort Structs (suc under) = StopsFieldsBy (StopsWire under) under
StopsSort Lists zero = TooDeep
StopsSort Lists (suc under) = StopsListBy (StopsWire under) under
StopsSort Maps zero = TooDeep
StopsSort Maps (suc under) = StopsMapBy (StopsWire under) under
StopsSort Unknown depth = λ s x. ⊥

number_sort : (n : ℤ) (depth ty : ℕ) (x : List ℕ) → IsNumber ty n x → OfSort (sort_of ty) depth (Number n) x
number_sort n depth ty x (inl h) = subst (λ t. OfSort (sort_of t) depth (Number n) x) (sym h.0) (n, h.1, refl)
number_sort n depth ty x (inr (inl h)) = subst (λ t. OfSort (sort_of t) depth (Number n) x) (sym h.0) (n, h.1, refl)
number_sort n depth ty x (inr (inr (inl h))) = subst (λ t. OfSort (sort_of t) depth (Number n) x) (sym h.0) (n, h.1, refl)
number_sort n depth ty x (inr (inr (inr h))) = subst (λ t. OfSort (sort_of t) depth (Number n) x) (sym h.0) (n, h.1, refl)

struct_sort : (v : Fields) (depth under : ℕ) (x : List ℕ) → depth ≡ suc under → IsStruct under v x → OfSort Structs depth (Struct v) x
struct_sort v depth under x is p = subst (λ d. OfSort Structs d (Struct v) x) (sym is) (v, p, refl)

list_sort : (ty : ℕ) (es : Elements) (depth under : ℕ) (x front rest : List ℕ) → depth ≡ suc under → x ≡ front ++ rest → IsListHead ty (elements_count es) front → AreElements es under ty rest → OfSort Lists depth (Items ty es) x
list_sort ty es depth under x front rest is p head all = subst (λ d. OfSort Lists d (Items ty es) x) (sym is) (((ty, elements_count es), es), (front, rest, p, head, (all, refl)), refl)

map_sort : (key value : ℕ) (ps : Entries) (depth under : ℕ) (x front rest : List ℕ) → depth ≡ suc under → x ≡ front ++ rest → IsMapHead key value (entries_count ps) front → AreEntries ps under key value rest → OfSort Maps depth (Pairs key value ps) x
map_sort key value ps depth under x front rest is p head all = subst (λ d. OfSort Maps d (Pairs key value ps) x) (sym is) (((key, value, entries_count ps), ps), (front, rest, p, head, (all, refl)), refl)

list_code : (depth ty : ℕ) (w : Wire) (x : List ℕ) → (ty ≡ 14) ⊎ (ty ≡ 15) → OfSort Lists depth w x → OfSort (sort_of ty) depth w x
list_code depth ty w x (inl is) p = subst (λ t. OfSort (sort_of t) depth w x) (sym is) p
list_code depth ty w x (inr is) p = subst (λ t. OfSort (sort_of t) depth w x) (sym is) p

wire_sort : (w : Wire) (depth ty : ℕ) (x : List ℕ) → IsWire w depth ty x → OfSort (sort_of ty) depth w x
wire_sort (Flag value) depth ty x p = subst (λ t. OfSort (sort_of t) depth (Flag value) x) (sym p.0) (value, p.1, refl)
wire_sort (Number n) depth ty x p = number_sort n depth ty x p
wire_sort (Eight body) depth ty x p = subst (λ t. OfSort (sort_of t) depth (Eight body) x) (sym p.0) (body, p.1, refl)
wire_sort (Bytes body) depth ty x p = subst (λ t. OfSort (sort_of t) depth (Bytes body) x) (sym p.0) (body, p.1, refl)
wire_sort (Struct v) depth ty x p = subst (λ t. OfSort (sort_of t) depth (Struct v) x) (sym p.0) (struct_sort v depth p.1 x p.2 (p.3, p.4, p.5))
wire_sort (Items of es) depth ty x p = list_code depth ty (Items of es) x p.0 (list_sort of es depth p.1 x p.3 p.4 p.2 p.5 p.6 p.7)
wire_sort (Pairs key value ps) depth ty x p = subst (λ t. OfSort (sort_of t) depth (Pairs key value ps) x) (sym p.0) (map_sort key value ps depth p.1 x p.3 p.4 p.2 p.5 p.6 p.7)

width_sort : (depth ty n : ℕ) (s : Stop) (x : List ℕ) → IsWidth ty n → StopsShort n s x → StopsSort (sort_of ty) depth s x
width_sort depth ty n s x (inl h) p = subst (λ t. StopsSort (sort_of t) depth s x) (sym h.0) (subst (λ k. StopsShort k s x) h.1 p)
width_sort depth ty n s x (inr (inl h)) p = subst (λ t. StopsSort (sort_of t) depth s x) (sym h.0) (subst (λ k. StopsShort k s x) h.1 p)
width_sort depth ty n s x (inr (inr (inl h))) p = subst (λ t. StopsSort (sort_of t) depth s x) (sym h.0) (subst (λ k. StopsShort k s x) h.1 p)
width_sort depth ty n s x (inr (inr (inr (inl h)))) p = subst (λ t. StopsSort (sort_of t) depth s x) (sym h.0) (subst (λ k. StopsShort k s x) h.1 p)
width_sort depth ty n s x (inr (inr (inr (inr (inl h))))) p = subst (λ t. StopsSort (sort_of t) depth s x) (sym h.0) (subst (λ k. StopsShort k s x) h.1 p)
width_sort depth ty n s x (inr (inr (inr (inr (inr h))))) p = subst (λ t. StopsSort (sort_of t) depth s x) (sym h.0) (subst (λ k. StopsShort k s x) h.1 p)

plain_sort : (depth ty : ℕ) (s : Stop) (x : List ℕ) → StopsPlain ty s x → StopsSort (sort_of ty) depth s x
plain_sort depth ty s x (inl h) = width_sort depth ty h.0 s x h.1 h.2
plain_sort depth ty s x (inr h) = subst (λ t. StopsSort (sort_of t) depth s x) (sym h.0) h.1

deep_sort : (ty : ℕ) (s : Stop) (x : List ℕ) → IsNested ty → TooDeep s x → StopsSort (sort_of ty) zero s x
deep_sort ty s x (inl is) p = subst (λ t. StopsSort (sort_of t) zero s x) (sym is) p
deep_sort ty s x (inr (inl is)) p = subst (λ t. StopsSort (sort_of t) zero s x) (sym is) p
deep_sort ty s x (inr (inr (inl is))) p = subst (λ t. StopsSort (sort_of t) zero s x) (sym is) p
deep_sort ty s x (inr (inr (inr is))) p = subst (λ t. StopsSort (sort_of t) zero s x) (sym is) p

list_stop_sort : (under ty : ℕ) (s : Stop) (x : List ℕ) → (ty ≡ 14) ⊎ (ty ≡ 15) → StopsListBy (StopsWire under) under s x → StopsSort (sort_of ty) (suc under) s x
list_stop_sort under ty s x (inl is) p = subst (λ t. StopsSort (sort_of t) (suc under) s x) (sym is) p
list_stop_sort under ty s x (inr is) p = subst (λ t. StopsSort (sort_of t) (suc under) s x) (sym is) p

stop_sort : (depth ty : ℕ) (s : Stop) (x : List ℕ) → StopsWire depth ty s x → StopsSort (sort_of ty) depth s x
stop_sort zero ty s x (inl p) = plain_sort zero ty s x p
stop_sort zero ty s x (inr p) = deep_sort ty s x p.0 (p.1, p.2)
stop_sort (suc under) ty s x (inl p) = plain_sort (suc under) ty s x p
stop_sort (suc under) ty s x (inr (inl p)) = subst (λ t. StopsSort (sort_of t) (suc under) s x) (sym p.0) p.1
stop_sort (suc under) ty s x (inr (inr (inl p))) = list_stop_sort under ty s x p.0 p.1
stop_sort (suc under) ty s x (inr (inr (inr p))) = subst (λ t. StopsSort (sort_of t) (suc under) s x) (sym p.0) p.1

-- ---- each sort is determined

-- a value that is told by its parts
told : {A : Type 0} (P : A → List ℕ → Type 0) (S : Stop → List ℕ → Type 0) (made : A → Wire) → Determined P S → Determined (λ (w : Wire) x. (a : A) × P a x × (w ≡ made a)) S
told {A} P S made d = determined_by P S (λ (w : Wire) x. (a : A) × P a x × (w ≡ made a)) S (λ w a. w ≡ made a) d (λ w x p. p) (λ c d a p q. p ∙ sym q) (λ s x p. p)

nothing : (S : Stop → List ℕ → Type 0) → ((s t : Stop) (x y : List ℕ) → S s x → S t y → s ≡ t) → Determined (λ (_ : Wire) (_ : List ℕ). ⊥) S
nothing S same = record {
  one = (λ a b x y u v none q e. absurd none);
  hinders = (λ s a x y u v p none e. absurd none);
  agree = (λ s t x y u v p q e. inl (same s t x y p q));
}

deep_same : (s t : Stop) (x y : List ℕ) → TooDeep s x → TooDeep t y → s ≡ t
deep_same s t x y p q = p.1 ∙ sym q.1

sort_zero : (sort : Sort) → Determined (OfSort sort zero) (StopsSort sort zero)
sort_zero Flags = told IsFlag (StopsShort 1) Flag determined_flag
sort_zero Octets = told IsByte (StopsShort 1) Number determined_byte
sort_zero Shorts = told IsShort (StopsShort 2) Number determined_short
sort_zero Ints = told IsInt (StopsShort 4) Number determined_int
sort_zero Longs = told IsLong (StopsShort 8) Number determined_long
sort_zero Eights = told (IsBody 8) (StopsShort 8) Eight (determined_body 8)
sort_zero Texts = told IsString StopsString Bytes determined_string
sort_zero Structs = nothing TooDeep deep_same
sort_zero Lists = nothing TooDeep deep_same
sort_zero Maps = nothing TooDeep deep_same
sort_zero Unknown = nothing (λ s x. ⊥) (λ s t x y none q. absurd none)

sort_suc : (under : ℕ) → ((ty : ℕ) → Determined (λ (w : Wire). IsWire w under ty) (StopsWire under ty)) → (sort : Sort) → Determined (OfSort sort (suc under)) (StopsSort sort (suc under))
sort_suc under inner Flags = told IsFlag (StopsShort 1) Flag determined_flag
sort_suc under inner Octets = told IsByte (StopsShort 1) Number determined_byte
sort_suc under inner Shorts = told IsShort (StopsShort 2) Number determined_short
sort_suc under inner Ints = told IsInt (StopsShort 4) Number determined_int
sort_suc under inner Longs = told IsLong (StopsShort 8) Number determined_long
sort_suc under inner Eights = told (IsBody 8) (StopsShort 8) Eight (determined_body 8)
sort_suc under inner Texts = told IsString StopsString Bytes determined_string
sort_suc under inner Structs = told (IsStruct under) (StopsFieldsBy (StopsWire under) under) Struct (determined_struct under inner)
sort_suc under inner Lists = told (IsList under inner) (StopsListBy (StopsWire under) under) (λ a. Items a.0.0 a.1) (determined_list under inner)
sort_suc under inner Maps = told (IsMap under inner) (StopsMapBy (StopsWire under) under) (λ a. Pairs a.0.0 a.0.1 a.1) (determined_map under inner)
sort_suc under inner Unknown = nothing (λ s x. ⊥) (λ s t x y none q. absurd none)

by_sort : (depth ty : ℕ) → Determined (OfSort (sort_of ty) depth) (StopsSort (sort_of ty) depth) → Determined (λ (w : Wire). IsWire w depth ty) (StopsWire depth ty)
by_sort depth ty d =
    determined_by (OfSort (sort_of ty) depth) (StopsSort (sort_of ty) depth) (λ (w : Wire). IsWire w depth ty) (StopsWire depth ty) (λ w a. w ≡ a) d
    (λ w x p. (w, wire_sort w depth ty x p, refl))
    (λ c d a p q. p ∙ sym q)
    (stop_sort depth ty)

pub determined_wire : (depth ty : ℕ) → Determined (λ (w : Wire). IsWire w depth ty) (StopsWire depth ty)
determined_wire zero ty = by_sort zero ty (sort_zero (sort_of ty))
determined_wire (suc under) ty = by_sort (suc under) ty (sort_suc under (determined_wire under) (sort_of ty))

-- a struct's own fields
pub determined_arguments : (depth : ℕ) → Determined (λ (v : Fields). IsWire (Struct v) depth 12) (StopsWire depth 12)
determined_arguments depth =
    determined_by (λ (w : Wire). IsWire w depth 12) (StopsWire depth 12) (λ (v : Fields). IsWire (Struct v) depth 12) (StopsWire depth 12) (λ v w. w ≡ Struct v) (determined_wire depth 12)
    (λ v x p. (Struct v, p, refl))
    (λ c d w p q. ap fields_of (sym p ∙ q))
    (λ s x p. p)
  where
    fields_of : Wire → Fields
    fields_of (Struct v) = v
    fields_of w = NoFields

-- ---- where more may be open, the spellings are the same

mutual
  deeper : (w : Wire) (depth k ty : ℕ) (x : List ℕ) → IsWire w depth ty x → IsWire w (depth + k) ty x
  deeper (Flag value) depth k ty x p = p
  deeper (Number n) depth k ty x p = p
  deeper (Eight body) depth k ty x p = p
  deeper (Bytes body) depth k ty x p = p
  deeper (Struct v) depth k ty x p = (p.0, p.1 + k, omega (arith, p.2), p.3, p.4, deeper_fields v p.1 k p.3 p.5)
  deeper (Items of es) depth k ty x p = (p.0, p.1 + k, omega (arith, p.2), p.3, p.4, p.5, p.6, deeper_elements es p.1 k of p.4 p.7)
  deeper (Pairs key value ps) depth k ty x p = (p.0, p.1 + k, omega (arith, p.2), p.3, p.4, p.5, p.6, deeper_entries ps p.1 k key value p.4 p.7)

  deeper_fields : (v : Fields) (depth k : ℕ) (x : List ℕ) → AreFields v depth x → AreFields v (depth + k) x
  deeper_fields NoFields depth k x p = p
  deeper_fields (Field ty id w v) depth k x p = (p.0, p.1, p.2, p.3, p.4, deeper w depth k ty p.1 p.5, deeper_fields v depth k p.2 p.6)

  deeper_elements : (es : Elements) (depth k ty : ℕ) (x : List ℕ) → AreElements es depth ty x → AreElements es (depth + k) ty x
  deeper_elements NoElements depth k ty x p = p
  deeper_elements (Element w es) depth k ty x p = (p.0, p.1, p.2, deeper w depth k ty p.0 p.3, deeper_elements es depth k ty p.1 p.4)

  deeper_entries : (ps : Entries) (depth k key value : ℕ) (x : List ℕ) → AreEntries ps depth key value x → AreEntries ps (depth + k) key value x
  deeper_entries NoEntries depth k key value x p = p
  deeper_entries (Entry a b ps) depth k key value x p = (p.0, p.1, p.2, p.3, deeper a depth k key p.0 p.4, deeper b depth k value p.1 p.5, deeper_entries ps depth k key value p.2 p.6)

-- however deep two values stand
pub one_wire : (depth other ty : ℕ) (v w : Wire) (x more : List ℕ) → IsWire v depth ty x → IsWire w other ty (x ++ more) → (more ≡ []) × (v ≡ w)
one_wire depth other ty v w x more p q =
    let both : other + depth ≡ depth + other = omega arith in
    no_proper_front (λ (a : Wire). IsWire a (depth + other) ty) (StopsWire (depth + other) ty) (determined_wire (depth + other) ty) v w x more
    (deeper v depth other ty x p)
    (subst (λ d. IsWire w d ty (x ++ more)) both (deeper w other depth ty (x ++ more) q))
