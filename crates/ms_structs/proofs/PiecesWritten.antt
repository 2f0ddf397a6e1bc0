-- Items that are written one behind the other.
use Rattle.std.proofs.Common.{◌≡◌, ℕ, ℤ, List, [], ◌∷◌, ◌++◌, length, Option, Some, None, Result, Ok, Err, refl, sym, ap, ◌∙◌, flat_map, append_assoc, append-nil}
use Rattle.thrift_binary.specs.Codes.{list_code, map_code, stop_code, struct_code}
use Rattle.thrift_binary.specs.Sending.{Gathers}
use Rattle.thrift_binary.specs.Strict.{wire_bytes, fields_bytes, field_bytes, list_bytes, map_bytes}
use Rattle.thrift_binary.specs.Tree.{Wire, Struct, Fields, NoFields, elements_count, entries_count}
use Rattle.thrift_binary.specs.Building.{elements_of, entries_of}
use Rattle.thrift_binary.proofs.Building.{elements_of_count, elements_of_bytes, entries_of_count, entries_of_bytes}
use Rattle.ms_structs.specs.Written.{OwnField, field_spelled, fields_of, given, if_any, items_tree, pairs_tree, with_field}

-- some of the items were written, and these are left
pub record SomeOf {A : Type 0} (f : A → List ℕ) (all left : List A) (old now : List ℕ) : Type 0 where
  pub done : List ℕ
  pub written : now ≡ old ++ done
  pub whole : done ++ flat_map f left ≡ flat_map f all

pub some_none : {A : Type 0} (f : A → List ℕ) (all : List A) (old : List ℕ) → SomeOf f all all old old
some_none f all old = record { done = []; written = sym (append-nil old); whole = refl }

pub some_more : {A : Type 0} (f : A → List ℕ) (all left : List A) (x : A) (old now new : List ℕ) → SomeOf f all (x ∷ left) old now → new ≡ now ++ f x → SomeOf f all left old new
some_more f all left x old now new so is = record {
  done = so.done ++ f x;
  written = is ∙ ap (λ w. w ++ f x) so.written ∙ append_assoc old so.done (f x);
  whole = append_assoc so.done (f x) (flat_map f left) ∙ so.whole;
}

pub some_all : {A : Type 0} (f : A → List ℕ) (all : List A) (old now : List ℕ) → SomeOf f all [] old now → now ≡ old ++ flat_map f all
some_all f all old now so = so.written ∙ ap (λ d. old ++ d) (sym (append-nil so.done) ∙ so.whole)

-- a piece behind a piece that was gathered
pub gathers_then : {T E : Type 0} (result : Result T E) (old mid new a b : List ℕ) → mid ≡ old ++ a → Gathers mid new result b → Gathers old new result (a ++ b)
gathers_then (Ok x) old mid new a b first second = second ∙ ap (λ w. w ++ b) first ∙ append_assoc old a b
gathers_then (Err e) old mid new a b first second = (a ++ second.0, second.1 ∙ ap (λ w. w ++ second.0) first ∙ append_assoc old a second.0)

pub gathers_as : {T E : Type 0} (result : Result T E) (old new a b : List ℕ) → a ≡ b → Gathers old new result a → Gathers old new result b
gathers_as (Ok x) old new a b same h = h ∙ ap (λ w. old ++ w) same
gathers_as (Err e) old new a b same h = h

-- a list of values, and a map of them
pub list_written : {A T E : Type 0} (result : Result T E) (code n : ℕ) (tree : A → Wire) (items : List A) (old mid new : List ℕ) → n ≡ length items → mid ≡ old ++ list_bytes code n
    → Gathers mid new result (flat_map (λ item. wire_bytes code (tree item)) items) → Gathers old new result (wire_bytes list_code (items_tree code tree items))
list_written result code n tree items old mid new count head rest =
    gathers_then result old mid new (list_bytes code (elements_count (elements_of tree items))) _ (head ∙ ap (λ k. old ++ list_bytes code k) (count ∙ sym (elements_of_count tree items)))
    (gathers_as result mid new _ _ (sym (elements_of_bytes code tree items)) rest)

pub map_written : {K V T E : Type 0} (result : Result T E) (key value n : ℕ) (key_tree : K → Wire) (value_tree : V → Wire) (pairs : List (K × V)) (old mid new : List ℕ) → n ≡ length pairs → mid ≡ old ++ map_bytes key value n
    → Gathers mid new result (flat_map (λ pair. wire_bytes key (key_tree pair.0) ++ wire_bytes value (value_tree pair.1)) pairs) → Gathers old new result (wire_bytes map_code (pairs_tree key key_tree value value_tree pairs))
map_written {K} {V} result key value n key_tree value_tree pairs old mid new count head rest =
    let keys : K × V → Wire = λ pair. key_tree pair.0 in
    let values : K × V → Wire = λ pair. value_tree pair.1 in
    gathers_then result old mid new (map_bytes key value (entries_count (entries_of keys values pairs))) _ (head ∙ ap (λ k. old ++ map_bytes key value k) (count ∙ sym (entries_of_count keys values pairs)))
    (gathers_as result mid new _ _ (sym (entries_of_bytes key value keys values pairs)) rest)

-- ---- structs

-- a field is its head and its value, and nothing where its value isn't there
pub field_written : {A T E : Type 0} (result : Result T E) (id : ℤ) (code : ℕ) (tree : A → Wire) (value : A) (old mid new : List ℕ) → mid ≡ old ++ field_bytes code id
    → Gathers mid new result (wire_bytes code (tree value)) → Gathers old new result (field_spelled (given id code tree value))
unfolding field_spelled
field_written result id code tree value old mid new head rest =
    gathers_then result old mid new (field_bytes code id) (wire_bytes code (tree value) ++ []) head (gathers_as result mid new _ _ (sym (append-nil (wire_bytes code (tree value)))) rest)

pub nothing_written : {A : Type 0} (id : ℤ) (code : ℕ) (tree : A → Wire) (old : List ℕ) → old ≡ old ++ field_spelled (if_any id code tree None)
unfolding field_spelled
nothing_written id code tree old = sym (append-nil old)

-- how fields are spelled, one behind the other, and the end of their struct
abbrev all_spelled : List OwnField → List ℕ
all_spelled [] = stop_code ∷ []
all_spelled (field ∷ fields) = field_spelled field ++ all_spelled fields

with_field_spelled : (id : ℤ) (code : ℕ) (value : Option Wire) (v : Fields) → fields_bytes (with_field id code value NoFields) ++ fields_bytes v ≡ fields_bytes (with_field id code value v)
with_field_spelled id code None v = refl
with_field_spelled id code (Some w) v = append_assoc (field_bytes code id) (wire_bytes code w ++ []) (fields_bytes v) ∙ ap (λ t. field_bytes code id ++ (t ++ fields_bytes v)) (append-nil (wire_bytes code w))

struct_spelled : (fields : List OwnField) → all_spelled fields ≡ wire_bytes struct_code (Struct (fields_of fields))
unfolding field_spelled
struct_spelled [] = refl
struct_spelled (field ∷ fields) =
    let one = fields_bytes (with_field field.id field.code field.value NoFields) in
    ap (λ t. one ++ t) (struct_spelled fields) ∙ sym (append_assoc one (fields_bytes (fields_of fields)) (stop_code ∷ [])) ∙ ap (λ t. t ++ stop_code ∷ []) (with_field_spelled field.id field.code field.value (fields_of fields))

-- the fields were written, one after the other, and behind them the end of their struct
pub data WroteAll {T E : Type 0} (result : Result T E) (new : List ℕ) : List ℕ → List OwnField → Type 0 where
  then_end : {old : List ℕ} → Gathers old new result (stop_code ∷ []) → WroteAll result new old []
  then_field : {old mid : List ℕ} {field : OwnField} {fields : List OwnField} → mid ≡ old ++ field_spelled field → WroteAll result new mid fields → WroteAll result new old (field ∷ fields)

all_gathered : {T E : Type 0} (result : Result T E) (fields : List OwnField) (old new : List ℕ) → WroteAll result new old fields → Gathers old new result (all_spelled fields)
all_gathered result [] old new (then_end h) = h
all_gathered result (field ∷ fields) old new (then_field {mid = mid} first rest) = gathers_then result old mid new (field_spelled field) (all_spelled fields) first (all_gathered result fields mid new rest)

-- so the struct was
pub struct_written : {T E : Type 0} (result : Result T E) (fields : List OwnField) (old new : List ℕ) → WroteAll result new old fields → Gathers old new result (wire_bytes struct_code (Struct (fields_of fields)))
struct_written result fields old new h = gathers_as result old new (all_spelled fields) _ (struct_spelled fields) (all_gathered result fields old new h)
