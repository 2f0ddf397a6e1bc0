-- Values and their pieces, as the plain decoder takes them.
use Rattle.std.proofs.Common.{◌≡◌, ◌≢◌, ◌<◌, ◌⊎◌, inl, inr, ℕ, zero, suc, ◌+◌, ◌-◌, List, [], ◌∷◌, ◌++◌, length, Bool, Option, Some, None, ℤ, Result, Ok, Err, refl, sym, ap, ◌∙◌, subst, append_assoc, append-nil, arith}
use Rattle.std.specs.Prelude.{⊤}
use Rattle.thrift_binary.specs.Taking.{Stop, Large}
use Rattle.thrift_binary.specs.Tree.{Wire, Flag, Number, Eight, Bytes, Struct, Items, Pairs, Fields, NoFields, Field, Elements, NoElements, Element, Entries, NoEntries, Entry, elements_count, entries_count}
use Rattle.thrift_binary.specs.Wire.{StopsThen, Behind, IsBody, IsFlag, IsByte, IsShort, IsInt, IsLong, IsString, IsField, StopsField, IsListHead, StopsListHead, IsMapHead, StopsMapHead, IsWire, AreFields, AreElements, AreEntries, IsNested, StopsPlain, StopsWire, StopsFields, StopsElements, StopsEntries}
use Rattle.thrift_plain.specs.Plain.{number_token, wire_tokens, fields_tokens, elements_tokens, entries_tokens}
use Rattle.thrift_plain.specs.PlainReading.{Passed, Takes, IsPlain, ValueAdded, StructAdded, ElementsAdded, ListAdded, EntriesAdded, MapAdded, StopsList, StopsMap}
use Rattle.thrift_plain.specs.declared.plain_messages.Token.{Token}
use Rattle.thrift_plain.specs.declared.plain_messages.Token.TheVariants as token
use Rattle.thrift_plain.specs.declared.plain_reader.Halt.{Halt}
use Rattle.thrift_plain.specs.declared.plain_reader.Halt.TheVariants as told
use Rattle.thrift_plain.proofs.PlainTaking.{Faulted, passed_weaker, passed_then, fault_behind, fault_weaker, takes_weaker, fault_then}

-- ---- values that hold no others

pub plain_flag : (ty n : ℕ) (v : Bool) (body bytes : List ℕ) → ty ≡ 2 → IsFlag v body → IsBody n body bytes → IsPlain ty (token.Flag v) bytes
plain_flag ty n v body bytes is flag h = (Flag v, (λ depth. (is, subst (IsFlag v) (sym h.0) flag)), refl)

pub plain_byte : (ty n : ℕ) (z : ℤ) (body bytes : List ℕ) → ty ≡ 3 → IsByte z body → IsBody n body bytes → IsPlain ty (token.Byte z) bytes
plain_byte ty n z body bytes is number h = (Number z, (λ depth. inl (is, subst (IsByte z) (sym h.0) number)), ap (λ t. number_token t z ∷ []) is)

pub plain_short : (ty n : ℕ) (z : ℤ) (body bytes : List ℕ) → ty ≡ 6 → IsShort z body → IsBody n body bytes → IsPlain ty (token.Short z) bytes
plain_short ty n z body bytes is number h = (Number z, (λ depth. inr (inl (is, subst (IsShort z) (sym h.0) number))), ap (λ t. number_token t z ∷ []) is)

pub plain_int : (ty n : ℕ) (z : ℤ) (body bytes : List ℕ) → ty ≡ 8 → IsInt z body → IsBody n body bytes → IsPlain ty (token.Int z) bytes
plain_int ty n z body bytes is number h = (Number z, (λ depth. inr (inr (inl (is, subst (IsInt z) (sym h.0) number)))), ap (λ t. number_token t z ∷ []) is)

pub plain_long : (ty n : ℕ) (z : ℤ) (body bytes : List ℕ) → ty ≡ 10 → IsLong z body → IsBody n body bytes → IsPlain ty (token.Long z) bytes
plain_long ty n z body bytes is number h = (Number z, (λ depth. inr (inr (inr (is, subst (IsLong z) (sym h.0) number)))), ap (λ t. number_token t z ∷ []) is)

pub plain_eight : (ty : ℕ) (eight body bytes : List ℕ) → ty ≡ 4 → eight ≡ body → IsBody 8 body bytes → IsPlain ty (token.Eight eight) bytes
plain_eight ty eight body bytes is same h = (Eight eight, (λ depth. (is, subst (λ b. IsBody 8 b bytes) (sym same) h)), refl)

pub plain_text : (ty : ℕ) (text body bytes : List ℕ) → ty ≡ 11 → text ≡ body → IsString body bytes → IsPlain ty (token.Text text) bytes
plain_text ty text body bytes is same h = (Bytes text, (λ depth. (is, subst (λ b. IsString b bytes) (sym same) h)), refl)

pub value_plain : (old new : List ℕ) (before after : List Token) (piece : Token) (depth ty : ℕ) → Passed old new (IsPlain ty piece) → after ≡ before ++ piece ∷ [] → Passed old new (ValueAdded before after depth ty)
value_plain old new before after piece depth ty passed added = passed_weaker old new (IsPlain ty piece) (ValueAdded before after depth ty) (λ bytes h. (h.0, h.1 depth, added ∙ ap (λ t. before ++ t) (sym h.2))) passed

pub stops_plain : (depth ty : ℕ) (s : Stop) (bytes : List ℕ) → StopsPlain ty s bytes → StopsWire depth ty s bytes
stops_plain zero ty s bytes h = inl h
stops_plain (suc under) ty s bytes h = inl h

-- ---- values that hold others

pub too_deep : (old : List ℕ) (depth ty : ℕ) → depth ≡ 0 → IsNested ty → Faulted old (told.Large (length old)) (StopsWire depth ty)
too_deep old depth ty is nested = inl (record { front = []; more = old; stop = Large 0; parts = refl; holds = subst (λ d. StopsWire d ty (Large 0) []) (sym is) (inr (nested, refl, refl)); tells = (length old, refl, omega arith) })

stops_struct : (depth ty : ℕ) (s : Stop) (bytes : List ℕ) → depth ≢ 0 → ty ≡ 12 → StopsFields (depth - 1) s bytes → StopsWire depth ty s bytes
stops_struct zero ty s bytes some is h = absurd (some refl)
stops_struct (suc d) ty s bytes some is h = let e : suc d - 1 ≡ d = omega arith in inr (inl (is, subst (λ n. StopsFields n s bytes) e h))

stops_list : (depth ty : ℕ) (s : Stop) (bytes : List ℕ) → depth ≢ 0 → (ty ≡ 14) ⊎ (ty ≡ 15) → StopsList (depth - 1) s bytes → StopsWire depth ty s bytes
stops_list zero ty s bytes some is h = absurd (some refl)
stops_list (suc d) ty s bytes some is h = let e : suc d - 1 ≡ d = omega arith in inr (inr (inl (is, subst (λ n. StopsList n s bytes) e h)))

stops_map : (depth ty : ℕ) (s : Stop) (bytes : List ℕ) → depth ≢ 0 → ty ≡ 13 → StopsMap (depth - 1) s bytes → StopsWire depth ty s bytes
stops_map zero ty s bytes some is h = absurd (some refl)
stops_map (suc d) ty s bytes some is h = let e : suc d - 1 ≡ d = omega arith in inr (inr (inr (is, subst (λ n. StopsMap n s bytes) e h)))

below : (depth : ℕ) → depth ≢ 0 → depth ≡ suc (depth - 1)
below depth some = omega (arith, some)

module _ {U : Type 0} (old new : List ℕ) (before after : List Token) (depth ty : ℕ) (result : Result U Halt) (some : depth ≢ 0) where
  pub nested_struct : ty ≡ 12 → Takes old new result (λ _. StructAdded before after (depth - 1)) (StopsFields (depth - 1)) → Takes old new result (λ _. ValueAdded before after depth ty) (StopsWire depth ty)
  nested_struct is takes = takes_weaker old new result (λ _. StructAdded before after (depth - 1)) (λ _. ValueAdded before after depth ty) (StopsFields (depth - 1)) (StopsWire depth ty)
      (λ _ bytes h. (Struct h.0, (is, depth - 1, below depth some, h.1.0, h.1.1, h.1.2), h.2)) (λ s bytes h. stops_struct depth ty s bytes some is h) takes

  pub nested_list : (ty ≡ 14) ⊎ (ty ≡ 15) → Takes old new result (λ _. ListAdded before after (depth - 1)) (StopsList (depth - 1)) → Takes old new result (λ _. ValueAdded before after depth ty) (StopsWire depth ty)
  nested_list is takes = takes_weaker old new result (λ _. ListAdded before after (depth - 1)) (λ _. ValueAdded before after depth ty) (StopsList (depth - 1)) (StopsWire depth ty)
      (λ _ bytes h. (Items h.0 h.1, (is, depth - 1, below depth some, h.2.0, h.2.1, h.2.2, h.2.3, h.2.4), h.3)) (λ s bytes h. stops_list depth ty s bytes some is h) takes

  pub nested_map : ty ≡ 13 → Takes old new result (λ _. MapAdded before after (depth - 1)) (StopsMap (depth - 1)) → Takes old new result (λ _. ValueAdded before after depth ty) (StopsWire depth ty)
  nested_map is takes = takes_weaker old new result (λ _. MapAdded before after (depth - 1)) (λ _. ValueAdded before after depth ty) (StopsMap (depth - 1)) (StopsWire depth ty)
      (λ _ bytes h. (Pairs h.0 h.1 h.2, (is, depth - 1, below depth some, h.3.0, h.3.1, h.3.2, h.3.3, h.3.4), h.4)) (λ s bytes h. stops_map depth ty s bytes some is h) takes

-- pieces that are added behind others
added_then : (a b c x y : List Token) → b ≡ a ++ x → c ≡ b ++ y → c ≡ a ++ (x ++ y)
added_then a b c x y first second = second ∙ ap (λ t. t ++ y) first ∙ append_assoc a x y

-- ---- fields

abbrev with_field : Fields → ℕ → ℤ → Wire → Fields
with_field NoFields ty id w = Field ty id w NoFields
with_field (Field ty' id' w' v) ty id w = Field ty' id' w' (with_field v ty id w)

fields_more : (v : Fields) (depth ty : ℕ) (id : ℤ) (w : Wire) (front head value : List ℕ) → AreFields v depth front → IsField (Some (ty, id)) head → IsWire w depth ty value → AreFields (with_field v ty id w) depth (front ++ (head ++ value))
fields_more NoFields depth ty id w front head value h field is = (head, value, [], ap (λ t. t ++ (head ++ value)) h ∙ ap (λ t. head ++ t) (sym (append-nil value)), field, is, refl)
fields_more (Field ty' id' w' v) depth ty id w front head value (head', value', rest, parts, field', is', more) field is = (
  head',
  value',
  rest ++ (head ++ value),
  ap (λ t. t ++ (head ++ value)) parts ∙ append_assoc head' (value' ++ rest) (head ++ value) ∙ ap (λ t. head' ++ t) (append_assoc value' rest (head ++ value)),
  field',
  is',
  fields_more v depth ty id w rest head value more field is,
)

fields_tokens_more : (v : Fields) (ty : ℕ) (id : ℤ) (w : Wire) → fields_tokens (with_field v ty id w) ≡ fields_tokens v ++ (token.Field ty id ∷ wire_tokens ty w)
fields_tokens_more NoFields ty id w = ap (λ t. token.Field ty id ∷ t) (append-nil (wire_tokens ty w))
fields_tokens_more (Field ty' id' w' v) ty id w =
    ap (λ t. token.Field ty' id' ∷ (wire_tokens ty' w' ++ t)) (fields_tokens_more v ty id w)
    ∙ ap (λ t. token.Field ty' id' ∷ t) (sym (append_assoc (wire_tokens ty' w') (fields_tokens v) (token.Field ty id ∷ wire_tokens ty w)))

-- fields without the end of their struct
abbrev pub FieldsAdded : List Token → List Token → ℕ → List ℕ → Type 0
FieldsAdded before after depth bytes = (v : Fields) × AreFields v depth bytes × (after ≡ before ++ fields_tokens v)

pub no_fields : (old : List ℕ) (before : List Token) (depth : ℕ) → Passed old old (FieldsAdded before before depth)
no_fields old before depth = record { bytes = []; parts = refl; holds = (NoFields, refl, sym (append-nil before)) }

module _ (old mid : List ℕ) (before now : List Token) (depth : ℕ) (so_far : Passed old mid (FieldsAdded before now depth)) where
  pub struct_ended : (new : List ℕ) (after : List Token) → Passed mid new (IsField None) → after ≡ now ++ token.Stop ∷ [] → Passed old new (StructAdded before after depth)
  struct_ended new after end added = passed_then old mid new (FieldsAdded before now depth) (IsField None) (StructAdded before after depth)
      (λ front rest x y. (x.0, (front, ap (λ t. front ++ t) y, x.1), added_then before now after (fields_tokens x.0) (token.Stop ∷ []) x.2 added)) so_far end

  pub struct_fault : (halt : Halt) → Faulted mid halt (StopsThen IsField StopsField (Behind (λ field. StopsWire depth field.0))) → Faulted old halt (StopsFields depth)
  struct_fault halt stop = fault_behind old mid halt (FieldsAdded before now depth) (StopsThen IsField StopsField (Behind (λ field. StopsWire depth field.0))) (StopsFields depth)
      (λ front rest s x y. (x.0, front, rest, s, refl, x.1, refl, y)) so_far stop

  pub head_fault : (halt : Halt) → Faulted mid halt StopsField → Faulted old halt (StopsFields depth)
  head_fault halt stop = struct_fault halt (fault_weaker mid halt StopsField _ (λ s bytes h. inl h) stop)

  pub field_fault : (low : List ℕ) (ty : ℕ) (id : ℤ) (halt : Halt) → Passed mid low (IsField (Some (ty, id))) → Faulted low halt (StopsWire depth ty) → Faulted old halt (StopsFields depth)
  field_fault low ty id halt head stop =
      struct_fault halt (fault_then {A = Option (ℕ × ℤ)} {B = Wire} IsField StopsField (λ _ w. IsWire w depth ty) (Behind (λ field. StopsWire depth field.0)) mid low (Some (ty, id)) halt head stop)

  pub field_added : (low new : List ℕ) (ty : ℕ) (id : ℤ) (there after : List Token) → Passed mid low (IsField (Some (ty, id))) → there ≡ now ++ token.Field ty id ∷ [] → Passed low new (ValueAdded there after depth ty) → Passed old new (FieldsAdded before after depth)
  field_added low new ty id there after head put value =
      let field : Passed mid new (λ bytes. (head value : List ℕ) × (w : Wire) × (bytes ≡ head ++ value) × IsField (Some (ty, id)) head × IsWire w depth ty value × (after ≡ there ++ wire_tokens ty w)) =
      passed_then mid low new (IsField (Some (ty, id))) (ValueAdded there after depth ty) _ (λ front rest x y. (front, rest, y.0, refl, x, y.1, y.2)) head value in
      passed_then old mid new (FieldsAdded before now depth) _ (FieldsAdded before after depth)
      (λ front rest x y. (
        with_field x.0 ty id y.2,
        subst (λ t. AreFields (with_field x.0 ty id y.2) depth (front ++ t)) (sym y.3) (fields_more x.0 depth ty id y.2 front y.0 y.1 x.1 y.4 y.5),
        added_then before now after (fields_tokens x.0) (token.Field ty id ∷ wire_tokens ty y.2) x.2 (added_then now there after (token.Field ty id ∷ []) (wire_tokens ty y.2) put y.6) ∙ ap (λ t. before ++ t) (sym (fields_tokens_more x.0 ty id y.2)),
      ))
      so_far field

-- ---- elements

abbrev with_element : Elements → Wire → Elements
with_element NoElements w = Element w NoElements
with_element (Element w' es) w = Element w' (with_element es w)

elements_more : (es : Elements) (depth ty : ℕ) (w : Wire) (front rest : List ℕ) → AreElements es depth ty front → IsWire w depth ty rest → AreElements (with_element es w) depth ty (front ++ rest)
elements_more NoElements depth ty w front rest h is = (rest, [], ap (λ t. t ++ rest) h ∙ sym (append-nil rest), is, refl)
elements_more (Element w' es) depth ty w front rest (first, more, parts, is', others) is = (first, more ++ rest, ap (λ t. t ++ rest) parts ∙ append_assoc first more rest, is', elements_more es depth ty w more rest others is)

elements_count_more : (es : Elements) (w : Wire) → elements_count (with_element es w) ≡ suc (elements_count es)
elements_count_more NoElements w = refl
elements_count_more (Element w' es) w = ap suc (elements_count_more es w)

elements_tokens_more : (es : Elements) (ty : ℕ) (w : Wire) → elements_tokens ty (with_element es w) ≡ elements_tokens ty es ++ wire_tokens ty w
elements_tokens_more NoElements ty w = append-nil (wire_tokens ty w)
elements_tokens_more (Element w' es) ty w = ap (λ t. wire_tokens ty w' ++ t) (elements_tokens_more es ty w) ∙ sym (append_assoc (wire_tokens ty w') (elements_tokens ty es) (wire_tokens ty w))

pub no_elements : (old : List ℕ) (before : List Token) (depth ty : ℕ) → Passed old old (ElementsAdded before before depth ty 0)
no_elements old before depth ty = record { bytes = []; parts = refl; holds = (NoElements, refl, refl, sym (append-nil before)) }

module _ (old mid : List ℕ) (before now : List Token) (depth ty n : ℕ) (so_far : Passed old mid (ElementsAdded before now depth ty n)) where
  pub element_fault : (count : ℕ) (halt : Halt) → n < count → Faulted mid halt (StopsWire depth ty) → Faulted old halt (StopsElements depth ty count)
  element_fault count halt few stop = fault_behind old mid halt (ElementsAdded before now depth ty n) (StopsWire depth ty) (StopsElements depth ty count)
      (λ front rest s x y. (x.0, front, rest, s, refl, x.1, omega (arith, x.2, few), refl, y)) so_far stop

  pub element_added : (new : List ℕ) (after : List Token) → Passed mid new (ValueAdded now after depth ty) → Passed old new (ElementsAdded before after depth ty (n + 1))
  element_added new after value = passed_then old mid new (ElementsAdded before now depth ty n) (ValueAdded now after depth ty) (ElementsAdded before after depth ty (n + 1))
      (λ front rest x y. (
        with_element x.0 y.0,
        elements_more x.0 depth ty y.0 front rest x.1 y.1,
        omega (arith, elements_count_more x.0 y.0, x.2),
        added_then before now after (elements_tokens ty x.0) (wire_tokens ty y.0) x.3 y.2 ∙ ap (λ t. before ++ t) (sym (elements_tokens_more x.0 ty y.0)),
      )) so_far value

-- a head was taken, and then as many elements
pub list_whole : {U : Type 0} (old mid new : List ℕ) (before there after : List Token) (of count depth : ℕ) (result : Result U Halt) → Passed old mid (IsListHead of count) → there ≡ before ++ token.List of count ∷ []
    → Takes mid new result (λ _. ElementsAdded there after depth of count) (StopsElements depth of count) → Takes old new result (λ _. ListAdded before after depth) (StopsList depth)
list_whole old mid new before there after of count depth (Ok v) head put takes = passed_then old mid new (IsListHead of count) (ElementsAdded there after depth of count) (ListAdded before after depth)
    (λ front rest x y. (of, y.0, (front, rest, refl, subst (λ n. IsListHead of n front) (sym y.2) x, y.1), added_then before there after (token.List of count ∷ []) (elements_tokens of y.0) put y.3 ∙ ap (λ n. before ++ (token.List of n ∷ elements_tokens of y.0)) (sym y.2))) head takes
list_whole {U} old mid new before there after of count depth (Err halt) head put takes =
    fault_then {A = ℕ × ℕ} {B = U} (λ h. IsListHead h.0 h.1) StopsListHead (λ _ _ _. ⊤) (λ h. StopsElements depth h.0 h.1) old mid (of, count) halt head takes

-- ---- pairs

abbrev with_entry : Entries → Wire → Wire → Entries
with_entry NoEntries k w = Entry k w NoEntries
with_entry (Entry k' w' ps) k w = Entry k' w' (with_entry ps k w)

entries_more : (ps : Entries) (depth key value : ℕ) (k w : Wire) (front first second : List ℕ) → AreEntries ps depth key value front → IsWire k depth key first → IsWire w depth value second → AreEntries (with_entry ps k w) depth key value (front ++ (first ++ second))
entries_more NoEntries depth key value k w front first second h isk isw = (first, second, [], ap (λ t. t ++ (first ++ second)) h ∙ ap (λ t. first ++ t) (sym (append-nil second)), isk, isw, refl)
entries_more (Entry k' w' ps) depth key value k w front first second (first', second', rest, parts, isk', isw', more) isk isw = (
  first',
  second',
  rest ++ (first ++ second),
  ap (λ t. t ++ (first ++ second)) parts ∙ append_assoc first' (second' ++ rest) (first ++ second) ∙ ap (λ t. first' ++ t) (append_assoc second' rest (first ++ second)),
  isk',
  isw',
  entries_more ps depth key value k w rest first second more isk isw,
)

entries_count_more : (ps : Entries) (k w : Wire) → entries_count (with_entry ps k w) ≡ suc (entries_count ps)
entries_count_more NoEntries k w = refl
entries_count_more (Entry k' w' ps) k w = ap suc (entries_count_more ps k w)

entries_tokens_more : (ps : Entries) (key value : ℕ) (k w : Wire) → entries_tokens key value (with_entry ps k w) ≡ entries_tokens key value ps ++ (wire_tokens key k ++ wire_tokens value w)
entries_tokens_more NoEntries key value k w = ap (λ t. wire_tokens key k ++ t) (append-nil (wire_tokens value w))
entries_tokens_more (Entry k' w' ps) key value k w =
    ap (λ t. wire_tokens key k' ++ (wire_tokens value w' ++ t)) (entries_tokens_more ps key value k w)
    ∙ sym (append_assoc (wire_tokens key k') (wire_tokens value w' ++ entries_tokens key value ps) (wire_tokens key k ++ wire_tokens value w)
    ∙ ap (λ t. wire_tokens key k' ++ t) (append_assoc (wire_tokens value w') (entries_tokens key value ps) (wire_tokens key k ++ wire_tokens value w)))

pub no_entries : (old : List ℕ) (before : List Token) (depth key value : ℕ) → Passed old old (EntriesAdded before before depth key value 0)
no_entries old before depth key value = record { bytes = []; parts = refl; holds = (NoEntries, refl, refl, sym (append-nil before)) }

module _ (old mid : List ℕ) (before now : List Token) (depth key value n : ℕ) (so_far : Passed old mid (EntriesAdded before now depth key value n)) where
  entry_fault : (count : ℕ) (halt : Halt) → n < count → Faulted mid halt (StopsThen (λ (w : Wire). IsWire w depth key) (StopsWire depth key) (λ _. StopsWire depth value)) → Faulted old halt (StopsEntries depth key value count)
  entry_fault count halt few stop = fault_behind old mid halt (EntriesAdded before now depth key value n) (StopsThen (λ (w : Wire). IsWire w depth key) (StopsWire depth key) (λ _. StopsWire depth value)) (StopsEntries depth key value count)
      (λ front rest s x y. (x.0, front, rest, s, refl, x.1, omega (arith, x.2, few), refl, y)) so_far stop

  pub key_fault : (count : ℕ) (halt : Halt) → n < count → Faulted mid halt (StopsWire depth key) → Faulted old halt (StopsEntries depth key value count)
  key_fault count halt few stop = entry_fault count halt few (fault_weaker mid halt (StopsWire depth key) _ (λ s bytes h. inl h) stop)

  pub value_fault : (low : List ℕ) (there : List Token) (count : ℕ) (halt : Halt) → n < count → Passed mid low (ValueAdded now there depth key) → Faulted low halt (StopsWire depth value) → Faulted old halt (StopsEntries depth key value count)
  value_fault low there count halt few first stop =
      let k : Wire = first.holds.0 in
      entry_fault count halt few (fault_then {A = Wire} {B = Wire} (λ w. IsWire w depth key) (StopsWire depth key) (λ _ w. IsWire w depth value) (λ _. StopsWire depth value) mid low k halt
      (record { bytes = first.bytes; parts = first.parts; holds = first.holds.1 }) stop)

  pub entry_added : (low new : List ℕ) (there after : List Token) → Passed mid low (ValueAdded now there depth key) → Passed low new (ValueAdded there after depth value) → Passed old new (EntriesAdded before after depth key value (n + 1))
  entry_added low new there after first second =
      let pair : Passed mid new (λ bytes. (one two : List ℕ) × (k w : Wire) × (bytes ≡ one ++ two) × IsWire k depth key one × IsWire w depth value two × (after ≡ now ++ (wire_tokens key k ++ wire_tokens value w))) =
      passed_then mid low new (ValueAdded now there depth key) (ValueAdded there after depth value) _
      (λ front rest x y. (front, rest, x.0, y.0, refl, x.1, y.1, added_then now there after (wire_tokens key x.0) (wire_tokens value y.0) x.2 y.2)) first second in
      passed_then old mid new (EntriesAdded before now depth key value n) _ (EntriesAdded before after depth key value (n + 1))
      (λ front rest x y. (
        with_entry x.0 y.2 y.3,
        subst (λ t. AreEntries (with_entry x.0 y.2 y.3) depth key value (front ++ t)) (sym y.4) (entries_more x.0 depth key value y.2 y.3 front y.0 y.1 x.1 y.5 y.6),
        omega (arith, entries_count_more x.0 y.2 y.3, x.2),
        added_then before now after (entries_tokens key value x.0) (wire_tokens key y.2 ++ wire_tokens value y.3) x.3 y.7 ∙ ap (λ t. before ++ t) (sym (entries_tokens_more x.0 key value y.2 y.3)),
      ))
      so_far pair

-- a head was taken, and then as many pairs
pub map_whole : {U : Type 0} (old mid new : List ℕ) (before there after : List Token) (key value count depth : ℕ) (result : Result U Halt) → Passed old mid (IsMapHead key value count) → there ≡ before ++ token.Map key value count ∷ []
    → Takes mid new result (λ _. EntriesAdded there after depth key value count) (StopsEntries depth key value count) → Takes old new result (λ _. MapAdded before after depth) (StopsMap depth)
map_whole old mid new before there after key value count depth (Ok v) head put takes = passed_then old mid new (IsMapHead key value count) (EntriesAdded there after depth key value count) (MapAdded before after depth)
    (λ front rest x y. (key, value, y.0, (front, rest, refl, subst (λ n. IsMapHead key value n front) (sym y.2) x, y.1), added_then before there after (token.Map key value count ∷ []) (entries_tokens key value y.0) put y.3 ∙ ap (λ n. before ++ (token.Map key value n ∷ entries_tokens key value y.0)) (sym y.2))) head takes
map_whole {U} old mid new before there after key value count depth (Err halt) head put takes =
    fault_then {A = ℕ × ℕ × ℕ} {B = U} (λ h. IsMapHead h.0 h.1 h.2) StopsMapHead (λ _ _ _. ⊤) (λ h. StopsEntries depth h.0 h.1 h.2) old mid (key, value, count) halt head takes
