-- What is spelled strictly within the limits is read back.
use Rattle.std.proofs.Common.{inl, inr, ℕ, Bool, true, false, [], ◌∷◌, ◌++◌, ℤ, pos, refl, sym, subst, append-nil}
use Rattle.thrift_binary.specs.declared.head.Head.{Head}
use Rattle.thrift_binary.specs.declared.limits.TheConstants.{DEPTH_LIMIT}
use Rattle.thrift_binary.specs.Tree.{Wire, Flag, Number, Eight, Bytes, Struct, Items, Pairs, Fields, NoFields, Field, Elements, NoElements, Element, Entries, NoEntries, Entry, elements_count, entries_count}
use Rattle.thrift_binary.specs.Wire.{IsFlag, IsNumber, IsWire, AreFields, AreElements, AreEntries, int_bytes, short_bytes, text_bytes}
use Rattle.thrift_binary.specs.Messages.{IsHead, IsMessage, Strict}
use Rattle.thrift_binary.specs.Strict.{flag_bytes, number_bytes, field_bytes, list_bytes, map_bytes, head_bytes, wire_bytes, fields_bytes, elements_bytes, entries_bytes, message_bytes}
use Rattle.thrift_binary.specs.Spelling.{NumberWithin, Within, FieldsWithin, ElementsWithin, EntriesWithin, HeadWithin, MessagesAreSpelled}

flag_spelled : (value : Bool) → IsFlag value (flag_bytes value)
flag_spelled true = (1, refl, refl)
flag_spelled false = (0, refl, refl)

number_spelled : (n : ℤ) (ty : ℕ) → NumberWithin ty n → IsNumber ty n (number_bytes ty n)
number_spelled n ty (inl h) = subst (λ t. IsNumber t n (number_bytes t n)) (sym h.0) (inl (refl, (refl, h.1)))
number_spelled n ty (inr (inl h)) = subst (λ t. IsNumber t n (number_bytes t n)) (sym h.0) (inr (inl (refl, (refl, h.1))))
number_spelled n ty (inr (inr (inl h))) = subst (λ t. IsNumber t n (number_bytes t n)) (sym h.0) (inr (inr (inl (refl, (refl, h.1)))))
number_spelled n ty (inr (inr (inr h))) = subst (λ t. IsNumber t n (number_bytes t n)) (sym h.0) (inr (inr (inr (refl, (refl, h.1)))))

mutual
  -- a value within the limits
  pub wire_spelled : (w : Wire) (depth ty : ℕ) → Within w depth ty → IsWire w depth ty (wire_bytes ty w)
  wire_spelled (Flag value) depth ty h = (h, flag_spelled value)
  wire_spelled (Number n) depth ty h = number_spelled n ty h
  wire_spelled (Eight eight) depth ty h = (h.0, (refl, h.1))
  wire_spelled (Bytes body) depth ty h = (h.0, (refl, h.1))
  wire_spelled (Struct v) depth ty (is, under, at, within) = (is, under, at, fields_bytes v, refl, fields_spelled v under within)
  wire_spelled (Items of es) depth ty (is, under, at, few, code, within) =
      (is, under, at, list_bytes of (elements_count es), elements_bytes of es, refl, (int_bytes (pos (elements_count es)), refl, (refl, few), code), elements_spelled es under of within)
  wire_spelled (Pairs key value ps) depth ty (is, under, at, few, code, code', within) =
      (is, under, at, map_bytes key value (entries_count ps), entries_bytes key value ps, refl, (int_bytes (pos (entries_count ps)), refl, (refl, few), code, code'), entries_spelled ps under key value within)

  pub fields_spelled : (v : Fields) (depth : ℕ) → FieldsWithin v depth → AreFields v depth (fields_bytes v)
  fields_spelled NoFields depth h = refl
  fields_spelled (Field ty id w v) depth (code, fits, within, more) =
      (field_bytes ty id, wire_bytes ty w, fields_bytes v, refl, (ty ∷ [], short_bytes id, refl, (refl, code), (refl, fits)), wire_spelled w depth ty within, fields_spelled v depth more)

  pub elements_spelled : (es : Elements) (depth ty : ℕ) → ElementsWithin es depth ty → AreElements es depth ty (elements_bytes ty es)
  elements_spelled NoElements depth ty h = refl
  elements_spelled (Element w es) depth ty (within, more) = (wire_bytes ty w, elements_bytes ty es, refl, wire_spelled w depth ty within, elements_spelled es depth ty more)

  pub entries_spelled : (ps : Entries) (depth key value : ℕ) → EntriesWithin ps depth key value → AreEntries ps depth key value (entries_bytes key value ps)
  entries_spelled NoEntries depth key value h = refl
  entries_spelled (Entry k w ps) depth key value (first, second, more) =
      (wire_bytes key k, wire_bytes value w, entries_bytes key value ps, refl, wire_spelled k depth key first, wire_spelled w depth value second, entries_spelled ps depth key value more)

pub head_spelled : (Kinds : ℕ → Type 0) (head : Head) → HeadWithin Kinds head → IsHead Kinds (true, head) (head_bytes head)
head_spelled Kinds head h = (
  Strict head.kind,
  refl,
  (
    128 ∷ 1 ∷ 0 ∷ head.kind ∷ [],
    text_bytes head.name ++ int_bytes head.sequence,
    refl,
    ((0, refl), h.kind),
    (refl, (text_bytes head.name, int_bytes head.sequence, refl, ((refl, h.name), h.utf8), (refl, h.sequence))),
  ),
)

pub message_spelled : (Kinds : ℕ → Type 0) (head : Head) (arguments : Fields) → HeadWithin Kinds head → Within (Struct arguments) DEPTH_LIMIT 12
    → IsMessage Kinds (record { strict = true; head = head; arguments = arguments }) (message_bytes head arguments)
message_spelled Kinds head arguments h within =
    (head_bytes head, wire_bytes 12 (Struct arguments), refl, head_spelled Kinds head h, wire_spelled (Struct arguments) DEPTH_LIMIT 12 within)

pub text_spelled : (Kinds : ℕ → Type 0) → MessagesAreSpelled Kinds
text_spelled Kinds head arguments h within few = record {
  whole = message_bytes head arguments;
  rest = [];
  parts = sym (append-nil (message_bytes head arguments));
  spelled = (message_bytes head arguments, [], sym (append-nil (message_bytes head arguments)), message_spelled Kinds head arguments h within, few, refl);
  ends = refl;
}
