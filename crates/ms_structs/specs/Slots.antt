-- What the fields of a struct say. A slot gathers what the fields with one id say.
use Rattle.std.specs.Prelude.{◌==◌, if◌then◌else◌, ℕ, ℤ, Bool, true, false, Option, None, Some}
use Rattle.std.specs.Ordering.{int_eq}
use Rattle.ms_structs.specs.declared.got.Got.{Got}
use Rattle.ms_structs.specs.declared.got.Got.TheVariants.{Nothing, BadText, Is}
use Rattle.thrift_binary.specs.Tree.{Wire, Struct, Fields, NoFields, Field}

-- what is said now, over what was said before
abbrev pub over : {T : Type 0} → Got T → Got T → Got T
over Nothing before = before
over BadText before = BadText
over (Is value) before = Is value

-- what a value of this type says to one who expects values of another code; of another type it is skipped
abbrev pub typed : {T : Type 0} → ℕ → (Wire → Got T) → ℕ → Wire → Got T
typed code means ty w = if ty == code then means w else Nothing

-- what a slot holds behind one more field: only fields with the slot's id speak
abbrev pub slot : {T : Type 0} → ℤ → ℕ → (Wire → Got T) → Got T → ℕ → ℤ → Wire → Got T
slot key code means before ty id w = if int_eq id key then over (typed code means ty w) before else before

-- the last field with this id that says something
abbrev pub said : {T : Type 0} → ℤ → ℕ → (Wire → Got T) → Fields → Got T
said key code means NoFields = Nothing
said key code means (Field ty id w v) = over (said key code means v) (slot key code means Nothing ty id w)

-- the fields with this id, in their order
abbrev pub only : ℤ → Fields → Fields
only key NoFields = NoFields
only key (Field ty id w v) = if int_eq id key then Field ty id w (only key v) else only key v

-- all slots behind some fields, one field after the other
abbrev pub fold_fields : {A : Type 0} → (A → ℕ → ℤ → Wire → A) → A → Fields → A
fold_fields set a NoFields = a
fold_fields set a (Field ty id w v) = fold_fields set (set a ty id w) v

-- what fields make: `whole` of the slots behind them; None: a text that counts isn't UTF-8
abbrev pub made_of : {A B : Type 0} → (A → Option B) → (A → ℕ → ℤ → Wire → A) → A → Fields → Option B
made_of whole set none v = whole (fold_fields set none v)

abbrev pub said_or_bad : {A : Type 0} → Option A → Got A
said_or_bad None = BadText
said_or_bad (Some a) = Is a

-- what a struct says to one who expects it in a field or in a list
abbrev pub struct_of : {A B : Type 0} → (A → Option B) → (A → ℕ → ℤ → Wire → A) → A → Wire → Got B
struct_of whole set none (Struct v) = said_or_bad (made_of whole set none v)
struct_of whole set none w = Nothing

-- ---- what is made of a slot; None: a bad text

-- a value that may be absent
abbrev pub optional_of : {T : Type 0} → Got T → Option (Option T)
optional_of Nothing = Some None
optional_of BadText = None
optional_of (Is value) = Some (Some value)

-- a value with another one in place of an absent one
abbrev pub given_or : {T : Type 0} → T → Got T → Option T
given_or absent Nothing = Some absent
given_or absent BadText = None
given_or absent (Is value) = Some value

-- goes on where no text is bad
abbrev pub for_said : {A B : Type 0} → Option A → (A → Option B) → Option B
for_said (Some a) go = go a
for_said None go = None

-- ---- what is made of many slots at once

-- whether a text in a slot is bad
abbrev pub is_bad : {T : Type 0} → Got T → Bool
is_bad Nothing = false
is_bad BadText = true
is_bad (Is value) = false

-- the value of a slot, if it has one
abbrev pub value_of : {T : Type 0} → Got T → Option T
value_of Nothing = None
value_of BadText = None
value_of (Is value) = Some value

-- the value of a slot, or else this one
abbrev pub value_or : {T : Type 0} → T → Got T → T
value_or other Nothing = other
value_or other BadText = other
value_or other (Is value) = value

-- what is made of the slots, unless a text in one of them is bad
abbrev pub unless_bad : {A : Type 0} → Bool → A → Option A
unless_bad true made = None
unless_bad false made = Some made
