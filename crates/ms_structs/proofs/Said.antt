-- A slot holds what the last field with its id says.
use Rattle.std.proofs.Common.{◌≡◌, ℕ, ℤ, Bool, true, false, if◌then◌else◌, refl, sym, ap, ◌∙◌}
use Rattle.std.specs.Ordering.{int_eq}
use Rattle.ms_structs.specs.declared.got.Got.{Got}
use Rattle.ms_structs.specs.declared.got.Got.TheVariants.{Nothing, BadText, Is}
use Rattle.thrift_binary.specs.Tree.{Wire, Fields, NoFields, Field}
use Rattle.ms_structs.specs.Slots.{fold_fields, only, over, said, slot, typed}

pub over_nothing : {T : Type 0} (a : Got T) → over a Nothing ≡ a
over_nothing Nothing = refl
over_nothing BadText = refl
over_nothing (Is value) = refl

pub over_over : {T : Type 0} (a b c : Got T) → over (over a b) c ≡ over a (over b c)
over_over Nothing b c = refl
over_over BadText b c = refl
over_over (Is value) b c = refl

chosen : {T : Type 0} (b : Bool) (a t before : Got T) → over a (if b then over t before else before) ≡ over (over a (if b then over t Nothing else Nothing)) before
chosen true a t before = ap (λ x. over a x) (ap (λ x. over x before) (sym (over_nothing t))) ∙ sym (over_over a (over t Nothing) before)
chosen false a t before = ap (λ x. over x before) (sym (over_nothing a))

-- one field more, in front of others
pub slot_over : {T : Type 0} (key : ℤ) (code : ℕ) (means : Wire → Got T) (a before : Got T) (ty : ℕ) (id : ℤ) (w : Wire) → over a (slot key code means before ty id w) ≡ over (over a (slot key code means Nothing ty id w)) before
slot_over key code means a before ty id w = chosen (int_eq id key) a (typed code means ty w) before

only_at : {T : Type 0} (b : Bool) (key : ℤ) (code : ℕ) (means : Wire → Got T) (ty : ℕ) (id : ℤ) (w : Wire) (v : Fields) → int_eq id key ≡ b → said key code means v ≡ said key code means (only key v) → said key code means (Field ty id w v) ≡ said key code means (if b then Field ty id w (only key v) else only key v)
only_at true key code means ty id w v is same = ap (λ x. over x (slot key code means Nothing ty id w)) same
only_at false key code means ty id w v is same = rw is (over_nothing (said key code means v) ∙ same)

-- fields with other ids say nothing
pub said_only : {T : Type 0} (key : ℤ) (code : ℕ) (means : Wire → Got T) (v : Fields) → said key code means v ≡ said key code means (only key v)
said_only key code means NoFields = refl
said_only key code means (Field ty id w v) = only_at (int_eq id key) key code means ty id w v refl (said_only key code means v)

pub said_same : {T : Type 0} (key : ℤ) (code : ℕ) (means : Wire → Got T) (v v' : Fields) → ((key : ℤ) → only key v ≡ only key v') → said key code means v ≡ said key code means v'
said_same key code means v v' same = said_only key code means v ∙ ap (λ x. said key code means x) (same key) ∙ sym (said_only key code means v')

-- a slot behind some fields holds what the last one with its id says, over what it held
slot_behind : {A T : Type 0} (set : A → ℕ → ℤ → Wire → A) (part : A → Got T) (key : ℤ) (code : ℕ) (means : Wire → Got T) → ((f : A) (ty : ℕ) (id : ℤ) (w : Wire) → part (set f ty id w) ≡ slot key code means (part f) ty id w)
    → (v : Fields) (f : A) → part (fold_fields set f v) ≡ over (said key code means v) (part f)
slot_behind set part key code means one NoFields f = refl
slot_behind set part key code means one (Field ty id w v) f =
    slot_behind set part key code means one v (set f ty id w)
    ∙ ap (λ x. over (said key code means v) x) (one f ty id w)
    ∙ slot_over key code means (said key code means v) (part f) ty id w

-- a slot that held nothing holds what they say
pub slot_is : {A T : Type 0} (set : A → ℕ → ℤ → Wire → A) (none : A) (v : Fields) (part : A → Got T) (key : ℤ) (code : ℕ) (means : Wire → Got T)
    → ((f : A) (ty : ℕ) (id : ℤ) (w : Wire) → part (set f ty id w) ≡ slot key code means (part f) ty id w) → part none ≡ Nothing → {got : Got T} → said key code means v ≡ got → part (fold_fields set none v) ≡ got
slot_is set none v part key code means one empty says = slot_behind set part key code means one v none ∙ ap (λ x. over (said key code means v) x) empty ∙ over_nothing (said key code means v) ∙ says
