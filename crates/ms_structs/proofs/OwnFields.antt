-- What fields say that were written.
use Rattle.std.proofs.Common.{◌≡◌, ℕ, ℤ, Bool, true, false, if◌then◌else◌, List, [], ◌∷◌, Option, Some, None, IfSome, refl, ◌∙◌, subst, eq-eqb}
use Rattle.std.specs.Ordering.{int_eq}
use Rattle.std.proofs.lemmas.Bool.{false≢true}
use Rattle.std.proofs.lemmas.Bool.Decides.{Decides-int_eq}
use Rattle.ms_structs.specs.declared.got.Got.{Got}
use Rattle.ms_structs.specs.declared.got.Got.TheVariants.{Nothing, Is}
use Rattle.thrift_binary.specs.Tree.{Wire}
use Rattle.ms_structs.specs.Slots.{is_bad, said, typed, value_of}
use Rattle.ms_structs.specs.Written.{OwnField, fields_of, tree_if_any, with_field}
use Rattle.ms_structs.proofs.Said.{over_nothing}

-- none of these has this id
abbrev pub lacks : ℤ → List OwnField → Bool
lacks key [] = true
lacks key (field ∷ fields) = if int_eq field.id key then false else lacks key fields

-- no two have the same id
abbrev pub are_apart : List OwnField → Bool
are_apart [] = true
are_apart (field ∷ fields) = if lacks field.id fields then are_apart fields else false

-- what a value says that may be absent
abbrev pub says : {T : Type 0} → ℕ → (Wire → Got T) → ℕ → Option Wire → Got T
says code means ty None = Nothing
says code means ty (Some w) = typed code means ty w

-- what the field with this id says
abbrev pub told : {T : Type 0} → ℤ → ℕ → (Wire → Got T) → List OwnField → Got T
told key code means [] = Nothing
told key code means (field ∷ fields) = if int_eq field.id key then says code means field.code field.value else told key code means fields

lacks_at : {T : Type 0} (b : Bool) (key : ℤ) (code : ℕ) (means : Wire → Got T) (id : ℤ) (ty : ℕ) (value : Option Wire) (fields : List OwnField) → int_eq id key ≡ b → (if b then false else lacks key fields) ≡ true
    → (lacks key fields ≡ true → said key code means (fields_of fields) ≡ Nothing) → said key code means (with_field id ty value (fields_of fields)) ≡ Nothing
lacks_at true key code means id ty value fields is lacking others = absurd (false≢true lacking)
lacks_at false key code means id ty None fields is lacking others = others lacking
lacks_at false key code means id ty (Some w) fields is lacking others = rw is (over_nothing (said key code means (fields_of fields)) ∙ others lacking)

lacking_said : {T : Type 0} (key : ℤ) (code : ℕ) (means : Wire → Got T) (fields : List OwnField) → lacks key fields ≡ true → said key code means (fields_of fields) ≡ Nothing
lacking_said key code means [] lacking = refl
lacking_said key code means (field ∷ fields) lacking = lacks_at (int_eq field.id key) key code means field.id field.code field.value fields refl lacking (lacking_said key code means fields)

told_at : {T : Type 0} (b : Bool) (key : ℤ) (code : ℕ) (means : Wire → Got T) (id : ℤ) (ty : ℕ) (value : Option Wire) (fields : List OwnField) → int_eq id key ≡ b → lacks id fields ≡ true
    → said key code means (fields_of fields) ≡ told key code means fields → said key code means (with_field id ty value (fields_of fields)) ≡ (if b then says code means ty value else told key code means fields)
told_at true key code means id ty None fields is lacking others = lacking_said key code means fields (subst (λ k. lacks k fields ≡ true) ((Decides-int_eq id key).0 is) lacking)
told_at true key code means id ty (Some w) fields is lacking others =
    let none : said key code means (fields_of fields) ≡ Nothing = lacking_said key code means fields (subst (λ k. lacks k fields ≡ true) ((Decides-int_eq id key).0 is) lacking) in
    rw (is, none) (over_nothing (typed code means ty w))
told_at false key code means id ty None fields is lacking others = others
told_at false key code means id ty (Some w) fields is lacking others = rw is (over_nothing (said key code means (fields_of fields)) ∙ others)

both : (a b : Bool) → (if a then b else false) ≡ true → (a ≡ true) × (b ≡ true)
both true b h = (refl, h)
both false b h = absurd (false≢true h)

-- the last field with an id is the one that was written under it, where no two have the same id
pub said_told : {T : Type 0} (key : ℤ) (code : ℕ) (means : Wire → Got T) (fields : List OwnField) → are_apart fields ≡ true → said key code means (fields_of fields) ≡ told key code means fields
said_told key code means [] apart = refl
said_told key code means (field ∷ fields) apart =
    let h = both (lacks field.id fields) (are_apart fields) apart in
    told_at (int_eq field.id key) key code means field.id field.code field.value fields refl h.0 (said_told key code means fields h.1)

-- ---- values that may be absent

-- a slot that holds a value, or nothing where there is none
abbrev pub maybe : {T : Type 0} → Option T → Got T
maybe None = Nothing
maybe (Some value) = Is value

pub says_maybe : {T : Type 0} (code : ℕ) (means : Wire → Got T) (tree : T → Wire) (value : Option T) → IfSome value (λ x. means (tree x) ≡ Is x) → says code means code (tree_if_any tree value) ≡ maybe value
says_maybe code means tree None h = refl
says_maybe code means tree (Some x) h = rw (eq-eqb code code refl) h

pub maybe_is_good : {T : Type 0} (value : Option T) → is_bad (maybe value) ≡ false
maybe_is_good None = refl
maybe_is_good (Some x) = refl

pub maybe_value : {T : Type 0} (value : Option T) → value_of (maybe value) ≡ value
maybe_value None = refl
maybe_value (Some x) = refl
