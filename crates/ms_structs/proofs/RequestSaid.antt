-- What a request for notifications is made of.
use Rattle.std.proofs.Common.{◌≡◌, ◌==◌, ℕ, ℤ, Bool, true, false, if◌then◌else◌, IsSome, pos, refl, sym, ap, subst, ◌∙◌}
use Rattle.std.specs.Ordering.{int_eq}
use Rattle.ms_structs.specs.declared.got.Got.{Got}
use Rattle.ms_structs.specs.declared.got.Got.TheVariants.{Nothing, BadText, Is}
use Rattle.ms_structs.specs.declared.notification_request.NotificationRequestFields.{NotificationRequestFields}
use Rattle.ms_structs.specs.NotificationLaws.{AnyFieldsMakeARequest, RequestIsSaid}
use Rattle.ms_structs.specs.Notifications.{request_none, request_set, request_whole}
use Rattle.ms_structs.specs.Slots.{fold_fields, over, said, slot, typed}
use Rattle.ms_structs.specs.Values.{number_of}
use Rattle.ms_structs.proofs.Said.{over_nothing, slot_over}
use Rattle.thrift_binary.specs.Tree.{Wire, Flag, Number, Eight, Bytes, Struct, Items, Pairs, Fields, NoFields, Field}

abbrev said_over : Fields → NotificationRequestFields → NotificationRequestFields
said_over v f = record { last = over (said (pos 1) 10 number_of v) f.last; max = over (said (pos 2) 8 number_of v) f.max }

slots_over : (v : Fields) (f : NotificationRequestFields) → fold_fields request_set f v ≡ said_over v f
slots_over NoFields f = refl
slots_over (Field ty id w v) f =
    slots_over v (request_set f ty id w)
    ∙ rw (
      slot_over (pos 1) 10 number_of (said (pos 1) 10 number_of v) f.last ty id w,
      slot_over (pos 2) 8 number_of (said (pos 2) 8 number_of v) f.max ty id w,
    ) refl

abbrev said_slots : Fields → NotificationRequestFields
said_slots v = record { last = said (pos 1) 10 number_of v; max = said (pos 2) 8 number_of v }

said_nothing : (v : Fields) → said_over v request_none ≡ said_slots v
said_nothing v = rw (over_nothing (said (pos 1) 10 number_of v), over_nothing (said (pos 2) 8 number_of v)) refl

pub request_is_said : RequestIsSaid
request_is_said v = ap request_whole (slots_over v request_none ∙ said_nothing v)

-- a number is no bad text
abbrev IsPlain : Got ℤ → Type 0
IsPlain Nothing = Unit {0}
IsPlain BadText = ⊥
IsPlain (Is n) = Unit {0}

number_plain : (w : Wire) → IsPlain (number_of w)
number_plain (Flag value) = tt
number_plain (Number n) = tt
number_plain (Eight eight) = tt
number_plain (Bytes bytes) = tt
number_plain (Struct v) = tt
number_plain (Items of es) = tt
number_plain (Pairs key value ps) = tt

chosen_plain : (b : Bool) (x y : Got ℤ) → IsPlain x → IsPlain y → IsPlain (if b then x else y)
chosen_plain true x y p q = p
chosen_plain false x y p q = q

over_plain : (x y : Got ℤ) → IsPlain x → IsPlain y → IsPlain (over x y)
over_plain Nothing y p q = q
over_plain BadText y p q = absurd p
over_plain (Is n) y p q = tt

said_plain : (key : ℤ) (code : ℕ) (v : Fields) → IsPlain (said key code number_of v)
said_plain key code NoFields = tt
said_plain key code (Field ty id w v) =
    let one : IsPlain (typed code number_of ty w) = chosen_plain (ty == code) (number_of w) Nothing (number_plain w) tt in
    over_plain (said key code number_of v) (slot key code number_of Nothing ty id w) (said_plain key code v)
    (chosen_plain (int_eq id key) (over (typed code number_of ty w) Nothing) Nothing (over_plain (typed code number_of ty w) Nothing one tt) tt)

made_plain : (last max : Got ℤ) → IsPlain last → IsPlain max → IsSome (request_whole (record { last = last; max = max }))
made_plain BadText max p q = absurd p
made_plain Nothing BadText p q = absurd q
made_plain (Is n) BadText p q = absurd q
made_plain Nothing Nothing p q = refl
made_plain Nothing (Is m) p q = refl
made_plain (Is n) Nothing p q = refl
made_plain (Is n) (Is m) p q = refl

pub any_fields_make_a_request : AnyFieldsMakeARequest
any_fields_make_a_request v = subst (λ r. IsSome r) (sym (request_is_said v)) (made_plain (said (pos 1) 10 number_of v) (said (pos 2) 8 number_of v) (said_plain (pos 1) 10 v) (said_plain (pos 2) 8 v))
