-- What a request that adds partitions says is the call that adds them.
use Rattle.std.proofs.Common.{◌==◌, ℕ, ℤ, Bool, true, false, if◌then◌else◌, pos, refl}
use Rattle.std.specs.Prelude.{⊤}
use Rattle.std.specs.Ordering.{int_eq}
use Rattle.cat_types.specs.declared.calls.Call.{Call}
use Rattle.ms_structs.specs.declared.got.Got.{Got}
use Rattle.ms_structs.specs.declared.got.Got.TheVariants.{Nothing, BadText, Is}
use Rattle.ms_structs.specs.Slots.{fold_fields, over, said, said_or_bad, slot, typed, unless_bad}
use Rattle.ms_calls.specs.Asked.{IsMethodOf}
use Rattle.ms_calls.specs.declared.method.Method.TheVariants as method
use Rattle.table_structs.specs.PartRequests.{adding_from, adding_is_bad, adding_none, adding_of, adding_set}
use Rattle.table_structs.specs.declared.part_requests.AddPartitionsFields.{AddPartitionsFields}
use Rattle.thrift_binary.specs.Codes.{struct_code}
use Rattle.thrift_binary.specs.Tree.{Wire, Flag, Number, Eight, Bytes, Struct, Items, Pairs, Fields, NoFields, Field}

-- a fact of a value, where one is said
abbrev pub IfIs : {T : Type 0} → Got T → (T → Type 0) → Type 0
IfIs Nothing fact = ⊤
IfIs BadText fact = ⊤
IfIs (Is value) fact = fact value

over_holds : {T : Type 0} (P : T → Type 0) (now before : Got T) → IfIs now P → IfIs before P → IfIs (over now before) P
over_holds P Nothing before now-holds before-holds = before-holds
over_holds P BadText before now-holds before-holds = tt
over_holds P (Is value) before now-holds before-holds = now-holds

slot_holds : {T : Type 0} (P : T → Type 0) (key : ℤ) (code : ℕ) (means : Wire → Got T) (ty : ℕ) (id : ℤ) (w : Wire) → IfIs (means w) P → IfIs (slot key code means Nothing ty id w) P
slot_holds {T} P key code means ty id w holds = by_id (int_eq id key)
  where
    by_type : (b : Bool) → IfIs (if b then means w else Nothing) P
    by_type true = holds
    by_type false = tt

    by_id : (b : Bool) → IfIs (if b then over (typed code means ty w) Nothing else Nothing) P
    by_id true = over_holds P (typed code means ty w) Nothing (by_type (ty == code)) tt
    by_id false = tt

said_holds : {T : Type 0} (P : T → Type 0) (key : ℤ) (code : ℕ) (means : Wire → Got T) (v : Fields) → ((w : Wire) → IfIs (means w) P) → IfIs (said key code means v) P
said_holds P key code means NoFields holds = tt
said_holds P key code means (Field ty id w v) holds = over_holds P (said key code means v) (slot key code means Nothing ty id w) (said_holds P key code means v holds) (slot_holds P key code means ty id w (holds w))

abbrev IsRequest : Call → Type 0
IsRequest call = IsMethodOf call method.AddPartitionsReq

made_is_request : (bad : Bool) (f : AddPartitionsFields) → IfIs (said_or_bad (unless_bad bad (adding_from f))) IsRequest
made_is_request true f = tt
made_is_request false f = refl

adding_is_request : (w : Wire) → IfIs (adding_of w) IsRequest
unfolding adding_of
adding_is_request (Flag value) = tt
adding_is_request (Number n) = tt
adding_is_request (Eight eight) = tt
adding_is_request (Bytes body) = tt
adding_is_request (Struct v) = let f = fold_fields adding_set adding_none v in made_is_request (adding_is_bad f) f
adding_is_request (Items of es) = tt
adding_is_request (Pairs key value ps) = tt

pub is_request : (v : Fields) → IfIs (said (pos 1) struct_code adding_of v) IsRequest
is_request v = said_holds IsRequest (pos 1) struct_code adding_of v adding_is_request
