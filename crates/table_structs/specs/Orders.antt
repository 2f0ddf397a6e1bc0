-- Order: what its fields say, and how it is written.
use Rattle.std.specs.Prelude.{ℕ, ℤ, pos, List, [], ◌∷◌, Option, Bool}
use Rattle.cat_values.specs.declared.storage.Order.{Order}
use Rattle.ms_structs.specs.declared.got.Got.{Got}
use Rattle.ms_structs.specs.declared.got.Got.TheVariants.{Nothing}
use Rattle.ms_structs.specs.Slots.{is_bad, made_of, slot, struct_of, unless_bad, value_or}
use Rattle.ms_structs.specs.Values.{number_of, text_of}
use Rattle.ms_structs.specs.Written.{OwnField, fields_of, given}
use Rattle.table_structs.specs.declared.orders.OrderFields.{OrderFields}
use Rattle.thrift_binary.specs.Codes.{i32_code, text_code}
use Rattle.thrift_binary.specs.Tree.{Wire, Bytes, Number, Struct, Fields}

-- the slots before the first field: 1 col, 2 order
abbrev pub order_none : OrderFields
order_none = record { col = Nothing; dir = Nothing }

-- the slots behind one more field
abbrev pub order_set : OrderFields → ℕ → ℤ → Wire → OrderFields
order_set f ty id w = record {
  col = slot (pos 1) text_code text_of f.col ty id w;
  dir = slot (pos 2) i32_code number_of f.dir ty id w;
}

-- whether a text in one of the slots is bad
abbrev pub order_is_bad : OrderFields → Bool
order_is_bad f = is_bad f.col

-- an absent column is empty, and an absent direction is 0
abbrev pub order_from : OrderFields → Order
order_from f = record {
  col = value_or [] f.col;
  dir = value_or (pos 0) f.dir;
}

-- what the slots make, unless a text is bad
abbrev pub order_whole : OrderFields → Option Order
order_whole f = unless_bad (order_is_bad f) (order_from f)

-- the order that these fields make; None: a text that counts isn't UTF-8
abbrev pub order_made : Fields → Option Order
order_made = made_of order_whole order_set order_none

-- the order that a struct says
unfoldable pub order_of : Wire → Got Order
order_of = struct_of order_whole order_set order_none

-- the fields that an order is written as
abbrev pub order_written : Order → List OwnField
order_written order =
    given (pos 1) text_code Bytes order.col ∷
    given (pos 2) i32_code Number order.dir ∷ []

-- the struct that an order is written as
unfoldable pub order_tree : Order → Wire
order_tree order = Struct (fields_of (order_written order))
