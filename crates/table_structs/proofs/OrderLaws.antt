-- Orders of rows: the order of fields is free, and what is written reads back.
use Rattle.std.proofs.Common.{◌≡◌, pos, Some, refl, sym, ap, ◌∙◌}
use Rattle.cat_values.specs.declared.storage.Order.{Order}
use Rattle.thrift_binary.specs.Codes.{i32_code, text_code}
use Rattle.thrift_binary.specs.Tree.{Fields}
use Rattle.ms_structs.specs.declared.got.Got.TheVariants.{Is}
use Rattle.ms_structs.specs.Laws.{OrderIsFree}
use Rattle.ms_structs.specs.Slots.{said, said_or_bad}
use Rattle.ms_structs.specs.Values.{number_of, text_of}
use Rattle.ms_structs.specs.Written.{fields_of}
use Rattle.ms_structs.proofs.OwnFields.{said_told}
use Rattle.ms_structs.proofs.ReadBack.{text_read}
use Rattle.ms_structs.proofs.Said.{said_same, slot_is}
use Rattle.table_structs.specs.declared.orders.OrderFields.{OrderFields}
use Rattle.table_structs.specs.Orders.{order_made, order_none, order_of, order_set, order_tree, order_whole, order_written}
use Rattle.table_structs.specs.Kept.{IsKeptOrder}
use Rattle.table_structs.specs.Laws.{ReadsBack}

-- what fields make, by what they say under each id
order_by : (v : Fields) (f : OrderFields)
    → said (pos 1) text_code text_of v ≡ f.col
    → said (pos 2) i32_code number_of v ≡ f.dir
    → order_made v ≡ order_whole f
order_by v f col dir =
    let col = slot_is order_set order_none v (λ g. g.col) (pos 1) text_code text_of (λ g ty id w. refl) refl col in
    let dir = slot_is order_set order_none v (λ g. g.dir) (pos 2) i32_code number_of (λ g ty id w. refl) refl dir in
    λ i. order_whole (record { col = col i; dir = dir i })

abbrev said_slots : Fields → OrderFields
said_slots v = record {
  col = said (pos 1) text_code text_of v;
  dir = said (pos 2) i32_code number_of v;
}

pub order_order : OrderIsFree order_of
unfolding order_of
order_order v v' same = ap said_or_bad (
    order_by v (said_slots v')
    (said_same (pos 1) text_code text_of v v' same)
    (said_same (pos 2) i32_code number_of v v' same)
    ∙ sym (order_by v' (said_slots v') refl refl)
    )

-- the slots behind an order's own fields
abbrev own_slots : Order → OrderFields
own_slots order = record { col = Is order.col; dir = Is order.dir }

own_said : (order : Order) → IsKeptOrder order → order_made (fields_of (order_written order)) ≡ order_whole (own_slots order)
own_said order kept =
    let own = order_written order in
    order_by (fields_of own) (own_slots order)
    (said_told (pos 1) text_code text_of own refl ∙ text_read order.col kept.col)
    (said_told (pos 2) i32_code number_of own refl)

own_whole : (order : Order) → order_whole (own_slots order) ≡ Some order
own_whole order = refl

pub orders_read_back : ReadsBack IsKeptOrder order_of order_tree
unfolding order_of order_tree
orders_read_back order kept = ap said_or_bad (own_said order kept ∙ own_whole order)
