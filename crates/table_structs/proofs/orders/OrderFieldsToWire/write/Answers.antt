use Rattle.table_structs.specs.Orders.{order_tree, order_written}
use Rattle.ms_structs.proofs.PiecesWritten.{struct_written, then_end, then_field}
use Rattle.table_structs.proofs.orders.OrderFieldsToWire.write.Goals as goal

pub returns : goal.returns
unfolding order_tree
returns c =
    struct_written c.stop.result (order_written c.args.value.now) _ _
    (then_field c.in_ok-put_field.ensures
    (then_field c.in_ok-put_field-2.ensures
    (then_end c.stop.ensures)))
