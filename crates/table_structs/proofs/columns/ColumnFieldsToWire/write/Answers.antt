use Rattle.table_structs.specs.Columns.{column_tree, column_written}
use Rattle.ms_structs.proofs.PiecesWritten.{struct_written, then_end, then_field}
use Rattle.table_structs.proofs.columns.ColumnFieldsToWire.write.Goals as goal

pub returns : goal.returns
unfolding column_tree
returns c =
    struct_written c.stop.result (column_written c.args.value.now) _ _
    (then_field c.in_ok-put_field.ensures
    (then_field c.in_ok-put_field-2.ensures
    (then_field c.in_ok-put_optional.ensures
    (then_end c.stop.ensures))))
