use Rattle.table_structs.specs.Serdes.{serde_tree, serde_written}
use Rattle.ms_structs.proofs.PiecesWritten.{struct_written, then_end, then_field}
use Rattle.table_structs.proofs.serdes.SerdeFieldsToWire.write.Goals as goal

pub returns : goal.returns
unfolding serde_tree
returns c =
    struct_written c.stop.result (serde_written c.args.value.now) _ _
    (then_field c.in_ok-put_optional.ensures
    (then_field c.in_ok-put_optional-2.ensures
    (then_field c.in_ok-put_field.ensures
    (then_end c.stop.ensures))))
