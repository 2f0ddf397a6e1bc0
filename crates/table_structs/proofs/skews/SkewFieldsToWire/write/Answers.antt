use Rattle.table_structs.specs.Skews.{skew_tree, skew_written}
use Rattle.ms_structs.proofs.PiecesWritten.{struct_written, then_end, then_field}
use Rattle.table_structs.proofs.skews.SkewFieldsToWire.write.Goals as goal

pub returns : goal.returns
unfolding skew_tree
returns c =
    struct_written c.stop.result (skew_written c.args.value.now) _ _
    (then_field c.in_ok-put_field.ensures
    (then_field c.in_ok-put_field-2.ensures
    (then_field c.in_ok-put_field-3.ensures
    (then_end c.stop.ensures))))
