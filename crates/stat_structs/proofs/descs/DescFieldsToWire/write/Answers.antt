use Rattle.stat_structs.specs.Descs.{desc_tree, desc_written}
use Rattle.ms_structs.proofs.PiecesWritten.{struct_written, then_end, then_field}
use Rattle.stat_structs.proofs.descs.DescFieldsToWire.write.Goals as goal

pub returns : goal.returns
unfolding desc_tree
returns c =
    struct_written c.stop.result (desc_written c.args.value.now) _ _
    (then_field c.in_ok-put_field.ensures
    (then_field c.in_ok-put_optional.ensures
    (then_field c.in_ok-put_optional-2.ensures
    (then_field c.in_ok-put_optional-3.ensures
    (then_field c.in_ok-put_optional-4.ensures
    (then_end c.stop.ensures))))))
