use Rattle.stat_structs.specs.Objects.{object_tree, object_written}
use Rattle.ms_structs.proofs.PiecesWritten.{struct_written, then_end, then_field}
use Rattle.stat_structs.proofs.objects.ObjectFieldsToWire.write.Goals as goal

pub returns : goal.returns
unfolding object_tree
returns c =
    struct_written c.stop.result (object_written c.args.value.now) _ _
    (then_field c.in_ok-put_field.ensures
    (then_field c.in_ok-put_field-2.ensures
    (then_field c.in_ok-put_field-3.ensures
    (then_end c.stop.ensures))))
