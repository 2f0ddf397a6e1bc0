use Rattle.ms_structs.specs.Written.{database_written}
use Rattle.ms_structs.proofs.PiecesWritten.{struct_written, then_end, then_field}
use Rattle.ms_structs.proofs.database.write_database.Goals as goal

pub returns : goal.returns
returns c =
    struct_written c.stop.result (database_written c.args.name.now c.args.rec.now) _ _
    (then_field c.in_ok-put_field.ensures
    (then_field c.in_ok-put_optional.ensures
    (then_field c.in_ok-put_optional-2.ensures
    (then_field c.in_ok-put_field-2.ensures
    (then_field c.in_ok-put_optional-3.ensures
    (then_end c.stop.ensures))))))
