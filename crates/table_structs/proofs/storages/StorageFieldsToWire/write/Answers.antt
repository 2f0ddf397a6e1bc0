use Rattle.table_structs.specs.Storages.{storage_tree, storage_written}
use Rattle.ms_structs.proofs.PiecesWritten.{struct_written, then_end, then_field}
use Rattle.std.proofs.lemmas.Result.{err_from_is_err_and}
use Rattle.table_structs.proofs.Exits.{grew_behind}
use Rattle.table_structs.proofs.storages.StorageFieldsToWire.write.Goals as goal

pub returns : goal.returns
unfolding storage_tree
returns c =
    struct_written c.stop.result (storage_written c.args.value.now) _ _
    (then_field c.in_ok-put_field.ensures
    (then_field c.in_ok-put_optional.ensures
    (then_field c.in_ok-put_optional-2.ensures
    (then_field c.in_ok-put_optional-3.ensures
    (then_field c.in_ok-put_field-2.ensures
    (then_field c.in_ok-put_field-3.ensures
    (then_field c.in_ok-put_optional-4.ensures
    (then_field c.in_ok-put_field-4.ensures
    (then_field c.in_ok-put_field-5.ensures
    (then_field c.in_ok-put_field-6.ensures
    (then_field c.in_ok-put_optional-5.ensures
    (then_field c.in_ok-put_optional-6.ensures
    (then_end c.stop.ensures)))))))))))))

-- the last exit by `?`, at which the search gives up
pub returns-in_err-put_optional-6 : goal.returns-in_err-put_optional-6
returns-in_err-put_optional-6 c =
    let p = err_from_is_err_and c.from_residual-in_err-put_optional-6.result c.from_residual-in_err-put_optional-6.ensures.1 in
    rw p.1
    (grew_behind _ _ _ _ c.in_ok-put_field.ensures
    (grew_behind _ _ _ _ c.in_ok-put_optional.ensures
    (grew_behind _ _ _ _ c.in_ok-put_optional-2.ensures
    (grew_behind _ _ _ _ c.in_ok-put_optional-3.ensures
    (grew_behind _ _ _ _ c.in_ok-put_field-2.ensures
    (grew_behind _ _ _ _ c.in_ok-put_field-3.ensures
    (grew_behind _ _ _ _ c.in_ok-put_optional-4.ensures
    (grew_behind _ _ _ _ c.in_ok-put_field-4.ensures
    (grew_behind _ _ _ _ c.in_ok-put_field-5.ensures
    (grew_behind _ _ _ _ c.in_ok-put_field-6.ensures
    (grew_behind _ _ _ _ c.in_ok-put_optional-5.ensures
    c.in_err-put_optional-6.ensures)))))))))))
