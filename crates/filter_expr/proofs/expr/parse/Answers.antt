use Rattle.std.proofs.lemmas.Result.{err_from_is_err_and}
use Rattle.filter_expr.proofs.Trees.{is_read, key_is_fault}
use Rattle.filter_expr.proofs.expr.parse.Goals as goal

pub returns-in_err-check_keys-clause-refused : goal.returns-in_err-check_keys-clause-refused
returns-in_err-check_keys-clause-refused c =
    let p = err_from_is_err_and c.from_residual-in_err-check_keys.result c.from_residual-in_err-check_keys.ensures.1 in
    rw (p.1, p.2) (key_is_fault c.args.text.now c.args.keys.now _ _ _ c.in_err-check_keys.field-0.0 c.in_ok-written.ensures c.as_slice.ensures.items c.as_slice-2.ensures.value c.in_err-check_keys.ensures.err)

pub returns-clause-read : goal.returns-clause-read
returns-clause-read c =
    is_read c.args.text.now c.args.keys.now _ _ _ _ _ c.in_ok-written.ensures c.as_slice.ensures.items c.as_slice-3.ensures.items c.as_slice-2.ensures.value c.in_ok-check_keys.ensures.ok c.in_ok-check_keys.ensures.right c.in_ok-steps.ensures
