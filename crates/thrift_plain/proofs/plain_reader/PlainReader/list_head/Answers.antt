use Rattle.std.proofs.Common.{[], refl}
use Rattle.std.proofs.lemmas.Result.{err_from_is_err_and}
use Rattle.thrift_plain.proofs.PlainHeads.{list_fault, list_taken, list_refused}
use Rattle.thrift_plain.proofs.plain_reader.PlainReader.list_head.Goals as goal

pub returns-in_err-count-clause-takes : goal.returns-in_err-count-clause-takes
returns-in_err-count-clause-takes c =
    let p = err_from_is_err_and c.from_residual-in_err-count.result c.from_residual-in_err-count.ensures.1 in
    rw (p.1, p.2) (list_fault _ _ [] c.in_ok-ty.ty _ c.in_ok-ty.ensures c.in_err-count.ensures)

pub returns-then-may_follow-clause-takes : goal.returns-then-may_follow-clause-takes
returns-then-may_follow-clause-takes c =
    list_taken _ _ _ c.in_ok-ty.ty c.in_ok-count.count (c.if-may_follow.ensures.0 refl) c.in_ok-ty.ensures c.in_ok-count.ensures

pub returns-clause-takes : goal.returns-clause-takes
returns-clause-takes c =
    list_refused _ _ _ c.in_ok-ty.ty c.in_ok-count.count _ (λ may. let e = c.if-may_follow.ensures.1 may in cc) refl c.in_ok-ty.ensures c.in_ok-count.ensures
