use Rattle.std.proofs.Common.{[], refl}
use Rattle.std.proofs.lemmas.Result.{err_from_is_err_and}
use Rattle.thrift_plain.proofs.PlainHeads.{map_fault, map_taken, key_refused, value_refused}
use Rattle.thrift_plain.proofs.plain_reader.PlainReader.map_head.Goals as goal

pub returns-in_err-count-clause-takes : goal.returns-in_err-count-clause-takes
returns-in_err-count-clause-takes c =
    let p = err_from_is_err_and c.from_residual-in_err-count.result c.from_residual-in_err-count.ensures.1 in
    rw (p.1, p.2) (map_fault _ _ _ [] c.in_ok-key.key c.in_ok-value.value c.in_ok-key.ensures c.in_ok-value.ensures _ c.in_err-count.ensures)

pub returns-then-may_follow-2-clause-takes : goal.returns-then-may_follow-2-clause-takes
returns-then-may_follow-2-clause-takes c =
    map_taken _ _ _ _ c.in_ok-key.key c.in_ok-value.value c.in_ok-key.ensures c.in_ok-value.ensures c.in_ok-count.count (c.if-may_follow.ensures.0 refl) (c.if-may_follow-2.ensures.0 refl) c.in_ok-count.ensures

pub returns-then-may_follow-clause-takes : goal.returns-then-may_follow-clause-takes
returns-then-may_follow-clause-takes c =
    value_refused _ _ _ _ c.in_ok-key.key c.in_ok-value.value c.in_ok-key.ensures c.in_ok-value.ensures c.in_ok-count.count _ (c.if-may_follow.ensures.0 refl) (λ may. let e = c.if-may_follow-2.ensures.1 may in cc) refl c.in_ok-count.ensures

pub returns-clause-takes : goal.returns-clause-takes
returns-clause-takes c =
    key_refused _ _ _ _ c.in_ok-key.key c.in_ok-value.value c.in_ok-key.ensures c.in_ok-value.ensures c.in_ok-count.count _ (λ may. let e = c.if-may_follow.ensures.1 may in cc) refl c.in_ok-count.ensures
