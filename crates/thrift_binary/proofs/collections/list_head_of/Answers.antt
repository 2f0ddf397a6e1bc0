use Rattle.std.proofs.lemmas.Result.{err_from_is_err_and}
use Rattle.thrift_binary.proofs.Judging.{list_count, list_type}
use Rattle.thrift_binary.proofs.collections.list_head_of.Goals as goal

pub returns-in_err-count-clause-judged : goal.returns-in_err-count-clause-judged
returns-in_err-count-clause-judged c =
    let p = err_from_is_err_and c.from_residual.result c.from_residual.ensures.1 in
    rw (p.1, p.2) (list_count c.args.start c.args.bytes.now c.in_err-count.field-0.0 c.requires.five c.in_err-count.ensures.judged)

pub returns-clause-judged : goal.returns-clause-judged
returns-clause-judged c = list_type c.args.start c.args.bytes.now c.in_ok-count.count c.requires.five c.in_ok-count.ensures.judged (λ is. (let e = c.if-is_element_type.ensures.1 is in cc))
