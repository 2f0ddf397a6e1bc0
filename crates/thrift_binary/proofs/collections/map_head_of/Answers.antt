use Rattle.std.proofs.Common.{rules}
use Rattle.std.proofs.lemmas.Result.{err_from_is_err_and}
use Rattle.thrift_binary.proofs.Judging.{map_count, map_key, map_value, map_head}
use Rattle.thrift_binary.proofs.collections.map_head_of.Goals as goal

pub returns-in_err-count-clause-judged : goal.returns-in_err-count-clause-judged
returns-in_err-count-clause-judged c =
    let p = err_from_is_err_and c.from_residual.result c.from_residual.ensures.1 in
    rw (p.1, p.2) (map_count c.args.start c.args.bytes.now c.in_err-count.field-0.0 c.requires.six c.in_err-count.ensures.judged)

pub returns-then-is_element_type-2-clause-judged : goal.returns-then-is_element_type-2-clause-judged
returns-then-is_element_type-2-clause-judged c =
    map_head c.args.bytes.now c.in_ok-count.count c.requires.six c.in_ok-count.ensures.judged (c.if-is_element_type.ensures.0 (search rules)) (c.if-is_element_type-2.ensures.0 (search rules))

pub returns-then-is_element_type-clause-judged : goal.returns-then-is_element_type-clause-judged
returns-then-is_element_type-clause-judged c =
    map_value c.args.start c.args.bytes.now c.in_ok-count.count c.requires.six c.in_ok-count.ensures.judged (c.if-is_element_type.ensures.0 (search rules)) (λ is. (let e = c.if-is_element_type-2.ensures.1 is in cc))

pub returns-clause-judged : goal.returns-clause-judged
returns-clause-judged c = map_key c.args.start c.args.bytes.now c.in_ok-count.count c.requires.six c.in_ok-count.ensures.judged (λ is. (let e = c.if-is_element_type.ensures.1 is in cc))
