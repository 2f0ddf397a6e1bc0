use Rattle.std.proofs.Common.{decimal, ◌∙◌}
use Rattle.dump_manifest.proofs.Spelled.{digits_parse, digits_utf8, is_not_err, is_the_same, spelled_again}
use Rattle.dump_manifest.proofs.values.number_of.Goals as goal

pub returns-in-Err : goal.returns-in-Err
returns-in-Err c = λ value fits same. c.in-Err.ensures.cases.0 (digits_utf8 value _ fits same)

pub returns-in-Err-parse : goal.returns-in-Err-parse
returns-in-Err-parse c = λ value fits same.
    is_not_err _ value _ c.in-Err-parse.is (digits_parse value _ _ _ fits same c.in-Ok.ensures.cases.0 c.parse.ensures.value.0)

pub returns-else-eq : goal.returns-else-eq
returns-else-eq c = λ value fits same.
    let read = digits_parse value _ _ c.parse.result fits same c.in-Ok.ensures.cases.0 c.parse.ensures.value.0 in
    spelled_again decimal c.in-Ok-parse.n value _ _ _ same (is_the_same _ _ _ c.in-Ok-parse.is read) (c.as_bytes.ensures.value ∙ c.format.ensures.text) c.eq.ensures c.if-eq.false
