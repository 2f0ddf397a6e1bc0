use Rattle.std.proofs.Common.{rules, ◌↔◌}
use Rattle.std.specs.Bool.{IsTrue}
use Rattle.std.specs.Result.{IfOk}
use Rattle.cat_rules.specs.Tables.{FitTogether}
use Rattle.cat_rules.proofs.Apart.{tested_from_rule}
use Rattle.cat_rules.proofs.columns.columns_rule.Goals as goal

pub returns-clause-test : goal.returns-clause-test
returns-clause-test c =
    let rule : IfOk c.fit_together.result (λ answer. IsTrue answer ↔ FitTogether c.args.cols.now c.args.keys.now) = search rules in
    tested_from_rule c.args.cols.now c.args.keys.now _ rule
