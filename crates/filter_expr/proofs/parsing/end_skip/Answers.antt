use Rattle.std.proofs.Common.{◌++◌, ◌∷◌, arith, ap, ◌∙◌}
use Rattle.filter_expr.specs.declared.tree.Step.TheVariants.{Skip}
use Rattle.filter_expr.proofs.Skips.{behind_count, set_skip}
use Rattle.filter_expr.proofs.parsing.end_skip.Goals as goal

pub returns : goal.returns
returns c = λ front behind skip e at.
    set_skip _ front behind c.args.at skip _ e at
    ∙ ap (λ n. front ++ Skip c.args.on n ∷ behind) (behind_count _ front behind c.args.at c.len.result skip e at (omega (arith, c.len.ensures, c.args.steps.now.ok.0)))
