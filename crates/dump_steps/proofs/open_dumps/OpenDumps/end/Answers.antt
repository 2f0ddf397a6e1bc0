use Rattle.std.proofs.Common.{rules, ap, ◌∙◌}
use Rattle.std.proofs.lemmas.Fn.{filter_same}
use Rattle.dump_steps.specs.Open.{without_dump}
use Rattle.dump_steps.proofs.open_dumps.OpenDumps.end.Goals as goal

pub returns-clause-dumps : goal.returns-clause-dumps
returns-clause-dumps c =
    filter_same _ _ _ (λ x b f' k. search rules) _ _ c.retain.ensures.filtered
    ∙ ap (λ opened. without_dump c.args.caller c.args.number opened.dumps) c.self.view_is
