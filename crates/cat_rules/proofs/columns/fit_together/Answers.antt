use Rattle.std.proofs.Common.{refl}
use Rattle.cat_rules.proofs.Apart.{fit_from_apart}
use Rattle.cat_rules.proofs.columns.fit_together.Goals as goal

pub returns-then-are_named : goal.returns-then-are_named
returns-then-are_named c = fit_from_apart c.args.cols.now c.args.keys.now _ (c.if-are_named.ensures.0 refl) c.are_apart.ensures
