use Rattle.std.proofs.Common.{◌∙◌}
use Rattle.cat_objects.proofs.Maps.{all_pass}
use Rattle.cat_objects.proofs.parts.all.Goals as goal

pub returns-clause-pairs : goal.returns-clause-pairs
returns-clause-pairs g c = c.range.ensures.between tt ∙ all_pass c.args.inner.now.entries
