use Rattle.cat_values.proofs.Prefixes.{has_prefix_by_bytes}
use Rattle.cat_values.proofs.columns.has_prefix.Goals as goal

pub returns-then-prefix-text : goal.returns-then-prefix-text
returns-then-prefix-text c = has_prefix_by_bytes c.args.text.now c.args.prefix.now _ c.eq_ignore_ascii_case.ensures.test
