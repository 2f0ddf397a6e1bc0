use Rattle.std.proofs.Common.{subst, ap, ◌∙◌}
use Rattle.std.specs.Str.{IsUtf8}
use Rattle.cat_values.proofs.text.Text.from_utf8.Goals as goal

pub returns-in-Ok-clause-utf8 : goal.returns-in-Ok-clause-utf8
returns-in-Ok-clause-utf8 c = subst IsUtf8 (c.as_str-text.ensures.value ∙ ap (λ v. v.items) c.in-Ok.ensures.ok) c.as_str-text.utf8
