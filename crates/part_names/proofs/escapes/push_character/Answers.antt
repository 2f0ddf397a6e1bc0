use Rattle.std.proofs.Common.{sym, ◌∙◌}
use Rattle.part_names.proofs.Escaping.{escaped-plain, escaped-marked}
use Rattle.part_names.proofs.escapes.push_character.Goals as goal

pub returns-then-is_escaped : goal.returns-then-is_escaped
returns-then-is_escaped c = rw (escaped-marked c.args.character (sym c.is_escaped.ensures ∙ c.if-is_escaped.true)) c.push_escape.ensures

pub returns : goal.returns
returns c = rw (escaped-plain c.args.character (sym c.is_escaped.ensures ∙ c.if-is_escaped.false)) c.in_ok-push.ensures.bytes
