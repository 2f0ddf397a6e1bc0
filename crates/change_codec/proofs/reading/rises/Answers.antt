use Rattle.std.proofs.Common.{Option, ap, ◌∙◌}
use Rattle.std.specs.Ordering.{is_lt}
use Rattle.change_codec.specs.Forms.{rises}
use Rattle.change_codec.proofs.Rising.{last_at}
use Rattle.change_codec.proofs.reading.rises.Goals as goal

pub returns-in-None : goal.returns-in-None
returns-in-None g c = ap (λ (before : Option _). rises g.K.Ord.cmp before c.args.key.now) (c.in-None.ensures ∙ last_at c.args.pairs.now)

pub returns-in-Some : goal.returns-in-Some
returns-in-Some g c = c.is_lt.ensures ∙ ap is_lt c.cmp.ensures ∙ ap (λ (before : Option _). rises g.K.Ord.cmp before c.args.key.now) (c.in-Some.ensures ∙ last_at c.args.pairs.now)
