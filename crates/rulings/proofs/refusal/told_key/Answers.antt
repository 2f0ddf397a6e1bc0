use Rattle.std.proofs.Common.{◌∙◌, ℕ, take, ap}
use Rattle.rulings.proofs.Cutting.{last_is}
use Rattle.rulings.proofs.refusal.told_key.Goals as goal

pub returns : goal.returns
returns c = c.split_at.ensures.front ∙ ap (λ (n : ℕ). take n c.args.key.now) (last_is c.args.key.now 128 c.floor_char_boundary.result c.floor_char_boundary.ensures.bound c.floor_char_boundary.ensures.boundary c.floor_char_boundary.ensures.nearest)
