use Rattle.std.proofs.Common.{sym, ◌∙◌}
use Rattle.hms_outside.proofs.Images.{images_grow, only_image}
use Rattle.hms_outside.proofs.laws.crashes_lie_between_calls.Goals as goal

pub returns-clause-grow : goal.returns-clause-grow
returns-clause-grow c = images_grow

pub returns-clause-one : goal.returns-clause-one
returns-clause-one c = λ d e image synced is. only_image d e image synced is ∙ sym synced.held
