use Rattle.std.proofs.Common.{rules, refl}
use Rattle.server_cli.proofs.Asking.{meant, not_meant}
use Rattle.server_cli.proofs.planning.plan.Goals as goal

pub returns-in-Some : goal.returns-in-Some
returns-in-Some c = (search rules, meant _ c.in-Some.field-0 c.in-Some.ensures.asked)

pub returns-in-None : goal.returns-in-None
returns-in-None c = (search rules, not_meant _ (c.in-None.ensures.none refl))
