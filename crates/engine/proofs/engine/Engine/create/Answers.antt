use Rattle.std.proofs.Common.{rules}
use Rattle.engine.proofs.Openings.{made_leaves, made_opens}
use Rattle.engine.proofs.engine.Engine.create.Goals as goal

pub begin-requires-clause-opens : goal.begin-requires-clause-opens
begin-requires-clause-opens g c = made_opens _ c.args.id c.args.base _ _ (search rules) c.requires c.in-Ok-create.ensures.head c.in-Ok-create.ensures.none c.in-Ok.ensures

pub returns-in-Ok-create-clause-opens : goal.returns-in-Ok-create-clause-opens
returns-in-Ok-create-clause-opens g c =
    rw c.begin.ensures.disk_a (made_leaves _ _ c.args.id c.args.base _ _ (search rules) c.requires c.in-Ok-create.ensures.head c.in-Ok-create.ensures.none c.in-Ok-create.ensures.settled c.in-Ok-create.ensures.opens)
