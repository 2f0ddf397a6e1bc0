use Rattle.std.proofs.Common.{inl, inr, refl, ap, ◌∙◌}
use Rattle.ms_cli.specs.Keeping.{seen}
use Rattle.ms_cli.proofs.Opened.{opened}
use Rattle.ms_cli.proofs.Refusing.{unopened}
use Rattle.ms_cli.proofs.piping.pipe.Goals as goal

pub returns-in-Ok-clause-did : goal.returns-in-Ok-clause-did
returns-in-Ok-clause-did g c =
    inl (opened _ _ _ (seen g.D.Disk.lies g.D.Disk.past g.D.Disk.faults c.in-Ok.engine.disk_a) (seen g.D.Disk.lies g.D.Disk.past g.D.Disk.faults c.in-Ok.engine.disk_b)
    c.in-Ok.engine.start c.in-Ok.ensures.opens c.in-Ok.ensures.fault c.in-Ok.ensures.later (ap (seen g.D.Disk.lies g.D.Disk.past g.D.Disk.faults) c.in-Ok.ensures.disk_b) c.in-Ok.ensures.past c.in-Ok.ensures.reopened c.in-Ok.ensures.went (c.serve.ensures.worked _ _))

pub returns-in-Err-clause-did : goal.returns-in-Err-clause-did
returns-in-Err-clause-did g c =
    inr (unopened c.in-Err.fault _ _ _ _ (ap (seen g.D.Disk.lies g.D.Disk.past g.D.Disk.faults) c.refuse.ensures.disk_a) c.in-Err.ensures.kind c.in-Err.ensures.foreign c.in-Err.ensures.broken c.in-Err.ensures.cause
    c.in-Err.ensures.outage c.in-Err.ensures.held c.in-Err.ensures.went refl (ap (seen g.D.Disk.lies g.D.Disk.past g.D.Disk.faults) (c.refuse.ensures.disk_b ∙ c.in-Err.ensures.disk_b)) c.refuse.ensures.told c.refuse.ensures.status)
