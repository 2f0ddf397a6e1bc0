use Rattle.std.proofs.Common.{inl, refl, ap, ◌∙◌}
use Rattle.ms_cli.specs.Keeping.{seen}
use Rattle.ms_cli.specs.Telling.{made_line}
use Rattle.ms_cli.proofs.Opened.{made}
use Rattle.ms_cli.proofs.making.init.Goals as goal

pub returns-in-Ok-clause-did : goal.returns-in-Ok-clause-did
returns-in-Ok-clause-did g c = λ left clock shelf.
    inl (made c.args.id _ _ _ c.say-end.result c.in-Ok.engine.start c.in-Ok.engine.history _ (ap (seen g.D.Disk.lies g.D.Disk.past g.D.Disk.faults) c.into_disks-disk_a.ensures.disk_a)
    c.in-Ok.ensures.none c.in-Ok.ensures.state c.in-Ok.ensures.empty c.in-Ok.ensures.opens c.into_disks-disk_a.ensures.held (c.say-end.ensures.wrote (made_line c.args.id) c.made_text.ensures) refl refl refl (c.tell.result, c.tell.ensures.told, c.tell.ensures.cause)
    (ap (seen g.D.Disk.lies g.D.Disk.past g.D.Disk.faults) (c.into_disks-disk_a.ensures.disk_b ∙ c.in-Ok.ensures.disk_b)) c.status.ensures)
