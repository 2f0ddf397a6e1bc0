use Rattle.std.proofs.Common.{subst}
use Rattle.std.specs.Prelude.{IfSome}
use Rattle.ms_journal.specs.Books.{OpensTo}
use Rattle.engine.proofs.Running.{held_now, kept_since}
use Rattle.engine.specs.Inside.{point_in, seen_by, with_other}
use Rattle.engine.proofs.engine.Engine.into_disks.Goals as goal

pub returns-clause-since : goal.returns-clause-since
returns-clause-since g c =
    rw (← c.self.view_is, c.into_disk.ensures.disk) (kept_since (λ j. with_other (g.D.Disk.faults c.self.inside.disk_b) (seen_by g.D.Disk.lies g.D.Disk.past g.D.Disk.faults j)) c.self.inside.store c.self.inside.journal c.self.inside.opening.items c.self.inside.turns.items c.self.invariant)

pub returns-clause-held : goal.returns-clause-held
returns-clause-held g c =
    rw (← c.self.view_is, c.into_disk.ensures.disk)
    (held_now (point_in (λ j. with_other (g.D.Disk.faults c.self.inside.disk_b) (seen_by g.D.Disk.lies g.D.Disk.past g.D.Disk.faults j)) c.self.inside.opening.items c.self.inside.turns.items) c.self.inside.store
    (with_other (g.D.Disk.faults c.self.inside.disk_b) (seen_by g.D.Disk.lies g.D.Disk.past g.D.Disk.faults c.self.inside.journal)) c.self.invariant.stands
    (subst (λ (x : g.row.D.Denot). IfSome (g.D.Disk.lies x) (λ d. OpensTo c.self.inside.journal.head c.self.inside.journal.payloads c.self.inside.journal.doubt d.held)) c.into_disk.ensures.disk c.into_disk.ensures.held))
