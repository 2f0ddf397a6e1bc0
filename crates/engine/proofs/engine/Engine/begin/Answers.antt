use Rattle.engine.proofs.Openings.{first_of, kept_first, run_opened}
use Rattle.engine.specs.Inside.{seen_by, with_other}
use Rattle.engine.proofs.engine.Engine.begin.Goals as goal

pub invariant_of-result : goal.invariant_of-result
invariant_of-result g c =
    run_opened (λ j. with_other (g.D.Disk.faults c.args.disk_b) (seen_by g.D.Disk.lies g.D.Disk.past g.D.Disk.faults j)) c.args.store c.args.journal c.and-opening.result.items c.new-2.result.items c.requires.sure c.requires.settled c.requires.opens
    (first_of c.new.result.items c.and-opening.result.items _ c.new.ensures c.and-opening.ensures) c.new-2.ensures

pub returns-clause-kept : goal.returns-clause-kept
returns-clause-kept g c =
    kept_first (λ j. with_other (g.D.Disk.faults c.args.disk_b) (seen_by g.D.Disk.lies g.D.Disk.past g.D.Disk.faults j)) c.args.store c.args.journal c.and-opening.result.items c.new-2.result.items
    (run_opened (λ j. with_other (g.D.Disk.faults c.args.disk_b) (seen_by g.D.Disk.lies g.D.Disk.past g.D.Disk.faults j)) c.args.store c.args.journal c.and-opening.result.items c.new-2.result.items c.requires.sure c.requires.settled c.requires.opens
    (first_of c.new.result.items c.and-opening.result.items _ c.new.ensures c.and-opening.ensures) c.new-2.ensures) c.new-2.ensures
