use Rattle.engine.proofs.Running.{run_on}
use Rattle.engine.specs.Inside.{seen_by}
use Rattle.engine.proofs.engine.EngineCore.turn.Goals as goal

pub invariant_of-self : goal.invariant_of-self
invariant_of-self g c =
    (run_on (seen_by g.D.Disk.lies g.D.Disk.past g.D.Disk.faults) (g.D.Disk.faults c.self.inside.disk_b) c.self.inside.store c.take_step-answer.new.self c.self.inside.journal c.take_step-answer.new.journal c.self.inside.opening.items c.self.inside.turns.items c.and-self-inside.result.items
    (record { caller = c.args.caller; step = c.args.s }) c.take_step-answer.result c.self.invariant c.take_step-answer.ensures c.and-self-inside.ensures).run

pub returns-clause-entry : goal.returns-clause-entry
returns-clause-entry g c =
    rw (← c.self.view_is)
    (run_on (seen_by g.D.Disk.lies g.D.Disk.past g.D.Disk.faults) (g.D.Disk.faults c.self.inside.disk_b) c.self.inside.store c.take_step-answer.new.self c.self.inside.journal c.take_step-answer.new.journal c.self.inside.opening.items c.self.inside.turns.items c.and-self-inside.result.items
    (record { caller = c.args.caller; step = c.args.s }) c.take_step-answer.result c.self.invariant c.take_step-answer.ensures c.and-self-inside.ensures).entry

pub returns-clause-legal : goal.returns-clause-legal
returns-clause-legal g c =
    (run_on (seen_by g.D.Disk.lies g.D.Disk.past g.D.Disk.faults) (g.D.Disk.faults c.self.inside.disk_b) c.self.inside.store c.take_step-answer.new.self c.self.inside.journal c.take_step-answer.new.journal c.self.inside.opening.items c.self.inside.turns.items c.and-self-inside.result.items
    (record { caller = c.args.caller; step = c.args.s }) c.take_step-answer.result c.self.invariant c.take_step-answer.ensures c.and-self-inside.ensures).run.legal

pub returns-clause-counted : goal.returns-clause-counted
returns-clause-counted g c =
    (run_on (seen_by g.D.Disk.lies g.D.Disk.past g.D.Disk.faults) (g.D.Disk.faults c.self.inside.disk_b) c.self.inside.store c.take_step-answer.new.self c.self.inside.journal c.take_step-answer.new.journal c.self.inside.opening.items c.self.inside.turns.items c.and-self-inside.result.items
    (record { caller = c.args.caller; step = c.args.s }) c.take_step-answer.result c.self.invariant c.take_step-answer.ensures c.and-self-inside.ensures).run.none

pub returns-clause-went : goal.returns-clause-went
returns-clause-went g c =
    rw (← c.self.view_is)
    (run_on (seen_by g.D.Disk.lies g.D.Disk.past g.D.Disk.faults) (g.D.Disk.faults c.self.inside.disk_b) c.self.inside.store c.take_step-answer.new.self c.self.inside.journal c.take_step-answer.new.journal c.self.inside.opening.items c.self.inside.turns.items c.and-self-inside.result.items
    (record { caller = c.args.caller; step = c.args.s }) c.take_step-answer.result c.self.invariant c.take_step-answer.ensures c.and-self-inside.ensures).went
