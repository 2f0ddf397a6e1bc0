use Rattle.engine.proofs.Dumps.{stepped_begun, stepped_unbegun, stepped_undrawn}
use Rattle.engine.proofs.store.Store.begin_dump.Goals as goal

pub returns-in-Ok-Refused : goal.returns-in-Ok-Refused
returns-in-Ok-Refused g c = stepped_unbegun c.args.self.now c.args.caller c.args.db.now c.args.asked c.in-Ok-Refused.reason _ c.requires (rw c.in-Ok-Refused.field-0-is at c.in-Ok-Refused.ensures)

pub returns-in-Ok : goal.returns-in-Ok
returns-in-Ok g c =
    stepped_begun c.args.self.now c.open_dump.new.self c.args.caller c.args.db.now c.args.asked c.in-Ok-Ready.dump c.in-Ok-Ready.item _ _ _ (rw c.in-Ok-Ready.field-0-is at c.in-Ok-Ready.ensures) c.in-Ok.ensures.answer c.in-Ok.ensures.ok c.in-Ok.ensures.log

pub returns-in-Err-open_dump : goal.returns-in-Err-open_dump
returns-in-Err-open_dump g c =
    rw c.refusal.ensures (stepped_undrawn c.args.self.now c.open_dump.new.self c.args.caller c.args.db.now c.args.asked c.in-Ok-Ready.dump c.in-Ok-Ready.item c.in-Err-open_dump.fault _ _ (rw c.in-Ok-Ready.field-0-is at c.in-Ok-Ready.ensures) c.in-Err-open_dump.ensures.err c.in-Err-open_dump.ensures.log)
