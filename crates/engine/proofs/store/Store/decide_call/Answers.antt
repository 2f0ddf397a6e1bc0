use Rattle.std.proofs.Common.{refl}
use Rattle.cat_types.specs.declared.steps.Step.TheVariants.{Client}
use Rattle.engine.proofs.Steps.{stepped_wanting}
use Rattle.engine.proofs.Stepping.{stepped_change, stepped_fault, stepped_reply}
use Rattle.engine.proofs.store.Store.decide_call.Goals as goal

pub returns-in-Reply : goal.returns-in-Reply
returns-in-Reply g c = stepped_reply c.args.self.now c.args._caller c.args.call.now c.args.moment c.in-Reply.reply _ c.requires.poll c.requires.sure c.in-Reply.ensures.decided

pub returns-in-Ok : goal.returns-in-Ok
returns-in-Ok g c =
    stepped_change c.args.self.now c.accept.new.self c.args._caller c.args.call.now c.args.moment c.in-Change.change c.in-Change.reply _ _ c.requires.poll c.in-Change.ensures.decided c.in-Change.ensures.taken c.in-Ok.ensures.ok c.in-Ok.ensures.log

pub returns-in-Err : goal.returns-in-Err
returns-in-Err g c =
    rw c.refusal.ensures (stepped_fault c.args.self.now c.accept.new.self c.args._caller c.args.call.now c.args.moment c.in-Change.change c.in-Change.reply c.in-Err.fault _ _ c.in-Change.ensures.decided c.in-Change.ensures.taken c.in-Err.ensures.err c.in-Err.ensures.log)

pub returns-in-NoMemory : goal.returns-in-NoMemory
returns-in-NoMemory g c = stepped_wanting c.args.self.now c.args._caller (Client c.args.call.now c.args.moment) _ refl c.requires.sure
