use Rattle.catalogue.proofs.Numbering.{numbered, unnumbered}
use Rattle.catalogue.specs.Rules.{breaks, change, result_of}
use Rattle.catalogue.proofs.decision.decide_call.Goals as goal

pub returns-in-Change : goal.returns-in-Change
returns-in-Change c =
    numbered (breaks c.args.cat.now c.args.bars.now c.args.call.now) (change c.args.cat.now c.args.bars.now c.args.call.now c.args.moment c.args.next) (result_of c.args.cat.now c.args.bars.now c.args.call.now c.args.moment c.args.next) c.args.next
    c.in-Change.change c.in-Change.reply c.number_event.result c.in-Change.ensures c.number_event.ensures

pub returns-in-Reply : goal.returns-in-Reply
returns-in-Reply c =
    unnumbered (breaks c.args.cat.now c.args.bars.now c.args.call.now) (change c.args.cat.now c.args.bars.now c.args.call.now c.args.moment c.args.next) (result_of c.args.cat.now c.args.bars.now c.args.call.now c.args.moment c.args.next) c.args.next
    c.in-Reply.reply c.in-Reply.ensures
