use Rattle.dump_format.proofs.Found.{fault_weaker}
use Rattle.dump_format.proofs.Whole.{events_before, file_damaged, items_before}
use Rattle.dump_format.proofs.dump.read_dump.Goals as goal

pub returns-in-Ok-read_both-clause-answer : goal.returns-in-Ok-read_both-clause-answer
returns-in-Ok-read_both-clause-answer g c = record {
  head = c.in-Ok.ensures.answer;
  items = items_before _ _ c.args.dir.now c.in-Ok.manifest c.in-Ok-read_both.items c.read_head.ensures.same c.in-Ok-read_both.ensures.answer.0;
  events = events_before _ _ c.args.dir.now c.in-Ok.manifest c.in-Ok-read_both.events c.read_head.ensures.same c.in-Ok-read_both.ensures.answer.1;
}

pub returns-in-Err-read_both-clause-answer : goal.returns-in-Err-read_both-clause-answer
returns-in-Err-read_both-clause-answer g c =
    fault_weaker _ _ _ _ _ c.in-Err-read_both.fault c.read_head.ensures.later
    (λ name harm bad. file_damaged _ _ c.args.dir.now c.in-Ok.manifest name harm c.read_head.ensures.same c.in-Ok.ensures.answer bad)
    c.in-Err-read_both.ensures.answer
