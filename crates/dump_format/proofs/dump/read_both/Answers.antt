use Rattle.dump_format.proofs.Found.{fault_weaker}
use Rattle.dump_format.proofs.Whole.{event_harmed, events_read, items_read}
use Rattle.dump_format.proofs.dump.read_both.Goals as goal

pub returns-in-Ok-read_lines-clause-answer : goal.returns-in-Ok-read_lines-clause-answer
returns-in-Ok-read_lines-clause-answer g c = (
  items_read c.args.manifest.now c.in_ok-bounds.bounds c.in_ok-bounds.ensures c.as_slice-lines.result.now c.as_slice-lines.ensures.items c.item_count.result c.item_count.ensures.count
      _ c.args.dir.now _ c.in-Ok.items c.split_at.ensures.front c.in-Ok.ensures.answer,
  events_read c.args.manifest.now c.in_ok-bounds.bounds c.in_ok-bounds.ensures c.as_slice-lines.result.now c.as_slice-lines.ensures.items c.item_count.result c.item_count.ensures.count
      _ _ c.args.dir.now _ c.in-Ok-read_lines.events c.read_lines.ensures.same c.split_at.ensures.back c.in-Ok-read_lines.ensures.answer,
)

pub returns-clause-answer : goal.returns-clause-answer
returns-clause-answer g c =
    let items = items_read c.args.manifest.now c.in_ok-bounds.bounds c.in_ok-bounds.ensures c.as_slice-lines.result.now c.as_slice-lines.ensures.items c.item_count.result c.item_count.ensures.count
    _ c.args.dir.now _ c.in-Ok.items c.split_at.ensures.front c.in-Ok.ensures.answer in
    fault_weaker _ _ _ _ _ c.in-Err-read_lines.fault c.read_lines.ensures.later
    (λ name harm bad. event_harmed c.args.manifest.now c.in_ok-bounds.bounds c.in_ok-bounds.ensures c.as_slice-lines.result.now c.as_slice-lines.ensures.items c.item_count.result c.item_count.ensures.count
    _ _ c.args.dir.now _ c.in-Ok.items name harm c.read_lines.ensures.same c.split_at.ensures.back items bad)
    c.in-Err-read_lines.ensures.answer
