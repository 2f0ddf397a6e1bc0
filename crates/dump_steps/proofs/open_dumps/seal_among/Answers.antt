use Rattle.std.proofs.Common.{get_or}
use Rattle.dump_steps.proofs.Sealing.{is_set, sealed_else, sealed_if, sealed_then}
use Rattle.dump_steps.proofs.open_dumps.seal_among.Goals as goal
use Rattle.dump_steps.proofs.open_dumps.seal_among.Goals.{then-is_dump, else-is_dump}

pub loop-dump-preserved : goal.loop-dump-preserved
loop-dump-preserved c =
    let at = get_or c.loop-dump.dumps c.loop-dump.dump-index c.dump-item.result in
    let f = sealed_if c.args.caller c.args.number c.args.end in
    elim c.if-is_dump.branch [
      | then-is_dump w ↦
          is_set f c.loop-dump.dump-index c.args.dumps.now c.loop-dump.dumps c.if-is_dump.dumps c.dump-item.result w.seal_at.new.self c.loop-dump-test.true c.loop-dump.invariant c.dump-item.is
          (sealed_then c.args.caller c.args.number c.args.end c.dump-item.result at w.seal_at.new.self c.is_dump.result c.dump-item.is c.is_dump.ensures w.if-is_dump.true w.seal_at.ensures) w.dumps-is
      | else-is_dump w ↦
          is_set f c.loop-dump.dump-index c.args.dumps.now c.loop-dump.dumps c.if-is_dump.dumps c.dump-item.result at c.loop-dump-test.true c.loop-dump.invariant c.dump-item.is
          (sealed_else c.args.caller c.args.number c.args.end c.dump-item.result at c.is_dump.result c.dump-item.is c.is_dump.ensures w.if-is_dump.false) w.dumps-is
    ]
