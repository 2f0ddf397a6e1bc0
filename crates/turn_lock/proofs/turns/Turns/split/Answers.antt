use Rattle.std.proofs.Common.{arith}
use Rattle.std.specs.Prelude.{Some}
use Rattle.turn_lock.specs.Lock.{HasHistory}
use Rattle.turn_lock.proofs.Splits.{split_at}
use Rattle.turn_lock.proofs.Stages.{idle_of}
use Rattle.turn_lock.proofs.turns.Turns.split.Goals as goal

pub split_seat-seat-requires : goal.split_seat-seat-requires
split_seat-seat-requires g c =
    let pass = c.args.pass.now in (
      c.requires.here,
      omega (arith, c.args.self.now.words),
      split_at g.V.Standing.caller_of (HasHistory g.V.Standing.history g.V.Standing.start) (Some (g.V.Standing.start c.args.self.now.table.shared.key.value)) pass.seat.id pass.seat.me.0 c.requires.first (idle_of pass.seat.me.0.stage pass.at_rest c.requires.inside) (omega (arith, c.requires.few, pass.splits_told)),
    )
