use Rattle.std.proofs.Common.{arith, ◌∙◌, ap}
use Rattle.std.specs.Prelude.{Some}
use Rattle.turn_lock.specs.Lock.{HasHistory}
use Rattle.turn_lock.specs.Rests.{carried}
use Rattle.turn_lock.proofs.Joins.{join_at}
use Rattle.turn_lock.proofs.Moves.{count_moves}
use Rattle.turn_lock.proofs.Stages.{idle_of}
use Rattle.turn_lock.proofs.turns.Turns.join.Goals as goal

pub join_seat-requires : goal.join_seat-requires
join_seat-requires g c =
    let pass = c.args.pass.now in
    let other = c.args.other in
    let idle = idle_of other.seat.me.0.stage other.at_rest c.requires.inside.1 in (
      c.requires.here.0,
      c.requires.here.1,
      other.carries ∙ ap carried idle,
      omega (arith, c.args.self.now.words),
      join_at g.V.Standing.caller_of (HasHistory g.V.Standing.history g.V.Standing.start) (Some (g.V.Standing.start c.args.self.now.table.shared.key.value)) pass.seat.id pass.seat.me.0 other.seat.id other.seat.me.0 c.requires.first (idle_of pass.seat.me.0.stage pass.at_rest c.requires.inside.0) idle,
    )

pub load-requires : goal.load-requires
load-requires g c =
    let pass = c.args.pass.now in
    let idle = idle_of pass.seat.me.0.stage pass.at_rest c.requires.inside.0 in (
      c.join_seat.ensures.0 ∙ c.requires.here.0,
      omega (arith, c.args.self.now.words),
      count_moves g.V.Standing.caller_of (HasHistory g.V.Standing.history g.V.Standing.start) (Some (g.V.Standing.start c.args.self.now.table.shared.key.value)) c.args.self.now.table.shared.table_id.slots c.join_seat.new.seat.id c.join_seat.new.seat.me (c.join_seat.ensures.1 ∙ c.requires.first) (ap (λ m. m.0.stage) c.join_seat.ensures.2 ∙ idle),
    )
