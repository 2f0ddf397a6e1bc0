use Rattle.std.proofs.Common.{◌∙◌, arith}
use Rattle.std.specs.Prelude.{Some}
use mathlib.Core.Option.{none}
use Rattle.atomic_table.specs.Table.{step}
use Rattle.turn_lock.specs.Lock.{HasHistory}
use Rattle.turn_lock.proofs.Moves.{draw_moves, look_moves}
use Rattle.turn_lock.proofs.Calls.{waits_for, took_it, held_one}
use Rattle.turn_lock.proofs.turns.Turns.take.Goals as goal

pub fetch_add-ticket-requires : goal.fetch_add-ticket-requires
fetch_add-ticket-requires g c = (
  c.requires.here,
  omega (arith, c.args.self.now.words),
  draw_moves g.V.Standing.caller_of (HasHistory g.V.Standing.history g.V.Standing.start) (Some (g.V.Standing.start c.args.self.now.table.shared.key.value)) c.args.self.now.table.shared.table_id.slots c.args.seat.now.id c.args.seat.now.me c.requires.idle.0,
)

pub load-requires : goal.load-requires
load-requires g c = (
  c.loop.invariant.here ∙ c.requires.here,
  omega (arith, c.args.self.now.words),
  look_moves g.V.Standing.caller_of (HasHistory g.V.Standing.history g.V.Standing.start) (Some (g.V.Standing.start c.args.self.now.table.shared.key.value)) c.args.self.now.table.shared.table_id.slots c.loop.seat.id c.loop.seat.me c.loop.invariant.number.0
      (waits_for c.loop.seat.me c.args.seat.now.me.0 c.args.seat.now.me.1 c.loop.invariant.number.0 c.loop.invariant.number.2),
)

pub exchange-requires : goal.exchange-requires
exchange-requires g c =
    let i = c.loop.invariant.number in
    let t = took_it g.V.Standing.caller_of (HasHistory g.V.Standing.history g.V.Standing.start) (step c.args.self.now.table.shared.table_id.slots 1 0 0 none) c.loop.seat.me c.load.new.seat.me c.load.result i.0
    (waits_for c.loop.seat.me c.args.seat.now.me.0 c.args.seat.now.me.1 i.0 i.2) (c.if-load-ticket.true ∙ i.1) c.load.ensures.2 in (
      c.load.ensures.0 ∙ c.loop.invariant.here ∙ c.requires.here,
      (Some t.1, held_one c.load.new.seat.me _ (Some t.1) c.loop.seat.me.1 t.6),
    )
