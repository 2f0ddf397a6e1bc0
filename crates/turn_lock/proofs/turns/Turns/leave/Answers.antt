use Rattle.std.proofs.Common.{◌∙◌, ap, sym, arith, refl, ◌++◌, ◌∷◌, []}
use Rattle.std.specs.Prelude.{Some, None, length, is_some}
use mathlib.Core.Option.{none}
use Rattle.atomic_table.specs.Table.{step}
use Rattle.turn_lock.specs.Lock.{HasHistory}
use Rattle.turn_lock.specs.Rests.{rests, turn_out, carried}
use Rattle.turn_lock.proofs.Moves.{settle_moves, publish_moves}
use Rattle.turn_lock.proofs.Calls.{left, put_in}
use Rattle.turn_lock.proofs.Stages.{holds_of, given_is, given_same}
use Rattle.turn_lock.proofs.turns.Turns.leave.Goals as goal

pub load-requires : goal.load-requires
load-requires g c =
    let pass = c.args.pass.now in
    let h = c.exchange-nothing.ensures in
    let e = c.requires.entry in
    let n = holds_of pass.seat.me.0.stage c.requires.out in
    let view = ap (λ m. m.0) h.3 in (
      h.0 ∙ c.requires.here,
      omega (arith, c.args.self.now.words),
      settle_moves g.V.Standing.caller_of (HasHistory g.V.Standing.history g.V.Standing.start) (Some (g.V.Standing.start c.args.self.now.table.shared.key.value)) c.args.self.now.table.shared.table_id.slots c.exchange-nothing.new.seat.id c.exchange-nothing.new.seat.me c.args.turn.value n.0 e.0
          (put_in pass.seat.me c.exchange-nothing.new.seat.me None (Some c.args.turn.value) (pass.carries ∙ ap carried n.1) h.3)
          (ap (λ v. v.stage) view ∙ n.1)
          (e.1 ∙ sym pass.caller_told ∙ ap (λ v. v.past.caller) (sym view))
          (e.2 ∙ ap (λ v. v.past.seen ++ e.0 ∷ []) (sym view), ap Some c.requires.start ∙ given_is pass.seat.me.0.start pass.started ∙ ap (λ v. v.start) (sym view)),
    )

pub fetch_add-served-requires : goal.fetch_add-served-requires
fetch_add-served-requires g c =
    let t = c.load.ensures.2 in (
      c.load.ensures.0 ∙ c.exchange-nothing.ensures.0 ∙ c.requires.here,
      omega (arith, c.args.self.now.words),
      publish_moves g.V.Standing.caller_of (HasHistory g.V.Standing.history g.V.Standing.start) (Some (g.V.Standing.start c.args.self.now.table.shared.key.value)) c.args.self.now.table.shared.table_id.slots c.load.new.seat.id c.load.new.seat.me t.1 t.2 (ap (λ m. m.0.stage) t.7),
    )

pub invariant_of-pass : goal.invariant_of-pass
invariant_of-pass g c =
    let pass = c.args.pass.now in
    let t = left g.V.Standing.caller_of (HasHistory g.V.Standing.history g.V.Standing.start) (step 0 0 0 0 none) (step 0 0 0 0 none) pass.seat.me c.exchange-nothing.new.seat.me c.load.new.seat.me c.fetch_add-served.new.seat.me
    c.load.result c.fetch_add-served.result c.args.turn.value c.exchange-nothing.ensures.3 c.load.ensures.2 c.fetch_add-served.ensures.2 in
    record {
      at_rest = ap (λ m. rests m.0.stage) t.3;
      carries = ap (λ m. m.1) t.3 ∙ ap (λ m. carried m.0.stage) (sym t.3);
      caller_told = ap (λ m. m.0.past.caller) t.3 ∙ pass.caller_told;
      splits_told = ap (λ m. m.0.splits) t.3 ∙ pass.splits_told;
      joins_told = ap (λ m. length m.0.joined) t.3 ∙ pass.joins_told;
      started = ap (λ m. is_some m.0.start) t.3 ∙ pass.started;
    }

pub returns : goal.returns
returns g c =
    let pass = c.args.pass.now in
    let t = left g.V.Standing.caller_of (HasHistory g.V.Standing.history g.V.Standing.start) (step 0 0 0 0 none) (step 0 0 0 0 none) pass.seat.me c.exchange-nothing.new.seat.me c.load.new.seat.me c.fetch_add-served.new.seat.me
    c.load.result c.fetch_add-served.result c.args.turn.value c.exchange-nothing.ensures.3 c.load.ensures.2 c.fetch_add-served.ensures.2 in
    record {
      same = record {
        lock = c.fetch_add-served.ensures.0 ∙ c.load.ensures.0 ∙ c.exchange-nothing.ensures.0;
        first = c.fetch_add-served.ensures.1 ∙ c.load.ensures.1 ∙ c.exchange-nothing.ensures.1;
        caller = refl;
        start = given_same c.fetch_add-served.new.seat.me.0.start pass.seat.me.0.start _ pass.started (ap (λ m. m.0.start) t.3);
      };
      joins = record { splits = refl; joins = refl; joined = ap (λ m. m.0.joined) t.3 };
      inside = ap (λ m. turn_out m.0.stage) t.3;
      seen = ap (λ m. m.0.past.seen) t.3 ∙ sym t.2.0;
      calls = (t.0, t.1 ∙ pass.caller_told, t.2.0, ap (λ m. m.0.past.mine) t.3);
    }
