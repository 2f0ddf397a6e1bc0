use Rattle.std.proofs.Common.{arith, ap, get_or, length, sym, subst, ◌∙◌, ◌≡◌, ◌≤◌, ◌<◌, ◌-◌, min, suc, true, false}
use Rattle.notify_log.specs.Logs.{AreNumbered, events_between, is_of}
use Rattle.notify_log.proofs.Between.{added, all_before, found_all, IsCut, IsWhole, left_out, longer, none_before, none_more, one_more}
use Rattle.notify_log.proofs.event_log.EventLog.of_database.Goals as goal
use Rattle.notify_log.proofs.event_log.EventLog.of_database.Goals.{then-is_of+else-len-max+in_ok-copy+in_ok-push, else-is_of}

pub loop-at-init : goal.loop-at-init
loop-at-init c =
    let numbered = subst (λ k. AreNumbered k.first k.events) c.self.view_is c.self.invariant.0 in
    record {
      found = c.new-events.ensures ∙ sym (none_before c.args.db.now c.args.born c.args.after c.args.end c.count_upto-at.result c.args.self.now.first c.args.self.now.events numbered (omega (arith, c.count_upto-at.ensures.count)));
      few = omega (arith, ap length c.new-events.ensures);
    }

pub loop-at-preserved : goal.loop-at-preserved
loop-at-preserved c =
    let numbered = subst (λ k. AreNumbered k.first k.events) c.self.view_is c.self.invariant.0 in
    let same = subst (λ k. c.index-event.result.now ≡ get_or k.events c.loop-at.at c.index-event.result.now) c.self.view_is c.index-event.ensures in
    let from : min (suc c.args.after - c.args.self.now.first) (length c.args.self.now.events) ≤ c.loop-at.at = omega (arith, c.count_upto-at.ensures.count, c.loop-at.auto.at) in
    let upto : c.loop-at.at < min (suc c.args.end - c.args.self.now.first) (length c.args.self.now.events) = omega (arith, c.count_upto-at-end.ensures.count, c.loop-at-test.true) in
    elim c.if-is_of.branch [
      | then-is_of+else-len-max+in_ok-copy+in_ok-push w ↦
          let is : is_of c.args.db.now c.args.born c.index-event.result.now ≡ true = sym c.is_of.ensures ∙ w.if-is_of.true in
          let more = one_more c.args.db.now c.args.born c.args.after c.args.end c.loop-at.at c.args.self.now.first c.args.self.now.events c.index-event.result.now numbered from upto same is in
          record {
            found = w.events-is ∙ added w.push.new.self c.loop-at.events _ _ w.in_ok-copy.field-0 c.index-event.result.now w.in_ok-push.ensures.ok c.loop-at.invariant.found w.in_ok-copy.ensures more;
            few = omega (arith, ap length w.events-is, longer _ _ _ w.in_ok-push.ensures.ok, c.loop-at.invariant.few, w.if-len-max.false, w.len.ensures.count);
          }
      | else-is_of w ↦
          let is : is_of c.args.db.now c.args.born c.index-event.result.now ≡ false = sym c.is_of.ensures ∙ w.if-is_of.false in
          let more = none_more c.args.db.now c.args.born c.args.after c.args.end c.loop-at.at c.args.self.now.first c.args.self.now.events c.index-event.result.now numbered from upto same is in
          record {
            found = w.events-is ∙ (c.loop-at.invariant.found ∙ sym more);
            few = omega (arith, ap length w.events-is, c.loop-at.invariant.few);
          }
    ]

cut : (c : goal.Then-len-max) → IsCut c.args.max c.loop-at.events (events_between c.args.db.now c.args.born c.args.after c.args.end c.args.self.now.events)
cut c =
    left_out c.args.db.now c.args.born c.args.after c.args.end c.loop-at.at c.args.self.now.first c.args.max c.args.self.now.events c.loop-at.events c.index-event.result.now
    (subst (λ k. AreNumbered k.first k.events) c.self.view_is c.self.invariant.0)
    (omega (arith, c.count_upto-at.ensures.count, c.loop-at.auto.at))
    (omega (arith, c.count_upto-at-end.ensures.count, c.loop-at-test.true))
    (subst (λ k. c.index-event.result.now ≡ get_or k.events c.loop-at.at c.index-event.result.now) c.self.view_is c.index-event.ensures)
    (sym c.is_of.ensures ∙ c.if-is_of.true)
    c.loop-at.invariant.found
    (sym c.len.ensures.count ∙ c.if-len-max.true)

pub returns-then-len-max-clause-events : goal.returns-then-len-max-clause-events
returns-then-len-max-clause-events c = (cut c).0

pub returns-then-len-max-clause-more : goal.returns-then-len-max-clause-more
returns-then-len-max-clause-more c = (cut c).1

whole : (c : goal.After-loop-at) → IsWhole c.args.max c.loop-at.events (events_between c.args.db.now c.args.born c.args.after c.args.end c.args.self.now.events)
whole c =
    found_all c.args.max c.loop-at.events _
    (c.loop-at.invariant.found ∙ all_before c.args.db.now c.args.born c.args.after c.args.end c.loop-at.at c.args.self.now.first c.args.self.now.events
    (subst (λ k. AreNumbered k.first k.events) c.self.view_is c.self.invariant.0)
    (omega (arith, c.count_upto-at-end.ensures.count, c.loop-at-test.false)))
    c.loop-at.invariant.few

pub returns-clause-events : goal.returns-clause-events
returns-clause-events c = (whole c).0

pub returns-clause-more : goal.returns-clause-more
returns-clause-more c = (whole c).1
