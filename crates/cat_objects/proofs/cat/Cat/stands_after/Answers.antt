use Rattle.std.proofs.Common.{◌≡◌, Bool, true, false, not, ◌&&◌, ◌||◌, is_some, ap, subst, sym, ◌∙◌, rules}
use Rattle.cat_objects.specs.Catalogue.{table}
use Rattle.cat_objects.specs.Changes.{done_ops}
use Rattle.cat_objects.specs.Seen.{puts, takes, touched}
use Rattle.cat_objects.specs.declared.following.Touch.{Touch}
use Rattle.cat_objects.specs.declared.seen.Seen.{Seen}
use Rattle.cat_objects.proofs.Lawfully.{some_shape}
use Rattle.cat_objects.proofs.Walking.{Walk, ends_gone, ends_here, ends_put, goes_on}
use Rattle.cat_objects.proofs.cat.Cat.stands_after.Goals as goal

pub returns-in_default-name_before : goal.returns-in_default-name_before
returns-in_default-name_before c = λ born.
    sym
    (ends_gone c.args.self.now c.args.db.now c.args.name.now c.args.values.now c.args.before.now c.seen-first.ensures.rising
    c.loop-op.rest.now c.in-Some.front.now c.in-Some.op.now c.loop-op.name.now c.loop-op.taken c.loop-op.invariant c.in-Some.ensures.cases.0 (sym c.in_default-name_before.ensures) born)

pub returns-then-ends : goal.returns-then-ends
returns-then-ends c = λ born.
    let ends : (puts (touched c.loop-op.name.now c.args.values.now c.in-Some.op.now) && not c.loop-op.taken) ≡ true = search rules in
    c.is_some.ensures
    ∙ ap (λ (s : Seen). is_some s.table) (c.seen_after_all.ensures born)
    ∙ some_shape (table (done_ops c.args.db.now born c.args.self.now c.in-Some.front.now) c.args.db.now c.loop-op.name.now)
    ∙ sym
    (ends_put c.args.self.now c.args.db.now c.args.name.now c.args.values.now c.args.before.now c.seen-first.ensures.rising
    c.loop-op.rest.now c.in-Some.front.now c.in-Some.op.now c.loop-op.name.now c.in-Some-name_before.before.now c.loop-op.taken c.loop-op.invariant c.in-Some.ensures.cases.0 (sym c.in-Some-name_before.ensures) ends born)

pub loop-op-preserved : goal.loop-op-preserved
loop-op-preserved c =
    let goes : (puts (touched c.loop-op.name.now c.args.values.now c.in-Some.op.now) && not c.loop-op.taken) ≡ false = search rules in
    subst (λ (b : Bool). Walk c.args.self.now c.args.db.now c.args.name.now c.args.values.now c.args.before.now c.in-Some.front.now c.in-Some-name_before.before.now b)
    (sym (c.is_taken-taken.ensures ∙ ap (λ (t : Touch). takes t || c.loop-op.taken) c.touched-touch.ensures))
    (goes_on c.args.self.now c.args.db.now c.args.name.now c.args.values.now c.args.before.now c.seen-first.ensures.rising
    c.loop-op.rest.now c.in-Some.front.now c.in-Some.op.now c.loop-op.name.now c.in-Some-name_before.before.now c.loop-op.taken c.loop-op.invariant c.in-Some.ensures.cases.0 (sym c.in-Some-name_before.ensures) goes)

pub returns : goal.returns
returns c = λ born.
    c.but_not.ensures
    ∙ ap (λ (b : Bool). b && not c.loop-op.taken) c.held_part-there.ensures.there
    ∙ ends_here c.args.self.now c.args.db.now c.args.name.now c.args.values.now c.args.before.now c.seen-first.ensures.rising
    c.loop-op.rest.now c.loop-op.name.now c.loop-op.taken c.loop-op.invariant c.in_default.ensures.cases c.held_part-there.ensures.rising born
