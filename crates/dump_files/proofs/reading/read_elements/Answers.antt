use Rattle.std.proofs.Common.{refl}
use Rattle.std.proofs.lemmas.Result.{err_from_is_err_and}
use Rattle.dump_files.proofs.Turns.{begins, held, is_done, one_more, stops}
use Rattle.dump_files.proofs.reading.read_elements.Goals as goal

pub loop-place-init : goal.loop-place-init
loop-place-init g c = begins (g.T.Judged.rule c.args.bounds.now) g.T.Judged.read c.args.count c.args.bytes.now c.args.elements.now _ c.args.first c.requires refl

pub read_element-requires : goal.read_element-requires
read_element-requires g c = c.loop-place.invariant.within

pub returns-in_err-at-clause-kept : goal.returns-in_err-at-clause-kept
returns-in_err-at-clause-kept g c =
    held (g.T.Judged.rule c.args.bounds.now) g.T.Judged.read c.args.count c.args.bytes.now c.args.elements.now _ c.loop-place.elements c.read_element.new.elements c.loop-place.at c.loop-place.place c.in_err-at.ensures.kept c.loop-place.invariant

pub returns-in_err-at-clause-exact : goal.returns-in_err-at-clause-exact
returns-in_err-at-clause-exact g c =
    let p = err_from_is_err_and c.from_residual.result c.from_residual.ensures.1 in
    rw (p.1, p.2) (stops (g.T.Judged.rule c.args.bounds.now) g.T.Judged.read c.args.count c.args.bytes.now c.args.elements.now _ c.loop-place.elements c.loop-place.at c.loop-place.place c.in_err-at.field-0.0 c.loop-place-test.true c.in_err-at.ensures.exact c.loop-place.invariant)

pub loop-place-preserved : goal.loop-place-preserved
loop-place-preserved g c =
    one_more (g.T.Judged.rule c.args.bounds.now) g.T.Judged.read c.args.count c.args.bytes.now c.args.elements.now _ c.loop-place.elements c.read_element.new.elements c.loop-place.at c.loop-place.place c.in_ok-at.at c.loop-place-test.true c.in_ok-at.ensures.exact c.loop-place.invariant

pub returns-clause-kept : goal.returns-clause-kept
returns-clause-kept g c = (c.loop-place.invariant.front, c.loop-place.invariant.grown)

pub returns-clause-exact : goal.returns-clause-exact
returns-clause-exact g c =
    is_done (g.T.Judged.rule c.args.bounds.now) g.T.Judged.read c.args.count c.args.bytes.now c.args.elements.now _ c.loop-place.elements c.loop-place.at c.loop-place.place c.loop-place-test.false c.loop-place.invariant
