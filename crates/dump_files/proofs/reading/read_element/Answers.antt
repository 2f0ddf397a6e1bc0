use Rattle.std.proofs.Common.{◌∙◌, ap, sym}
use Rattle.std.proofs.lemmas.Result.{err_from_is_err_and}
use Rattle.dump_files.proofs.Turns.{element_goes_on, element_refused, element_stops}
use Rattle.dump_files.proofs.reading.read_element.Goals as goal

pub returns-in_err-element-clause-exact : goal.returns-in_err-element-clause-exact
returns-in_err-element-clause-exact g c =
    let p = err_from_is_err_and c.from_residual.result c.from_residual.ensures.1 in
    rw (p.1, p.2) (element_stops _ g.T.Judged.read c.args.bytes.now _ c.in_err-element.field-0.0 c.in_err-element.ensures)

pub returns-then-not-may_stand-clause-exact : goal.returns-then-not-may_stand-clause-exact
returns-then-not-may_stand-clause-exact g c =
    element_refused _ g.T.Judged.read c.args.bytes.now c.args.at c.requires c.in_ok-element.element c.in_ok-element.behind
    (ap (λ (o : _). g.T.Judged.rule c.args.bounds.now o c.args.place c.in_ok-element.element) (sym c.last_of.ensures) ∙ sym c.may_stand.ensures ∙ c.if-not-may_stand.true) c.in_ok-element.ensures

pub returns-clause-exact : goal.returns-clause-exact
returns-clause-exact g c = (
  c.in_ok-element.element,
  c.in_ok-push.ensures.ok,
  element_goes_on _ g.T.Judged.read c.args.bytes.now _ c.in_ok-element.element c.in_ok-element.behind
      (ap (λ (o : _). g.T.Judged.rule c.args.bounds.now o c.args.place c.in_ok-element.element) (sym c.last_of.ensures) ∙ sym c.may_stand.ensures ∙ c.if-not-may_stand.false) c.in_ok-element.ensures,
)
