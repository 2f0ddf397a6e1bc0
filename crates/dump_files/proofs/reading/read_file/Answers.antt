use Rattle.std.proofs.Common.{None, arith}
use Rattle.std.specs.List.{last_or}
use Rattle.std.proofs.lemmas.Result.{err_from_is_err_and}
use Rattle.dump_files.proofs.Whole.{all_read, bytes_left, count_stops, elements_stop, none_counted}
use Rattle.dump_files.proofs.reading.read_file.Goals as goal

pub returns-in_err-count-clause-exact : goal.returns-in_err-count-clause-exact
returns-in_err-count-clause-exact g c =
    let p = err_from_is_err_and c.from_residual.result c.from_residual.ensures.1 in
    rw (p.1, p.2) (count_stops (g.T.Judged.rule c.args.bounds.now) (last_or None c.args.elements.now) g.T.Judged.read c.args.bytes.now c.args.elements.now c.args.elements.now c.in_err-count.field-0.0 c.in_err-count.ensures)

pub returns-then-count-eq0-clause-exact : goal.returns-then-count-eq0-clause-exact
returns-then-count-eq0-clause-exact g c =
    none_counted (g.T.Judged.rule c.args.bounds.now) (last_or None c.args.elements.now) g.T.Judged.read c.args.bytes.now c.args.elements.now c.args.elements.now c.in_ok-count.count c.in_ok-count.first c.in_ok-count.ensures (omega (arith, c.if-count-eq0.true))

pub returns-in_err-behind-clause-exact : goal.returns-in_err-behind-clause-exact
returns-in_err-behind-clause-exact g c =
    let p = err_from_is_err_and c.from_residual-in_err-behind.result c.from_residual-in_err-behind.ensures.1 in
    rw (p.1, p.2) (elements_stop (g.T.Judged.rule c.args.bounds.now) (last_or None c.args.elements.now) g.T.Judged.read c.args.bytes.now c.args.elements.now c.read_elements.new.elements c.in_ok-count.count c.in_ok-count.first c.in_ok-count.ensures (omega (arith, c.if-count-eq0.false))
    c.in_err-behind.field-0.0 c.in_err-behind.ensures.exact)

pub returns-then-behind-bytes-clause-exact : goal.returns-then-behind-bytes-clause-exact
returns-then-behind-bytes-clause-exact g c =
    let e = c.in_ok-behind.ensures.exact in
    bytes_left (g.T.Judged.rule c.args.bounds.now) (last_or None c.args.elements.now) g.T.Judged.read c.args.bytes.now c.args.elements.now c.read_elements.new.elements c.in_ok-count.count c.in_ok-count.first c.in_ok-count.ensures (omega (arith, c.if-count-eq0.false))
    e.0 c.in_ok-behind.behind e.2 (omega (arith, c.if-behind-bytes.true))

pub returns-clause-exact : goal.returns-clause-exact
returns-clause-exact g c =
    let e = c.in_ok-behind.ensures.exact in (
      e.0,
      all_read (g.T.Judged.rule c.args.bounds.now) (last_or None c.args.elements.now) g.T.Judged.read c.args.bytes.now c.args.elements.now c.read_elements.new.elements c.in_ok-count.count c.in_ok-count.first c.in_ok-count.ensures (omega (arith, c.if-count-eq0.false))
          e.0 c.in_ok-behind.behind e.2 (omega (arith, c.if-behind-bytes.false)),
      e.1,
    )
