use Rattle.std.proofs.Common.{refl}
use Rattle.dump_manifest.specs.Manifests.{begin_line, end_line, kind_line}
use Rattle.dump_manifest.specs.Reading.{at_begin, at_born, at_end, at_kind}
use Rattle.dump_manifest.proofs.Places.{stopped_here, stopped_later, stuck_begin, stuck_born, stuck_end}
use Rattle.dump_manifest.proofs.heads.read_span.Goals as goal

pub returns-in_default-take_begin : goal.returns-in_default-take_begin
returns-in_default-take_begin c = λ s d.
    let k = c.in-Some.bootstrap in
    let a = c.in-Some.after_kind.now in
    stopped_later s d at_kind (at_begin k) (kind_line k) c.args.text.now a a (k, refl, refl) c.in-Some.ensures.1
    (stopped_here s d (at_begin k) a (stuck_begin s d k a c.in_default-take_begin.ensures))

pub returns-in_default-take_end : goal.returns-in_default-take_end
returns-in_default-take_end c = λ s d.
    let k = c.in-Some.bootstrap in
    let a = c.in-Some.after_kind.now in
    let n = c.in-Some-take_begin.begin in
    let b = c.in-Some-take_begin.after_begin.now in
    stopped_later s d at_kind (at_begin k) (kind_line k) c.args.text.now a b (k, refl, refl) c.in-Some.ensures.1
    (stopped_later s d (at_begin k) (at_end k n) (begin_line n) a b b (n, c.in-Some-take_begin.ensures.0, refl, refl) c.in-Some-take_begin.ensures.1
    (stopped_here s d (at_end k n) b (stuck_end s d k n b c.in_default-take_end.ensures)))

pub returns-in_default-take_born : goal.returns-in_default-take_born
returns-in_default-take_born c = λ s d.
    let k = c.in-Some.bootstrap in
    let a = c.in-Some.after_kind.now in
    let n = c.in-Some-take_begin.begin in
    let b = c.in-Some-take_begin.after_begin.now in
    let m = c.in-Some-take_end.end in
    let e = c.in-Some-take_end.after_end.now in
    stopped_later s d at_kind (at_begin k) (kind_line k) c.args.text.now a e (k, refl, refl) c.in-Some.ensures.1
    (stopped_later s d (at_begin k) (at_end k n) (begin_line n) a b e (n, c.in-Some-take_begin.ensures.0, refl, refl) c.in-Some-take_begin.ensures.1
    (stopped_later s d (at_end k n) (at_born k) (end_line m) b e e (m, c.in-Some-take_end.ensures.0, refl, refl) c.in-Some-take_end.ensures.1
    (stopped_here s d (at_born k) e (stuck_born s d k e c.in_default-take_born.ensures))))
