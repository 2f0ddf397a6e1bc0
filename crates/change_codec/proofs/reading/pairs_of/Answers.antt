use Rattle.std.proofs.lemmas.Result.{err_from_is_err_and}
use Rattle.change_codec.proofs.Rising.{begins, one_more, stops_at_key, stops_at_value, is_done}
use Rattle.change_codec.proofs.reading.pairs_of.Goals as goal

pub loop-init : goal.loop-init
loop-init g c = rw c.new-pairs.ensures (begins g.K.Ord.cmp g.met.K.Ord.total (g.K.Get.read c.args.version) (g.V.Get.read c.args.version) c.args.count c.args.bytes.now)

pub returns-in_err-key : goal.returns-in_err-key
returns-in_err-key g c =
    let p = err_from_is_err_and c.from_residual.result c.from_residual.ensures.1 in
    rw (p.1, p.2) (stops_at_key g.K.Ord.cmp g.met.K.Ord.total (g.K.Get.read c.args.version) (g.V.Get.read c.args.version) c.in_err-key.field-0.0 c.args.count c.loop.counter c.loop.pairs c.loop.rest.now c.args.bytes.now c.loop-test.true c.in_err-key.ensures c.loop.invariant)

pub returns-in_err-value : goal.returns-in_err-value
returns-in_err-value g c =
    let p = err_from_is_err_and c.from_residual-in_err-value.result c.from_residual-in_err-value.ensures.1 in
    rw (p.1, p.2) (stops_at_value g.K.Ord.cmp g.met.K.Ord.total (g.K.Get.read c.args.version) (g.V.Get.read c.args.version) c.in_err-value.field-0.0 c.args.count c.loop.counter c.loop.pairs c.loop.rest.now c.in_ok-key.after.now c.args.bytes.now c.in_ok-key.key
    c.loop-test.true c.in_ok-key.ensures c.in_err-value.ensures c.loop.invariant)

pub loop-preserved : goal.loop-preserved
loop-preserved g c =
    one_more g.K.Ord.cmp g.met.K.Ord.total (g.K.Get.read c.args.version) (g.V.Get.read c.args.version) c.args.count c.loop.counter c.loop.pairs c.put.new.self c.loop.rest.now c.in_ok-key.after.now c.in_ok-value.after.now c.args.bytes.now c.in_ok-key.key c.in_ok-value.value
    c.loop-test.true c.in_ok-key.ensures c.in_ok-value.ensures c.in_ok-put.ensures.ok c.loop.invariant

pub returns : goal.returns
returns g c = is_done g.K.Ord.cmp g.met.K.Ord.total (g.K.Get.read c.args.version) (g.V.Get.read c.args.version) c.args.count c.loop.counter c.loop.pairs c.loop.rest.now c.args.bytes.now c.loop-test.false c.loop.invariant
