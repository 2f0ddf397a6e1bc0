use Rattle.std.proofs.Common.{◌≡◌, ◌≤◌, ◌-◌, length, length-take-le, arith}
use Rattle.thrift_binary.proofs.Reading.{limit_told}
use Rattle.thrift_binary.proofs.reader.past_limit.Goals as goal

pub returns-else-count-front-clause-tells : goal.returns-else-count-front-clause-tells
returns-else-count-front-clause-tells g c =
    let fits : c.in-Ok.count ≤ length c.fill.new.buf = omega (arith, c.in-Ok.ensures.bound) in
    let room = length-take-le (c.args.limit - c.args.place) c.args.buf.now (omega (arith, c.requires.past)) in
    let all : c.in-Ok.count ≡ c.args.limit - c.args.place = omega (arith, c.in-Ok.ensures.bound, room) in
    limit_told _ _ _ c.args.place c.args.limit c.in-Ok.count (length c.args.buf.now) c.fill.new.buf c.further_byte.result c.requires.within c.requires.past all fits c.in-Ok.ensures.bytes c.further_byte.ensures.tells
