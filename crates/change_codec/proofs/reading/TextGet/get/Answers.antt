use Rattle.std.proofs.Common.{refl}
use Rattle.change_codec.proofs.Numbers.{text_bad, text_ok}
use Rattle.change_codec.proofs.reading.TextGet.get.Goals as goal

pub returns-in-Some : goal.returns-in-Some
returns-in-Some c =
    text_ok c.args.bytes.now c.in_ok-count.count c.in_ok-count.rest.now c.in_ok-front.front.now c.in_ok-front.rest.now c.in-Some.text c.in_ok-from_slice.field-0.items c.in_ok-count.ensures.gives c.in_ok-front.ensures.gives
    c.in_ok-from_slice.ensures.items c.in-Some.ensures.utf8 c.in-Some.ensures.same

pub returns-in-None : goal.returns-in-None
returns-in-None c =
    text_bad c.args.bytes.now c.in_ok-count.count c.in_ok-count.rest.now c.in_ok-front.front.now c.in_ok-front.rest.now c.in_ok-from_slice.field-0.items c.in_ok-count.ensures.gives c.in_ok-front.ensures.gives
    c.in_ok-from_slice.ensures.items (c.in-None.ensures.none refl)
