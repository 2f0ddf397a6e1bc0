use Rattle.std.proofs.Common.{◌∙◌, ap}
use Rattle.std.proofs.lemmas.Slice.Zip.{Zip-more, either_empty_from_Zip}
use Rattle.std.specs.Iterator.Adapters.{zip_first, zip_second}
use Rattle.std.specs.Prelude.{string_bytes}
use Rattle.std.specs.Slice.Iter.{iter_rest}
use Rattle.part_names.proofs.Joining.{named_none, named_more, named_all}
use Rattle.part_names.proofs.making.joined_name.Goals as goal

pub loop-key-init : goal.loop-key-init
loop-key-init c =
    let same = c.into_iter-key-iterator.ensures.into_iter_gives in
    named_none c.args.keys.now c.args.values.now _ _ _ c.in_ok-name.ensures.bytes
    (ap (λ it. iter_rest (zip_first it)) same ∙ ap iter_rest c.zip-key-items.ensures.first ∙ c.iter.ensures.rest ∙ c.as_slice.ensures.items)
    (ap (λ it. iter_rest (zip_second it)) same ∙ c.zip-key-items.ensures.second.0 ∙ c.as_slice-2.ensures.items)

pub loop-key-preserved : goal.loop-key-preserved
loop-key-preserved c =
    let turn = Zip-more c.loop-key.key-iterator c.next.new.self c.next.result _ c.in-Some.is c.next.ensures.steps in
    named_more _ _ _ _ c.in-Some.key.now c.in-Some.value.now _ _ _ c.loop-key.invariant turn.0 turn.1 c.in_ok-push_component.ensures

pub returns : goal.returns
returns c =
    let end = either_empty_from_Zip c.loop-key.key-iterator c.next.new.self c.next.result c.in-None.is c.next.ensures.steps in
    named_all _ _ _ _ c.loop-key.invariant end
