use Rattle.std.proofs.Common.{refl}
use Rattle.part_names.proofs.Parts.{unreadable_first}
use Rattle.part_names.proofs.reading.parts_of.Goals as goal

pub returns-in_default-first_component-clause-bad : goal.returns-in_default-first_component-clause-bad
returns-in_default-first_component-clause-bad c = λ i told.
    let so_far = rw c.in-Some.is at c.loop-rest.invariant.unreadable in
    unreadable_first c.in-Some.text.now i _ _ so_far (c.in_default-first_component.ensures.none refl) (cc)
