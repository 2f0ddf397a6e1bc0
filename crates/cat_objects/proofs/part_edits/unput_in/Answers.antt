use Rattle.std.proofs.Common.{List, ap, sym, ◌∙◌}
use Rattle.cat_objects.specs.Changes.{unput}
use Rattle.cat_objects.specs.declared.parts.PartPut.{PartPut}
use Rattle.cat_objects.proofs.Putting.{unput_last}
use Rattle.cat_objects.proofs.part_edits.unput_in.Goals as goal

pub loop-put-preserved : goal.loop-put-preserved
loop-put-preserved c =
    c.loop-put.invariant
    ∙ ap (λ (puts : List PartPut). unput puts c.loop-put.parts) c.in-Some.ensures.items
    ∙ unput_last c.pop.new.self.items c.in-Some.put c.loop-put.parts
    ∙ sym (ap (unput c.pop.new.self.items) c.unput_one.ensures)
