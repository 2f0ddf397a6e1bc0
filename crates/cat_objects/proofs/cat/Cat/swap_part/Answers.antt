use Rattle.std.proofs.Common.{ap}
use Rattle.cat_objects.specs.Changes.{with_parts}
use Rattle.cat_objects.specs.Parts.{PartList}
use Rattle.cat_objects.proofs.Putting.{replaced_part}
use Rattle.cat_objects.proofs.Editing.{held_put}
use Rattle.cat_objects.proofs.cat.Cat.swap_part.Goals as goal

pub returns : goal.returns
returns c =
    held_put c.args.self.now c.take_table-held.new.self c.restore_table.new.self c.args.db.now c.args.name.now c.take_table-held.ensures.left.0 c.take_table-held.result (with_parts c.replace_in.new.parts c.take_table-held.result)
    (λ held. with_parts ((replaced_part c.args.values.now c.args.rec) held.parts) held) c.take_table-held.ensures.value c.take_table-held.ensures.left.1 (ap (λ (parts : PartList). with_parts parts c.take_table-held.result) c.replace_in.ensures) c.restore_table.ensures
