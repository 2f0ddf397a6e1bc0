use Rattle.cat_objects.proofs.Editing.{parts_moved}
use Rattle.cat_objects.proofs.cat.Cat.settle_move.Goals as goal

pub returns : goal.returns
returns c =
    parts_moved c.args.self.now c.take_parts-parts.new.self c.give_parts.new.self c.remove_table.new.self c.args.db.now c.args.name.now c.args.to.now c.take_parts-parts.result c.take_parts-parts.ensures.value c.take_parts-parts.ensures.left
    c.give_parts.ensures c.remove_table.ensures
