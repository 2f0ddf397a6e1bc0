use Rattle.std.proofs.Common.{refl}
use Rattle.cat_objects.specs.Changes.{with_parts}
use Rattle.cat_objects.proofs.Editing.{held_put}
use Rattle.cat_objects.proofs.cat.Cat.give_parts.Goals as goal

pub returns : goal.returns
returns c =
    held_put c.args.self.now c.take_table-born.new.self c.restore_table.new.self c.args.db.now c.args.name.now c.take_table-born.ensures.left.0 c.take_table-born.result (with_parts c.args.given c.take_table-born.result) (λ held. with_parts c.args.given held)
    c.take_table-born.ensures.value c.take_table-born.ensures.left.1 refl c.restore_table.ensures
