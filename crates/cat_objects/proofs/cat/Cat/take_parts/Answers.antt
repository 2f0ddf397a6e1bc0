use Rattle.std.proofs.Common.{[]}
use Rattle.cat_objects.specs.Changes.{with_parts}
use Rattle.cat_objects.proofs.Editing.{held_put}
use Rattle.cat_objects.proofs.cat.Cat.take_parts.Goals as goal

pub returns-clause-left : goal.returns-clause-left
returns-clause-left c =
    held_put c.args.self.now c.take_table-born.new.self c.restore_table.new.self c.args.db.now c.args.name.now c.take_table-born.ensures.left.0 c.take_table-born.result c.new_table-emptied.result (λ held. with_parts [] held)
    c.take_table-born.ensures.value c.take_table-born.ensures.left.1 c.new_table-emptied.ensures c.restore_table.ensures
