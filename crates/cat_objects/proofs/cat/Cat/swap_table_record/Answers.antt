use Rattle.std.proofs.Common.{refl}
use Rattle.cat_objects.specs.Changes.{with_table_record}
use Rattle.cat_objects.proofs.Editing.{held_put}
use Rattle.cat_objects.proofs.cat.Cat.swap_table_record.Goals as goal

pub returns-clause-after : goal.returns-clause-after
returns-clause-after c =
    held_put c.args.self.now c.take_table-held.new.self c.restore_table.new.self c.args.db.now c.args.name.now c.take_table-held.ensures.left.0 c.take_table-held.result (with_table_record c.args.born c.args.rec c.take_table-held.result)
    (with_table_record c.args.born c.args.rec) c.take_table-held.ensures.value c.take_table-held.ensures.left.1 refl c.restore_table.ensures
