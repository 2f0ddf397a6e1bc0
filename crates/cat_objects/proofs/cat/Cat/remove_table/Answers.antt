use Rattle.cat_objects.specs.Changes.{without_table}
use Rattle.cat_objects.proofs.Editing.{tables_put}
use Rattle.cat_objects.proofs.cat.Cat.remove_table.Goals as goal

pub returns : goal.returns
returns c = tables_put c.args.self.now c.take_database-held.new.self c.put_back.new.self c.args.db.now c.take_database-held.result c.drop_table.new.tables (without_table c.args.name.now) c.take_database-held.ensures.held c.take_database-held.ensures.left c.drop_table.ensures c.put_back.ensures
