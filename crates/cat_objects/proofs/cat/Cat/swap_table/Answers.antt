use Rattle.std.proofs.Common.{◌∙◌}
use Rattle.std.specs.Map.{set_value}
use Rattle.cat_objects.specs.Catalogue.{is_name}
use Rattle.cat_objects.proofs.Editing.{Tables, table_found, tables_put}
use Rattle.cat_objects.proofs.cat.Cat.swap_table.Goals as goal

pub returns-clause-value : goal.returns-clause-value
returns-clause-value c = c.swap-before.ensures.value ∙ table_found c.args.self.now c.args.db.now c.args.name.now c.take_database-held.result c.take_database-held.ensures.held

pub returns-clause-after : goal.returns-clause-after
returns-clause-after c =
    tables_put c.args.self.now c.take_database-held.new.self c.put_back.new.self c.args.db.now c.take_database-held.result c.swap-before.new.self (λ (tables : Tables). set_value (is_name c.args.name.now) tables c.args.made) c.take_database-held.ensures.held c.take_database-held.ensures.left c.swap-before.ensures.entries
    c.put_back.ensures
