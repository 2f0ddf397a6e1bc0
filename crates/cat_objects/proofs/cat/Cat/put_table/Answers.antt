use Rattle.std.proofs.Common.{◌≡◌, true, ap, ◌∙◌, rules}
use Rattle.cat_values.specs.declared.records.TableRec.{TableRec}
use Rattle.cat_objects.specs.Catalogue.{has_table}
use Rattle.cat_objects.specs.Changes.{changed_tables, with_old_table}
use Rattle.cat_objects.proofs.Editing.{put_there}
use Rattle.cat_objects.proofs.cat.Cat.put_table.Goals as goal

pub returns-then-is_some : goal.returns-then-is_some
returns-then-is_some c =
    let there : has_table c.args.self.now c.args.db.now c.args.name.now ≡ true = search rules in
    c.restore_table_record.ensures
    ∙ ap (λ (rec : TableRec). changed_tables c.args.db.now (with_old_table c.args.name.now c.args.born rec) c.args.self.now) c.in_ok-rec.ensures
    ∙ put_there c.args.self.now c.args.db.now c.args.name.now c.args.born c.args.rec.now there
