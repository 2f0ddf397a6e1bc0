use Rattle.std.proofs.Common.{ap, ◌∙◌}
use Rattle.cat_values.specs.declared.records.DbRec.{DbRec}
use Rattle.cat_objects.proofs.Editing.{given, record_put, with_database}
use Rattle.cat_objects.proofs.cat.Cat.swap_record.Goals as goal

pub returns-clause-after : goal.returns-clause-after
returns-clause-after c =
    record_put c.args.self.now c.take_database-held.new.self c.put_back.new.self c.args.db.now c.take_database-held.result c.args.rec c.take_database-held.ensures.held c.take_database-held.ensures.left
    (c.put_back.ensures ∙ ap (λ (rec : DbRec). with_database c.args.db.now c.take_database-held.new.self (given rec c.take_database-held.result)) c.replace-before.ensures.after)
