use Rattle.cat_objects.proofs.PlacedBack.{altered_database}
use Rattle.cat_objects.proofs.cat.Cat.alter_database.Goals as goal

pub returns : goal.returns
returns c = altered_database c.args.self.now c.swap_record-before.new.self c.args.db.now c.args.rec.now c.swap_record-before.result (c.in_ok-db.db, c.in_ok-db.rec) c.in_ok-db.ensures c.swap_record-before.ensures.value c.swap_record-before.ensures.after
