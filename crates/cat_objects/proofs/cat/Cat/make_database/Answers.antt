use Rattle.cat_objects.proofs.PlacedBack.{made_database}
use Rattle.cat_objects.proofs.cat.Cat.make_database.Goals as goal

pub returns : goal.returns
returns c = made_database c.args.self.now c.insert_database.new.self c.args.db.now c.args.born c.args.rec.now (c.in_ok-db.db, c.in_ok-db.name, c.in_ok-db.rec) c.requires c.in_ok-db.ensures c.in_ok-insert_database.ensures.ok
