use Rattle.cat_objects.proofs.PlacedBack.{moved_copies}
use Rattle.cat_objects.proofs.cat.Cat.place_move_table.Goals as goal

pub returns : goal.returns
returns c =
    moved_copies c.args.self.now c.insert_table.new.self c.args.db.now c.args.table.now c.args.to.now c.args.born c.args.rec.now ((c.in_ok-db.db, c.in_ok-db.table, c.in_ok-db.to), (c.in_ok-db.name, c.in_ok-db.rec)) c.requires c.in_ok-db.ensures
    c.in_ok-insert_table.ensures.ok
