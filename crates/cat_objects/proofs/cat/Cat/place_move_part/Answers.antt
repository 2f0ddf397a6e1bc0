use Rattle.cat_objects.proofs.Putting.{moved_part_copies}
use Rattle.cat_objects.proofs.cat.Cat.place_move_part.Goals as goal

pub returns : goal.returns
returns c =
    moved_part_copies c.args.self.now c.insert_part.new.self c.args.db.now c.args.table.now c.args.values.now c.args.to.now c.args.rec.now ((c.in_ok-db.db, c.in_ok-db.table), (c.in_ok-db.values, c.in_ok-db.to), (c.in_ok-db.new, c.in_ok-db.rec)) c.requires
    c.in_ok-db.ensures c.in_ok-insert_part.ensures.ok
