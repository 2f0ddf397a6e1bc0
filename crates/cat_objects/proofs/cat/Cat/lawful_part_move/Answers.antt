use Rattle.std.proofs.Common.{Bool, not, ◌&&◌, ap, ◌∙◌}
use Rattle.cat_objects.specs.Changes.{done_ops}
use Rattle.cat_objects.specs.Lawful.{is_lawful}
use Rattle.cat_types.specs.declared.changes.Op.TheVariants.{PutPart}
use Rattle.cat_objects.proofs.Lawfully.{part_move_lawful}
use Rattle.cat_objects.proofs.cat.Cat.lawful_part_move.Goals as goal

pub returns : goal.returns
returns c = λ made at values rec.
    c.but_not.ensures
    ∙ ap (λ (b : Bool). b && not c.stands_after-there.result) (c.lawful_part-room.ensures made at rec)
    ∙ ap (λ (b : Bool). is_lawful (done_ops c.args.db.now made c.args.self.now c.args.before.now) c.args.db.now (PutPart c.args.name.now at c.args.to.now rec) && not b) (c.stands_after-there.ensures made)
    ∙ part_move_lawful (done_ops c.args.db.now made c.args.self.now c.args.before.now) c.args.db.now c.args.name.now at values c.args.to.now rec
