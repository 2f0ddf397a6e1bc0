use Rattle.std.proofs.Common.{Bool, ◌&&◌, ap, ◌∙◌}
use Rattle.cat_objects.specs.Changes.{done_ops}
use Rattle.cat_objects.specs.Seen.{has_room}
use Rattle.cat_objects.proofs.Lawfully.{part_lawful}
use Rattle.cat_objects.proofs.cat.Cat.lawful_part.Goals as goal

pub returns : goal.returns
returns c = λ made at rec.
    c.may_hold.ensures
    ∙ ap (λ (b : Bool). b && has_room c.args.values.now c.seen_after_all-seen.result.table) c.object_name.ensures.test
    ∙ part_lawful (done_ops c.args.db.now made c.args.self.now c.args.before.now) c.args.db.now c.args.name.now c.args.values.now c.seen_after_all-seen.result (c.seen_after_all-seen.ensures made)
