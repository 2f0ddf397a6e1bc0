use Rattle.std.proofs.Common.{Bool, ◌&&◌, ap, ◌∙◌}
use Rattle.cat_objects.specs.Changes.{done_ops}
use Rattle.cat_objects.specs.Seen.{goes_over}
use Rattle.cat_objects.proofs.Lawfully.{put_lawful}
use Rattle.cat_objects.proofs.cat.Cat.lawful_table.Goals as goal

pub returns : goal.returns
returns c = λ made.
    c.may_put.ensures
    ∙ ap (λ (b : Bool). b && goes_over c.args.born c.args.rec.now c.seen_after_all-seen.result.table) c.in_ok-named.ensures
    ∙ put_lawful (done_ops c.args.db.now made c.args.self.now c.args.before.now) c.args.db.now c.args.name.now c.args.born c.args.rec.now c.seen_after_all-seen.result (c.seen_after_all-seen.ensures made)
