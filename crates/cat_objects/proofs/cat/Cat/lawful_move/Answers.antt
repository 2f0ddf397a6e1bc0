use Rattle.std.proofs.Common.{Bool, not, ◌&&◌, is_some, ap, ◌∙◌}
use Rattle.cat_values.specs.Names.{is_object_name}
use Rattle.cat_objects.specs.Changes.{done_ops}
use Rattle.cat_objects.specs.Seen.{has_keys_of}
use Rattle.cat_objects.proofs.Lawfully.{move_lawful}
use Rattle.cat_objects.proofs.cat.Cat.lawful_move.Goals as goal

pub returns : goal.returns
returns c = λ made at.
    c.may_move.ensures
    ∙ ap (λ (b : Bool). b && (c.in_ok-named.named && (has_keys_of c.args.rec.now c.seen_after_all-seen.result.table && not (is_some c.seen_after_all-over.result.table)))) c.object_name.ensures.test
    ∙ ap (λ (b : Bool). is_object_name c.args.name.now && (b && (has_keys_of c.args.rec.now c.seen_after_all-seen.result.table && not (is_some c.seen_after_all-over.result.table)))) c.in_ok-named.ensures
    ∙ move_lawful (done_ops c.args.db.now made c.args.self.now c.args.before.now) c.args.db.now c.args.name.now c.args.to.now at c.args.rec.now c.seen_after_all-seen.result c.seen_after_all-over.result
    (c.seen_after_all-seen.ensures made) (c.seen_after_all-over.ensures made)
