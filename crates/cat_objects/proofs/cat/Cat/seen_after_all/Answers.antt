use Rattle.std.proofs.Common.{ap, ◌∙◌}
use Rattle.cat_objects.specs.Seen.{seen_after_all}
use Rattle.cat_objects.specs.declared.seen.Seen.{Seen}
use Rattle.cat_objects.proofs.Seeing.{all_seen}
use Rattle.cat_objects.proofs.cat.Cat.seen_after_all.Goals as goal

pub returns : goal.returns
returns c = λ born.
    c.after_all.ensures
    ∙ ap (λ (s : Seen). seen_after_all c.args.name.now c.args.before.now s) c.seen-first.ensures.seen
    ∙ all_seen c.args.db.now c.args.name.now born c.args.self.now c.args.before.now c.requires c.seen-first.ensures.rising
