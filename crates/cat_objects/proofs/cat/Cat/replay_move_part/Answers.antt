use Rattle.std.proofs.Common.{ap, ◌∙◌, rules}
use Rattle.cat_objects.specs.Changes.{changed_parts, changed_tables}
use Rattle.cat_objects.specs.Parts.{put_part, without_part}
use Rattle.cat_objects.proofs.Editing.{parts_composed}
use Rattle.cat_objects.proofs.cat.Cat.replay_move_part.Goals as goal

pub returns : goal.returns
returns c = (
  search rules,
  λ _. c.remove_part.ensures
      ∙ ap (changed_tables c.args.db.now (changed_parts c.args.name.now (without_part c.args.values.now))) c.in_ok-put_part.ensures
      ∙ parts_composed c.args.self.now c.args.db.now c.args.name.now (without_part c.args.values.now) (put_part c.args.to.now c.args.rec.now),
)
