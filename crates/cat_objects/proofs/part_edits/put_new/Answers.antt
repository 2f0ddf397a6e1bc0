use Rattle.std.proofs.Common.{ap, ◌∙◌}
use Rattle.cat_objects.specs.Changes.{unput}
use Rattle.cat_objects.proofs.Putting.{new_back}
use Rattle.cat_objects.proofs.part_edits.put_new.Goals as goal

pub returns-clause-back : goal.returns-clause-back
returns-clause-back c =
    c.keep_put.ensures.back
    ∙ ap (unput c.args.puts.now.items) (new_back c.args.parts.now c.put.new.self c.args.values.now c.args.rec.now (c.in_ok-values.values, c.in_ok-values.key, c.in_ok-values.rec) c.in_ok-values.ensures c.requires c.in_ok-put.ensures.ok)
