use Rattle.std.proofs.Common.{ap, ◌∙◌}
use Rattle.cat_objects.specs.Changes.{unput}
use Rattle.cat_objects.proofs.Putting.{over_back}
use Rattle.cat_objects.proofs.part_edits.put_over.Goals as goal

pub returns-clause-back : goal.returns-clause-back
returns-clause-back c =
    c.keep_put.ensures.back
    ∙ ap (unput c.args.puts.now.items) (over_back c.args.parts.now c.swap-before.new.self c.args.values.now c.args.rec.now c.swap-before.result (c.in_ok-values.values, c.in_ok-values.rec) c.in_ok-values.ensures c.requires c.swap-before.ensures.value c.swap-before.ensures.entries)
