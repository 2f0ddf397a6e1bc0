use Rattle.std.proofs.Common.{◌≡◌, ◌++◌, ◌∷◌, [], ap, ◌∙◌, rules}
use Rattle.cat_objects.specs.Changes.{unput}
use Rattle.cat_objects.proofs.Putting.{unput_last}
use Rattle.cat_objects.proofs.part_edits.keep_put.Goals as goal

pub returns-in-Ok-clause-back : goal.returns-in-Ok-clause-back
returns-in-Ok-clause-back c =
    let grown : c.push.new.self.items ≡ c.args.puts.now.items ++ c.args.put ∷ [] = search rules in
    ap (λ puts. unput puts c.args.parts.now) grown ∙ unput_last c.args.puts.now.items c.args.put c.args.parts.now
