use Rattle.std.proofs.Common.{rules, ◌↔◌}
use Rattle.std.specs.Bool.{IsTrue}
use Rattle.std.proofs.lemmas.Bool.Decides.{same_from_decides}
use Rattle.cat_values.specs.Names.{IsObjectName}
use Rattle.cat_values.proofs.NameTests.{object_name-Decides}
use Rattle.cat_values.proofs.names.object_name.Goals as goal

pub returns-then-has_name_length-clause-test : goal.returns-then-has_name_length-clause-test
returns-then-has_name_length-clause-test c =
    let rule : IsTrue c.all.result ↔ IsObjectName c.args.name.now = search rules in
    same_from_decides _ _ rule (object_name-Decides c.args.name.now)
