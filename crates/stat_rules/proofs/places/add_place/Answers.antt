use Rattle.std.proofs.Common.{◌≡◌, None, rules}
use Rattle.cat_objects.specs.Catalogue.{at_name}
use Rattle.stat_rules.proofs.Finding.{added_place}
use Rattle.stat_rules.proofs.places.add_place.Goals as goal

pub returns : goal.returns
returns c =
    let free : at_name c.args.name.now c.args.places.now.entries ≡ None = search rules in
    added_place c.args.places.now.entries c.insert.new.self.entries c.args.name.now _ c.args.at c.in_ok-name.ensures free c.in_ok-insert.ensures.updates.0
