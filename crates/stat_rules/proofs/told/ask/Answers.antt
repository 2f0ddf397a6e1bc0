use Rattle.std.proofs.Common.{◌≡◌, ◌++◌, [], ◌∷◌, false, rules, true}
use Rattle.cat_values.specs.Names.{lower}
use Rattle.stat_rules.proofs.Asking.{asked_name, has_name, passed_name}
use Rattle.stat_rules.proofs.told.ask.Goals as goal

pub returns-then-contains : goal.returns-then-contains
returns-then-contains c = λ later.
    let same : c.as_text.result.now ≡ lower c.args.name.now = search rules in
    let there : has_name c.args.asked.now.keys c.as_text.result.now ≡ true = search rules in
    passed_name c.args.once.now c.args.asked.now.keys c.as_text.result.now (lower c.args.name.now) later same there

pub returns : goal.returns
returns c = λ later.
    let same : c.as_text.result.now ≡ lower c.args.name.now = search rules in
    let key : c.in_ok-text.text ≡ lower c.args.name.now = search rules in
    let absent : has_name c.args.asked.now.keys c.as_text.result.now ≡ false = search rules in
    let put : c.push.new.self ≡ c.args.once.now ++ lower c.args.name.now ∷ [] = search rules in
    asked_name c.args.once.now c.push.new.self c.args.asked.now.keys c.insert.new.self.keys c.as_text.result.now c.in_ok-text.text (lower c.args.name.now) later same key absent c.in_ok-insert.ensures.updates.0 put
