use Rattle.std.proofs.Common.{◌≡◌, rules, true, false}
use Rattle.cat_values.specs.Names.{lower}
use Rattle.table_rules.proofs.Asking.{asked_text, has_name, passed_text}
use Rattle.table_rules.proofs.table_reads.ask.Goals as goal

pub returns-then-contains : goal.returns-then-contains
returns-then-contains c = λ later.
    let same : c.as_text-text.result.now ≡ lower c.args.name.now = search rules in
    let there : has_name c.args.asked.now.keys c.as_text-text.result.now ≡ true = search rules in
    passed_text c.args.cat.now c.args.db.now c.args.tables.now c.args.asked.now.keys c.as_text-text.result.now (lower c.args.name.now) later same there

pub returns : goal.returns
returns c = λ later.
    let same : c.as_text-text.result.now ≡ lower c.args.name.now = search rules in
    let key : c.in_ok-into_text.field-0 ≡ lower c.args.name.now = search rules in
    let absent : has_name c.args.asked.now.keys c.as_text-text.result.now ≡ false = search rules in
    asked_text c.args.cat.now c.args.db.now c.args.tables.now c.push_if_there.new.tables c.args.asked.now.keys c.insert.new.self.keys c.as_text-text.result.now c.in_ok-into_text.field-0 (lower c.args.name.now) later same key absent
    c.in_ok-insert.ensures.updates.0 c.in_ok-push_if_there.ensures
