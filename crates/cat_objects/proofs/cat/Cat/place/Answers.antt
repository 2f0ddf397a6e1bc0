use Rattle.std.proofs.Common.{◌≡◌, None, rules}
use Rattle.cat_objects.specs.Changes.{changed_parts, changed_tables, done, done_op}
use Rattle.cat_objects.specs.Placing.{put_all, table_of_puts}
use Rattle.cat_objects.proofs.Taking.{placeable, puts_done, settles, single_done}
use Rattle.cat_objects.proofs.cat.Cat.place.Goals as goal

pub returns-in-Some-clause-settled : goal.returns-in-Some-clause-settled
returns-in-Some-clause-settled c =
    settles c.place_puts.result c.place_puts.new.self (changed_tables c.args.change.now.db (changed_parts c.in-Some.table.now (put_all c.args.change.now.ops)) c.args.self.now) c.args.self.now (done c.args.change.now c.args.self.now) c.place_puts.ensures
    (puts_done c.args.self.now c.requires.0 c.args.change.now c.in-Some.table.now c.in-Some.ensures c.requires.1)

pub place_op-requires : goal.place_op-requires
place_op-requires c =
    let none : table_of_puts c.args.change.now.ops ≡ None = search rules in
    placeable c.args.self.now c.requires.0 c.args.change.now c.in-Some-get.op.now c.in-Some-get.ensures.value none c.requires.1

pub returns-clause-settled : goal.returns-clause-settled
returns-clause-settled c =
    let none : table_of_puts c.args.change.now.ops ≡ None = search rules in
    settles c.place_op.result c.place_op.new.self (done_op c.args.change.now.db c.args.change.now.db_born c.args.self.now c.in-Some-get.op.now) c.args.self.now (done c.args.change.now c.args.self.now) c.place_op.ensures
    (single_done c.args.self.now c.requires.0 c.args.change.now c.in-Some-get.op.now c.in-Some-get.ensures.value none c.requires.1)
