use Rattle.std.proofs.Common.{◌≡◌, ap}
use Rattle.std.proofs.lemmas.Result.{IfOk-weaker, on_err_weaker}
use Rattle.cat_objects.specs.Changes.{changed_parts, changed_tables, with_parts}
use Rattle.cat_objects.specs.Parts.{PartList}
use Rattle.cat_objects.specs.Placing.{put_all}
use Rattle.cat_objects.proofs.Editing.{held_put, held_same, taken_parts}
use Rattle.cat_objects.proofs.Putting.{placed_back}
use Rattle.cat_objects.proofs.cat.Cat.put_parts.Goals as goal

pub returns-clause-done : goal.returns-clause-done
returns-clause-done c =
    IfOk-weaker c.put_in-puts.result (λ puts. c.put_in-puts.new.parts ≡ put_all c.args.ops.now c.take_table-held.result.parts) (λ puts. c.restore_table.new.self ≡ changed_tables c.args.db.now (changed_parts c.args.name.now (put_all c.args.ops.now)) c.args.self.now)
    (λ puts is. held_put c.args.self.now c.take_table-held.new.self c.restore_table.new.self c.args.db.now c.args.name.now c.take_table-held.ensures.left.0 c.take_table-held.result (with_parts c.put_in-puts.new.parts c.take_table-held.result)
    (λ held. with_parts (put_all c.args.ops.now held.parts) held) c.take_table-held.ensures.value c.take_table-held.ensures.left.1 (ap (λ (parts : PartList). with_parts parts c.take_table-held.result) is) c.restore_table.ensures)
    c.put_in-puts.ensures.done

pub returns-clause-back : goal.returns-clause-back
returns-clause-back c =
    placed_back c.put_in-puts.result (λ puts. puts.items) c.args.self.now c.restore_table.new.self c.args.db.now c.args.name.now c.args.ops.now c.take_table-held.result.parts c.put_in-puts.new.parts
    (taken_parts c.args.self.now c.args.db.now c.args.name.now c.take_table-held.result c.take_table-held.ensures.value) c.put_in-puts.ensures.done c.put_in-puts.ensures.back (returns-clause-done c)

pub returns-clause-err : goal.returns-clause-err
returns-clause-err c =
    on_err_weaker c.put_in-puts.result
    (λ same. held_same c.args.self.now c.take_table-held.new.self c.restore_table.new.self c.args.db.now c.args.name.now c.take_table-held.ensures.left.0 c.take_table-held.result (with_parts c.put_in-puts.new.parts c.take_table-held.result)
    c.take_table-held.ensures.value c.take_table-held.ensures.left.1 (ap (λ (parts : PartList). with_parts parts c.take_table-held.result) same) c.restore_table.ensures)
    c.put_in-puts.ensures.err
