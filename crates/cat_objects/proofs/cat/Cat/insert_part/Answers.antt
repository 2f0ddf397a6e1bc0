use Rattle.std.proofs.Common.{ap}
use Rattle.std.proofs.lemmas.Result.{on_err_weaker, on_ok_weaker}
use Rattle.cat_objects.specs.Changes.{with_parts}
use Rattle.cat_objects.specs.Parts.{PartList}
use Rattle.cat_objects.proofs.Editing.{held_put, held_same}
use Rattle.cat_objects.proofs.Putting.{inserted_part}
use Rattle.cat_objects.proofs.cat.Cat.insert_part.Goals as goal

pub returns-clause-ok : goal.returns-clause-ok
returns-clause-ok c =
    on_ok_weaker c.put-put.result
    (λ put. held_put c.args.self.now c.take_table-held.new.self c.restore_table.new.self c.args.db.now c.args.name.now c.take_table-held.ensures.left.0 c.take_table-held.result (with_parts c.put-put.new.self c.take_table-held.result)
    (λ held. with_parts (inserted_part c.args.values c.args.rec held.parts) held) c.take_table-held.ensures.value c.take_table-held.ensures.left.1 (ap (λ (parts : PartList). with_parts parts c.take_table-held.result) put) c.restore_table.ensures)
    c.put-put.ensures.ok

pub returns-clause-err : goal.returns-clause-err
returns-clause-err c =
    on_err_weaker c.put-put.result
    (λ same. held_same c.args.self.now c.take_table-held.new.self c.restore_table.new.self c.args.db.now c.args.name.now c.take_table-held.ensures.left.0 c.take_table-held.result (with_parts c.put-put.new.self c.take_table-held.result)
    c.take_table-held.ensures.value c.take_table-held.ensures.left.1 (ap (λ (parts : PartList). with_parts parts c.take_table-held.result) same) c.restore_table.ensures)
    c.put-put.ensures.err
