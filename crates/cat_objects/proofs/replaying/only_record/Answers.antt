use Rattle.std.proofs.Common.{◌≡◌, length, Some, arith, rules}
use Rattle.std.specs.List.{slice_get}
use Rattle.cat_types.specs.declared.changes.Op.TheVariants.{PutDb}
use Rattle.cat_objects.proofs.Taking.{only_one}
use Rattle.cat_objects.proofs.replaying.only_record.Goals as goal

pub returns-then-len-eq1 : goal.returns-then-len-eq1
returns-then-len-eq1 c =
    let first : Some (PutDb c.in-Some-PutDb.rec) ≡ slice_get c.args.ops.now 0 = search rules in
    let one : length c.args.ops.now ≡ 1 = omega (arith, c.len.ensures.count, c.if-len-eq1.true) in
    only_one c.args.ops.now (PutDb c.in-Some-PutDb.rec) first one
