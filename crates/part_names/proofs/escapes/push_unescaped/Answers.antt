use Rattle.std.proofs.Common.{refl}
use Rattle.part_names.proofs.Undoing.{past_digits, read_digits, read_alone}
use Rattle.part_names.proofs.escapes.push_unescaped.Goals as goal

pub range_from-requires : goal.range_from-requires
range_from-requires c = λ _. past_digits c.args.after.now c.utf8.after c.in-Some.ensures.within c.in-Some.ensures.digits

pub returns-in_ok-push-in-Some-clause-read : goal.returns-in_ok-push-in-Some-clause-read
returns-in_ok-push-in-Some-clause-read c =
    read_digits _ _ c.args.after.now _ c.from.result c.in-Some.code c.in_ok-push-in-Some.ensures.bytes c.from.ensures c.in-Some.ensures.code c.range_from.ensures.value
    c.in-Some.ensures.within c.in-Some.ensures.digits

pub returns-in_ok-push-in-None-clause-read : goal.returns-in_ok-push-in-None-clause-read
returns-in_ok-push-in-None-clause-read c = read_alone _ _ c.args.after.now c.in_ok-push-in-None.ensures.bytes (c.in-None.ensures.none refl)
