use Rattle.std.proofs.Common.{◌≢◌, ◌≤◌, [], refl, arith}
use Rattle.thrift_binary.specs.Taking.{room_at}
use Rattle.thrift_plain.proofs.PlainTexts.{nonempty, split_parts, ends_truncated, ends_past, ends_bad, ends_large, message_next}
use Rattle.thrift_plain.proofs.plain_texts.step.Goals as goal

pub returns-in-Ok : goal.returns-in-Ok
returns-in-Ok c =
    let room : c.min-size.result ≤ room_at c.args.start = omega (arith, c.min-size.ensures, c.min-room.ensures) in
    message_next c.args.start c.min-size.result c.args.rest.now c.split_at.result.0.now c.split_at.result.1.now (split_parts _ _ _ c.min-size.result c.split_at.ensures.front c.split_at.ensures.back) c.split_at.ensures.front_len c.in-Ok.message _ room c.in-Ok.ensures _ refl

pub returns-then-size-rest : goal.returns-then-size-rest
returns-then-size-rest c =
    ends_past c.args.start c.min-size.result c.args.rest.now c.split_at.result.0.now c.split_at.result.1.now (split_parts _ _ _ c.min-size.result c.split_at.ensures.front c.split_at.ensures.back) c.split_at.ensures.front_len c.min-room.result c.if-size-rest.true (omega (arith, c.min-size.ensures, c.if-size-rest.true)) (omega (arith, c.min-room.ensures)) (rw c.in-Err-Cut.field-0-is at c.in-Err-Cut.ensures)

pub returns-else-size-rest : goal.returns-else-size-rest
returns-else-size-rest c =
    let room : c.min-size.result ≤ room_at c.args.start = omega (arith, c.min-size.ensures, c.min-room.ensures) in
    let some : c.args.rest.now ≢ [] = nonempty _ c.if-is_empty.ensures in
    ends_truncated c.args.start c.min-size.result c.args.rest.now c.split_at.result.0.now c.split_at.result.1.now (split_parts _ _ _ c.min-size.result c.split_at.ensures.front c.split_at.ensures.back) c.split_at.ensures.front_len some (λ less. omega (arith, less, c.if-size-rest.false)) room (rw c.in-Err-Cut.field-0-is at c.in-Err-Cut.ensures)

pub returns-in-Err-Bad : goal.returns-in-Err-Bad
returns-in-Err-Bad c =
    let room : c.min-size.result ≤ room_at c.args.start = omega (arith, c.min-size.ensures, c.min-room.ensures) in
    ends_bad c.args.start c.min-size.result c.args.rest.now c.split_at.result.0.now c.split_at.result.1.now (split_parts _ _ _ c.min-size.result c.split_at.ensures.front c.split_at.ensures.back) c.split_at.ensures.front_len c.in-Err-Bad.code c.in-Err-Bad.left _ _ c.in-Err-Bad.code-is c.in-Err-Bad.left-is room (rw c.in-Err-Bad.field-0-is at c.in-Err-Bad.ensures)

pub returns-in-Err-Large : goal.returns-in-Err-Large
returns-in-Err-Large c =
    let room : c.min-size.result ≤ room_at c.args.start = omega (arith, c.min-size.ensures, c.min-room.ensures) in
    ends_large c.args.start c.min-size.result c.args.rest.now c.split_at.result.0.now c.split_at.result.1.now (split_parts _ _ _ c.min-size.result c.split_at.ensures.front c.split_at.ensures.back) c.split_at.ensures.front_len c.in-Err-Large.left _ c.in-Err-Large.left-is room (rw c.in-Err-Large.field-0-is at c.in-Err-Large.ensures)
