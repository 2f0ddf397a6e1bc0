use Rattle.std.proofs.Common.{arith}
use Rattle.dump_manifest.proofs.Tails.{short_tail, tail_read}
use Rattle.dump_manifest.proofs.files.read_tail.Goals as goal

pub returns-then-text-lt-DIGEST_END : goal.returns-then-text-lt-DIGEST_END
returns-then-text-lt-DIGEST_END c = λ value fits same. short_tail c.args.text.now value fits same c.if-text-lt-DIGEST_END.true

pub returns : goal.returns
returns c = let long = c.if-text-lt-DIGEST_END.false in
    tail_read c.args.text.now c.split_at.result.0.now c.split_at.result.1.now _ c.read_parts.result (omega (arith, long)) c.split_at.ensures.front c.split_at.ensures.back c.split_at.ensures.front_len c.read_parts.ensures.some c.read_parts.ensures.none
