use Rattle.std.proofs.Common.{length}
use Rattle.thrift_plain.proofs.PlainTexts.{Decoded}
use Rattle.thrift_plain.proofs.plain_texts.plain.Given as goal

abbrev pub invariant-loop-messages : goal.invariant-loop-messages
invariant-loop-messages l = record {
  so_far : Decoded l.text l.rest l.start l.messages;
}

abbrev pub decreases-loop-messages : goal.decreases-loop-messages
decreases-loop-messages l = length l.rest
