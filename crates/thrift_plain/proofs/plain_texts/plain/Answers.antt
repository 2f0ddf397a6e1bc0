use Rattle.thrift_plain.proofs.PlainTexts.{split_parts, message_decoded, text_decoded}
use Rattle.thrift_plain.proofs.plain_texts.plain.Goals as goal

pub loop-messages-preserved : goal.loop-messages-preserved
loop-messages-preserved c =
    record {
      so_far = message_decoded _ _ _ c.loop-messages.start c.in-Message.size _ _ c.in-Message.message c.loop-messages.invariant.so_far (rw c.in-Message.is at c.in_ok-message.ensures)
          c.split_at.result.0.now (split_parts _ _ _ c.in-Message.size c.split_at.ensures.front c.split_at.ensures.back) c.split_at.ensures.front_len c.in_ok-push-in-Message.ensures.ok;
    }

pub returns-in-End : goal.returns-in-End
returns-in-End c =
    text_decoded _ _ _ _ c.in-End.end c.loop-messages.invariant.so_far (rw c.in-End.is at c.in_ok-message.ensures)
