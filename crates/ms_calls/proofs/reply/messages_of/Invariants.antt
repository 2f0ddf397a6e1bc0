use Rattle.std.proofs.Common.{◌≡◌, map, take}
use Rattle.notify_log.specs.Messages.{message_text}
use Rattle.ms_calls.proofs.reply.messages_of.Given as goal

abbrev pub invariant-loop-event : goal.invariant-loop-event
invariant-loop-event l = l.messages ≡ map message_text (take l.event-index l.events)
