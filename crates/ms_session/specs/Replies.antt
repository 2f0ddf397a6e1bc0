-- The bytes of a reply to a message.
use Rattle.std.specs.Prelude.{◌==◌, ℕ, List, [], ◌∷◌, if◌then◌else◌}
use Rattle.cat_types.specs.declared.replies.Reply.{Reply}
use Rattle.thrift_binary.specs.Codes.{oneway_kind}
use Rattle.thrift_binary.specs.declared.head.Head.{Head}
use Rattle.thrift_binary.specs.Strict.{message_bytes}
use Rattle.ms_calls.specs.Methods.{method_named}
use Rattle.ms_calls.specs.Replies.{reply_fields, reply_head}

-- the bytes of a reply to a message: it is sent as the message's call declares it
unfoldable pub reply_bytes : Head → Reply → List ℕ
reply_bytes head reply = message_bytes (reply_head head reply) (reply_fields (method_named head.name) reply)

-- what is sent for a reply: its bytes, and nothing to a message that wants no reply
abbrev pub sent_for : Head → Reply → List (List ℕ)
sent_for head reply = if head.kind == oneway_kind then [] else reply_bytes head reply ∷ []
