-- Messages, and what they ask.
use Rattle.std.specs.Prelude.{◌≡◌, ⊤, ℕ, List, [], Option, None, Some}
use Rattle.thrift_binary.specs.Messages.{Message, Asks, IsMessage}
use Rattle.ms_calls.specs.Asked.{CameAs, HasOwnMethod, IfClient, IfPlain, asked_of}
use Rattle.ms_calls.specs.Methods.{method_named}
use Rattle.ms_calls.specs.Replies.{CanReply}
use Rattle.ms_calls.specs.declared.request.Asked.{Asked}
use Rattle.ms_session.specs.declared.request.Request.{Request}

-- what a message asks, by its name and its arguments
abbrev pub asks : Message → Asked
asks message = asked_of message.head.name message.arguments

-- a message, or the end of the input
abbrev pub IsNext : Option Message → List ℕ → Type 0
IsNext None bytes = bytes ≡ []
IsNext (Some message) bytes = IsMessage Asks message bytes

-- a request has the head of its message and the method of its name, and says what the message asks
abbrev pub IsRequestOf : Message → Request → Type 0
IsRequestOf message request = (message.head ≡ request.head) × (method_named message.head.name ≡ request.method) × (asks message ≡ request.asked)

abbrev pub SaysRequest : Option Message → Option Request → Type 0
SaysRequest None None = ⊤
SaysRequest (Some message) (Some request) = IsRequestOf message request
SaysRequest None (Some request) = ⊥
SaysRequest (Some message) None = ⊥

-- what a request asks came under its own name: its method is the named one, a plain reply is one that the call can have, a call of the catalogue is made by the method, and a dump and a trim have a method of their own
abbrev pub CameUnderItsName : Request → Type 0
CameUnderItsName request = (request.method ≡ method_named request.head.name) × IfPlain request.asked (CanReply request.method) × IfClient request.asked (CameAs request.method) × HasOwnMethod request.method request.asked
