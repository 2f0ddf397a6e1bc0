-- A message comes: its head, and then its arguments.
use Rattle.std.proofs.Common.{◌≡◌, ℕ, List, Option, Some, refl, sym, ap, ◌∙◌, subst, inr}
use Rattle.thrift_binary.specs.declared.fault.WireFault.{WireFault}
use Rattle.thrift_binary.specs.declared.head.Head.{Head}
use Rattle.thrift_binary.specs.declared.limits.TheConstants.{DEPTH_LIMIT}
use Rattle.thrift_binary.specs.declared.progress.Progress.{Progress}
use Rattle.thrift_binary.specs.Messages.{Asks, Message, StopsMessage}
use Rattle.thrift_binary.specs.Openings.{IsHeadOrEnd}
use Rattle.thrift_binary.specs.Taking.{Took}
use Rattle.thrift_binary.specs.Tree.{Fields, Struct}
use Rattle.thrift_binary.specs.Wire.{IsWire, StopsWire}
use Rattle.thrift_binary.proofs.Reading.{Took-then, Took-room}
use Rattle.ms_calls.specs.Asked.{asked_by}
use Rattle.ms_calls.specs.Methods.{method_named}
use Rattle.ms_calls.specs.declared.method.Method.{Method}
use Rattle.ms_calls.specs.declared.request.Asked.{Asked}
use Rattle.ms_structs.proofs.Getting.{Fails, fails_behind}
use Rattle.ms_session.specs.Requests.{IsNext}
use Rattle.ms_session.proofs.Sessions.{Next}

abbrev message_of : (head : Head) (bytes : List ℕ) → IsHeadOrEnd Asks (Some head) bytes → Fields → Message
message_of head bytes is v = record { strict = is.0; head = head; arguments = v }

-- the arguments inside a message, of which no struct is open yet
inside : (a b : Option (List ℕ)) (p q : Progress) (head : Head) → p.room ≡ DEPTH_LIMIT → Took a b p q (IsHeadOrEnd Asks (Some head)) → q.room ≡ DEPTH_LIMIT
inside a b p q head room first = Took-room a b p q (IsHeadOrEnd Asks (Some head)) first ∙ room

-- a message came whole
pub message_came : (a b c : Option (List ℕ)) (p q r : Progress) (head : Head) (method : Option Method) (asked : Asked) → method ≡ method_named head.name → p.room ≡ DEPTH_LIMIT → Took a b p q (IsHeadOrEnd Asks (Some head))
    → Took b c q r (λ bytes. (v : Fields) × IsWire (Struct v) q.room 12 bytes × (asked ≡ asked_by method v)) → Took a c p r (Next (Some (record { head = head; method = method; asked = asked })))
message_came a b c p q r head method asked named room first second =
    Took-then a b c p q r (IsHeadOrEnd Asks (Some head)) (λ bytes. (v : Fields) × IsWire (Struct v) q.room 12 bytes × (asked ≡ asked_by method v)) (Next (Some (record { head = head; method = method; asked = asked })))
    (λ front rest x y. (
      Some (message_of head front x y.0),
      (front, rest, refl, x.1, subst (λ n. IsWire (Struct y.0) n 12 rest) (inside a b p q head room first) y.1),
      (refl, sym named, ap (λ (m : Option Method). asked_by m y.0) (sym named) ∙ sym y.2),
    ))
    first second

-- a message did not come whole
pub message_failed : (a b c : Option (List ℕ)) (p q r : Progress) (head : Head) (e : WireFault) → p.room ≡ DEPTH_LIMIT → Took a b p q (IsHeadOrEnd Asks (Some head)) → Fails b c q r e (λ (v : Fields). IsWire (Struct v) q.room 12) (StopsWire q.room 12)
    → Fails a c p r e IsNext (StopsMessage Asks)
message_failed a b c p q r head e room first fails =
    let here = inside a b p q head room first in
    fails_behind a b c p q r e (IsHeadOrEnd Asks (Some head)) (λ (v : Fields). IsWire (Struct v) q.room 12) (StopsWire q.room 12) IsNext (StopsMessage Asks)
    (λ front rest s x y. inr ((x.0, head), front, rest, s, refl, x.1, refl, subst (λ n. StopsWire n 12 s rest) here y))
    (λ front rest v x y. inr (Some (message_of head front x v), (front, rest, refl, x.1, subst (λ n. IsWire (Struct v) n 12 rest) here y)))
    first fails
