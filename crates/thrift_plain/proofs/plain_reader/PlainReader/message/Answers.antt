use Rattle.std.proofs.Common.{inl, subst}
use Rattle.std.proofs.lemmas.Result.{err_from_is_err_and}
use Rattle.thrift_binary.specs.Messages.{Asks, StopsHead, StopsMessage}
use Rattle.thrift_binary.specs.declared.limits.TheConstants.{DEPTH_LIMIT}
use Rattle.thrift_plain.specs.PlainReading.{Passed, ValueAdded}
use Rattle.thrift_plain.proofs.PlainTaking.{fault_weaker}
use Rattle.thrift_plain.proofs.PlainTexts.{message_fault, message_taken}
use Rattle.thrift_plain.proofs.plain_reader.PlainReader.message.Goals as goal

pub returns-in_err-strict : goal.returns-in_err-strict
returns-in_err-strict c =
    let p = err_from_is_err_and c.from_residual.result c.from_residual.ensures.1 in
    rw (p.1, p.2) (fault_weaker _ _ (StopsHead Asks) (StopsMessage Asks) (λ s bytes h. inl h) c.in_err-strict.ensures)

pub returns-in_err-value : goal.returns-in_err-value
returns-in_err-value c =
    let p = err_from_is_err_and c.from_residual-in_err-value.result c.from_residual-in_err-value.ensures.1 in
    rw (p.1, p.2) (message_fault _ _ c.in_ok-strict.strict c.in_ok-strict.head c.in_ok-strict.ensures _ c.in_err-value.ensures)

pub returns : goal.returns
returns c =
    let value = subst (λ t. Passed c.head.new.self.rest.now c.value.new.self.rest.now (ValueAdded t c.value.new.tokens DEPTH_LIMIT 12)) c.new-arguments.ensures c.in_ok-value.ensures in
    message_taken _ _ c.in_ok-strict.strict c.in_ok-strict.head c.in_ok-strict.ensures _ _ value
