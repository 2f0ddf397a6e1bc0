use Rattle.std.proofs.Common.{ap, inl, refl, ◌∙◌}
use Rattle.ms_calls.specs.Methods.{method_named}
use Rattle.std.proofs.lemmas.Result.{err_from_is_err_and}
use Rattle.thrift_binary.specs.Messages.{Asks, StopsMessage}
use Rattle.thrift_binary.proofs.Reading.{fault_again}
use Rattle.ms_session.proofs.Coming.{message_came, message_failed}
use Rattle.ms_session.proofs.request.next_request.Goals as goal

pub returns-in_err-head-clause-reads : goal.returns-in_err-head-clause-reads
returns-in_err-head-clause-reads g c =
    let p = err_from_is_err_and c.from_residual.result c.from_residual.ensures.1 in
    rw (p.1, p.2) (inl (fault_again _ _ _ _ c.in_err-head.field-0.0 _ (StopsMessage Asks) (λ s bytes h. inl h) c.in_err-head.ensures.reads))

pub returns-in_err-asked-clause-reads : goal.returns-in_err-asked-clause-reads
returns-in_err-asked-clause-reads g c =
    let p = err_from_is_err_and c.from_residual-in_err-asked.result c.from_residual-in_err-asked.ensures.1 in
    rw (p.1, p.2) (message_failed _ _ _ _ _ _ c.in-Some.head c.in_err-asked.field-0.0 refl (rw c.in-Some.is at c.in_ok-head.ensures.reads) c.in_err-asked.ensures.reads)

pub returns-clause-reads : goal.returns-clause-reads
returns-clause-reads g c = message_came _ _ _ _ _ _ c.in-Some.head c.method_named-method.result c.in_ok-asked.asked (c.method_named-method.ensures ∙ ap method_named c.as_str.ensures.bytes) refl (rw c.in-Some.is at c.in_ok-head.ensures.reads) c.in_ok-asked.ensures.reads
