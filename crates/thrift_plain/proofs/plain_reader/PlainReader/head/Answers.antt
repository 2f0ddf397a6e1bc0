use mir.Val.{SFits}
use Rattle.std.proofs.lemmas.Int.{to_z-of_z}
use Rattle.std.proofs.Common.{w32, true, refl, rules, inl}
use Rattle.std.proofs.lemmas.Result.{err_from_is_err_and}
use Rattle.thrift_binary.specs.Messages.{Asks, Strict, Old, IsOpening, StopsOpening, IsHead, IsHeadRest, StopsHeadRest, StopsHead}
use Rattle.thrift_plain.proofs.PlainTaking.{passed_weaker, fault_weaker, taken_then, fault_then, passed_at}
use Rattle.thrift_plain.proofs.plain_reader.PlainReader.head.Goals as goal

pub returns-in_err-kind : goal.returns-in_err-kind
returns-in_err-kind c =
    let p = err_from_is_err_and c.from_residual.result c.from_residual.ensures.1 in
    rw (p.1, p.2) (fault_weaker _ _ (StopsOpening Asks) (StopsHead Asks) (λ s bytes h. inl h) c.in_err-kind.ensures)

pub returns-in_err-name-in-Strict : goal.returns-in_err-name-in-Strict
returns-in_err-name-in-Strict c =
    let p = err_from_is_err_and c.from_residual-in_err-name-in-Strict.result c.from_residual-in_err-name-in-Strict.ensures.1 in
    rw (p.1, p.2) (fault_then (IsOpening Asks) (StopsOpening Asks) (IsHeadRest Asks) (StopsHeadRest Asks) _ _ (Strict c.in-Strict.kind) _ (rw c.in-Strict.is at c.in_ok-kind.ensures) c.in_err-name-in-Strict.ensures)

pub returns-in_err-head-in-Old : goal.returns-in_err-head-in-Old
returns-in_err-head-in-Old c =
    let p = err_from_is_err_and c.from_residual-in_err-head-in-Old.result c.from_residual-in_err-head-in-Old.ensures.1 in
    rw (p.1, p.2) (fault_then (IsOpening Asks) (StopsOpening Asks) (IsHeadRest Asks) (StopsHeadRest Asks) _ _ (Old c.in-Old.n) _ (rw c.in-Old.is at c.in_ok-kind.ensures) c.in_err-head-in-Old.ensures)

pub returns-in_ok-name-in-Strict : goal.returns-in_ok-name-in-Strict
returns-in_ok-name-in-Strict c =
    let fits : SFits w32 c.in_ok-name-in-Strict.sequence = search rules in
    passed_at _ _ _ c.in_ok-name-in-Strict.sequence (λ z. IsHead Asks (true, record { name = c.in_ok-name-in-Strict.name; kind = c.in-Strict.kind; sequence = z })) (to_z-of_z w32 c.in_ok-name-in-Strict.sequence fits) (passed_weaker _ _ _ _ (λ bytes h. (Strict c.in-Strict.kind, refl, h)) (taken_then (IsOpening Asks) (StopsOpening Asks) (IsHeadRest Asks) (StopsHeadRest Asks) _ _ _ (Strict c.in-Strict.kind) _ (rw c.in-Strict.is at c.in_ok-kind.ensures) (passed_weaker _ _ _ _ (λ bytes h. (refl, h)) c.in_ok-name-in-Strict.ensures)))

pub returns-in_ok-head-in-Old : goal.returns-in_ok-head-in-Old
returns-in_ok-head-in-Old c =
    passed_weaker _ _ _ _ (λ bytes h. (Old c.in-Old.n, refl, h)) (taken_then (IsOpening Asks) (StopsOpening Asks) (IsHeadRest Asks) (StopsHeadRest Asks) _ _ _ (Old c.in-Old.n) _ (rw c.in-Old.is at c.in_ok-kind.ensures) c.in_ok-head-in-Old.ensures)
