use mir.Val.{SFits}
use Rattle.std.proofs.lemmas.Int.{to_z-of_z}
use Rattle.std.proofs.Common.{w32, rules}
use Rattle.std.proofs.lemmas.Result.{err_from_is_err_and}
use Rattle.thrift_binary.specs.Messages.{IsOldRest, Asks, IsOldName, StopsOldName, IsKinded, StopsKinded}
use Rattle.thrift_plain.proofs.PlainTaking.{taken_then, fault_then, passed_at}
use Rattle.thrift_plain.proofs.plain_reader.PlainReader.old_rest.Goals as goal

pub returns-in_err-kind : goal.returns-in_err-kind
returns-in_err-kind c =
    let p = err_from_is_err_and c.from_residual-in_err-kind.result c.from_residual-in_err-kind.ensures.1 in
    rw (p.1, p.2) (fault_then (IsOldName c.args.n) (StopsOldName c.args.n) (λ _. IsKinded Asks) (λ _. StopsKinded Asks) _ _ c.in_ok-name.name _ c.in_ok-name.ensures c.in_err-kind.ensures)

pub returns : goal.returns
returns c =
    let fits : SFits w32 c.in_ok-kind.sequence = search rules in
    passed_at _ _ _ c.in_ok-kind.sequence (λ z. IsOldRest Asks c.args.n (record { name = c.in_ok-name.name; kind = c.in_ok-kind.kind; sequence = z })) (to_z-of_z w32 c.in_ok-kind.sequence fits) (taken_then (IsOldName c.args.n) (StopsOldName c.args.n) (λ _. IsKinded Asks) (λ _. StopsKinded Asks) _ _ _ c.in_ok-name.name (c.in_ok-kind.kind, c.in_ok-kind.sequence) c.in_ok-name.ensures c.in_ok-kind.ensures)
