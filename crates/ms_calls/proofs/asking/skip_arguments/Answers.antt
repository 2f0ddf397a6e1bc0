use Rattle.std.proofs.lemmas.Result.{err_from_is_err_and}
use Rattle.thrift_binary.proofs.Reading.{Took-weaker}
use Rattle.ms_calls.proofs.Structs.{is_struct, struct_fails}
use Rattle.ms_calls.proofs.asking.skip_arguments.Goals as goal

pub returns-in_err-skip_field-clause-reads : goal.returns-in_err-skip_field-clause-reads
returns-in_err-skip_field-clause-reads g c =
    let p = err_from_is_err_and c.from_residual.result c.from_residual.ensures.1 in
    rw (p.1, p.2) (struct_fails _ _ _ _ c.in_err-skip_field.field-0.0 c.in_err-skip_field.ensures.reads)

pub returns-clause-reads : goal.returns-clause-reads
returns-clause-reads g c = Took-weaker _ _ _ _ _ _ (λ bytes h. let s = is_struct h.0 _ bytes h.1 in (s.0, s.1, c.asked.ensures)) c.in_ok-skip_field.ensures.reads
