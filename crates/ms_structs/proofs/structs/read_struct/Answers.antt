use Rattle.std.proofs.Common.{ap, ◌∙◌}
use Rattle.std.proofs.lemmas.Result.{err_from_is_err_and}
use Rattle.thrift_binary.specs.Tree.{Struct}
use Rattle.ms_structs.specs.Slots.{said_or_bad}
use Rattle.thrift_binary.proofs.Reading.{Took-weaker}
use Rattle.ms_structs.proofs.FieldsSoFar.{struct_fault}
use Rattle.ms_structs.proofs.structs.read_struct.Goals as goal

pub returns-in_err-slots-clause-reads : goal.returns-in_err-slots-clause-reads
returns-in_err-slots-clause-reads g c =
    let p = err_from_is_err_and c.from_residual.result c.from_residual.ensures.1 in
    rw (p.1, p.2) (struct_fault _ _ _ _ c.in_err-slots.field-0.0 c.in_err-slots.ensures.reads)

pub returns-clause-reads : goal.returns-clause-reads
returns-clause-reads g c = Took-weaker _ _ _ _ _ _ (λ bytes h. (Struct h.0, h.1, c.said_or_bad.ensures ∙ ap said_or_bad (c.finish.ensures ∙ ap g.F.StructSink.whole h.2))) c.in_ok-slots.ensures.reads
