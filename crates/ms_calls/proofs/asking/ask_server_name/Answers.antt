use Rattle.std.proofs.Common.{ap, inr}
use Rattle.std.proofs.lemmas.Result.{err_from_is_err_and}
use Rattle.cat_types.specs.declared.replies.Reply.TheVariants.{Names}
use Rattle.ms_calls.specs.declared.request.Asked.TheVariants.{Plain}
use Rattle.thrift_binary.proofs.Reading.{Took-weaker}
use Rattle.ms_structs.proofs.Getting.{refused_there}
use Rattle.ms_calls.proofs.Structs.{is_struct, struct_fails}
use Rattle.ms_calls.proofs.asking.ask_server_name.Goals as goal

pub returns-in_err-skip_field-clause-reads : goal.returns-in_err-skip_field-clause-reads
returns-in_err-skip_field-clause-reads g c =
    let p = err_from_is_err_and c.from_residual.result c.from_residual.ensures.1 in
    rw (p.1, p.2) (struct_fails _ _ _ _ c.in_err-skip_field.field-0.0 c.in_err-skip_field.ensures.reads)

pub returns-in-Ok-clause-reads : goal.returns-in-Ok-clause-reads
returns-in-Ok-clause-reads g c = Took-weaker _ _ _ _ _ _ (λ bytes h. let s = is_struct h.0 _ bytes h.1 in (s.0, s.1, ap (λ names. Plain (Names names)) c.in-Ok.ensures)) c.in_ok-skip_field.ensures.reads

pub returns-in-Err-clause-reads : goal.returns-in-Err-clause-reads
returns-in-Err-clause-reads g c =
    refused_there _ _ _ _ _ _ _ _ _ _ (λ bytes h. inr (is_struct h.0 _ bytes h.1)) c.in_ok-skip_field.ensures.reads (ap g.S.Source.left c.refused.ensures.source) c.refused.ensures.kept c.refused.ensures.same
