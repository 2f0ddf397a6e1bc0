use Rattle.std.proofs.Common.{ap, inr, ◌∙◌}
use Rattle.thrift_binary.proofs.Reading.{Took-weaker}
use Rattle.ms_calls.specs.Asked.{name_asked}
use Rattle.ms_structs.proofs.Getting.{refused_there}
use Rattle.ms_calls.proofs.asking.ask_name.Goals as goal

pub returns-in-Ok-clause-reads : goal.returns-in-Ok-clause-reads
returns-in-Ok-clause-reads g c =
    Took-weaker _ _ _ _ _ _ (λ bytes h. (h.0, h.1, c.in-Ok.ensures ∙ (λ i. name_asked c.args.call ((h.2 i).first)))) c.in_ok-slots.ensures.reads

pub returns-in-Err-clause-reads : goal.returns-in-Err-clause-reads
returns-in-Err-clause-reads g c =
    refused_there _ _ _ _ _ _ _ _ _ _ (λ bytes h. inr (h.0, h.1)) c.in_ok-slots.ensures.reads (ap g.S.Source.left c.refused.ensures.source) c.refused.ensures.kept c.refused.ensures.same
