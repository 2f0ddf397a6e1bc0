use Rattle.std.proofs.Common.{ap, ◌∙◌}
use Rattle.thrift_binary.proofs.Reading.{Took-weaker}
use Rattle.ms_calls.specs.Asked.{unless_wrong}
use Rattle.ms_calls.proofs.replication.read_replication.Goals as goal

pub returns-clause-reads : goal.returns-clause-reads
returns-clause-reads g c = Took-weaker _ _ _ _ _ _ (λ bytes h. (h.0, h.1, c.unless_wrong.ensures ∙ ap unless_wrong (c.make.ensures ∙ ap (g.C.AskReplication.makes c.args.call) h.2))) c.in_ok-slots.ensures.reads
