use Rattle.std.proofs.Common.{◌∙◌}
use Rattle.ms_structs.proofs.Plain.{typed_read}
use Rattle.ms_structs.proofs.from_wire.read_typed.Goals as goal

pub returns-then-ty-CODE-clause-reads : goal.returns-then-ty-CODE-clause-reads
returns-then-ty-CODE-clause-reads g c = typed_read _ _ _ _ _ g.T.FromWire.CODE c.args.ty g.T.FromWire.means (c.if-ty-CODE.true ∙ c.CODE.ensures) c.read.ensures.reads
