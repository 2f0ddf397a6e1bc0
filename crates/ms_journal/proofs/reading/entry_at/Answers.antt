use Rattle.std.proofs.Common.{arith, ◌∙◌}
use Rattle.ms_journal.proofs.Parsing.{entry_is}
use Rattle.ms_journal.proofs.reading.entry_at.Goals as goal

pub returns : goal.returns
returns c = entry_is c.args.bytes.now c.behind-rest.result.now _ c.args.at c.in-Some.len (λ i. omega (arith, c.type_inv.bytes i)) c.requires c.if-bytes-at-ne-GATE_OPEN.false c.behind-rest.ensures
    c.in-Some.ensures.0 c.in-Some.ensures.1 (c.in_ok-payload.ensures ∙ c.part.ensures) (omega arith)
