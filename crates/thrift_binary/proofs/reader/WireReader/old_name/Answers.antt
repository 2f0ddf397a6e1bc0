use Rattle.std.proofs.Common.{refl, inl, inr, ap, arith}
use Rattle.thrift_binary.specs.declared.fault.WireFault.TheVariants.{BadWire}
use Rattle.thrift_binary.specs.Taking.{Bad}
use Rattle.thrift_binary.specs.Messages.{StopsOldName}
use Rattle.thrift_binary.proofs.Reading.{refused}
use Rattle.thrift_binary.proofs.reader.WireReader.old_name.Goals as goal

pub returns-in-None-clause-reads : goal.returns-in-None-clause-reads
returns-in-None-clause-reads g c =
    inl (refused _ _ _ _ _ _ _ _ _ (Bad 5 0) (StopsOldName c.args.length) c.in_ok-bytes.ensures.reads (λ bytes h. inr (c.in_ok-bytes.bytes.items, h, c.in-None.ensures.none refl, refl)) (ap (BadWire 5) (omega arith)) (ap g.S.Source.left c.spent.ensures.source) c.spent.ensures.same c.spent.ensures.kept)
