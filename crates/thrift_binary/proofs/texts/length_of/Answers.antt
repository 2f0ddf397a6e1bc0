use Rattle.std.proofs.Common.{refl, inl, inr, ap, arith}
use Rattle.std.proofs.lemmas.Int.{ints}
use Rattle.thrift_binary.specs.declared.fault.WireFault.TheVariants.{BadWire, TooLarge}
use Rattle.thrift_binary.specs.Taking.{Bad, Large}
use Rattle.thrift_binary.proofs.texts.length_of.Goals as goal

pub returns-then-n-lt0-clause-judged : goal.returns-then-n-lt0-clause-judged
returns-then-n-lt0-clause-judged c = (Bad 3 0, inr (inl (c.int_of-n.result, c.int_of-n.ensures, omega (arith, ints), refl)), ap (BadWire 3) (omega arith))

pub returns-then-n-gt-TEXT_LIMIT-clause-judged : goal.returns-then-n-gt-TEXT_LIMIT-clause-judged
returns-then-n-gt-TEXT_LIMIT-clause-judged c = (Large 0, inr (inr (c.int_of-n.result, c.int_of-n.ensures, omega (arith, ints), refl)), ap TooLarge (omega arith))
