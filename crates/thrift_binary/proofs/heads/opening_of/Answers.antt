use Rattle.std.proofs.Common.{refl, inl, inr, ap, arith, rules}
use Rattle.std.proofs.lemmas.Int.{ints}
use Rattle.thrift_binary.specs.declared.fault.WireFault.TheVariants.{BadWire, TooLarge}
use Rattle.thrift_binary.specs.Taking.{Bad, Large}
use Rattle.thrift_binary.proofs.heads.opening_of.Goals as goal

pub returns-then-is_strict-clause-judged : goal.returns-then-is_strict-clause-judged
returns-then-is_strict-clause-judged c = (Bad 2 3, inr (inr (inl (_, c.if-is_strict.ensures.yes (search rules), (λ is. (let e = c.if-is_kind.ensures.1 is in cc)), refl))), refl)

pub returns-then-n-lt0-clause-judged : goal.returns-then-n-lt0-clause-judged
returns-then-n-lt0-clause-judged c = (Bad 1 0, inr (inl (c.int_of-n.result, c.int_of-n.ensures, omega (arith, ints), (λ kind is. (let e = c.if-is_strict.ensures.no kind is in cc)), refl)), ap (BadWire 1) (omega arith))

pub returns-then-n-gt-TEXT_LIMIT-clause-judged : goal.returns-then-n-gt-TEXT_LIMIT-clause-judged
returns-then-n-gt-TEXT_LIMIT-clause-judged c = (Large 0, inr (inr (inr (c.int_of-n.result, c.int_of-n.ensures, omega (arith, ints), refl))), ap TooLarge (omega arith))
