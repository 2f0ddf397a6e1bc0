use Rattle.std.proofs.Common.{length, refl, ap, subst, arith, inl, inr}
use Rattle.std.proofs.lemmas.Int.{ints}
use Rattle.thrift_binary.specs.Messages.{Asks, StopsOpening}
use Rattle.thrift_plain.proofs.PlainHeads.{strict_kind}
use Rattle.thrift_plain.proofs.PlainTaking.{at_least, body_bad, body_large}
use Rattle.thrift_plain.proofs.plain_reader.PlainReader.opening.Goals as goal

pub returns-then-is_strict : goal.returns-then-is_strict
returns-then-is_strict c =
    let s = c.if-is_strict.ensures.0 refl in
    body_bad _ _ 2 3 _ 4 _ (StopsOpening Asks) (inr (inr (inl (s.0, s.1, (λ asks. let e = c.if-asks.ensures.1 (subst Asks (strict_kind _ s.0 s.1) asks) in cc), refl)))) (omega (arith, at_least _ _ 4 _ (λ bytes h. omega (arith, ap length h.0, h.1)) c.in_ok-word.ensures)) c.in_ok-word.ensures

pub returns-then-n-lt0 : goal.returns-then-n-lt0
returns-then-n-lt0 c =
    body_bad _ _ 1 0 _ 4 _ (StopsOpening Asks) (inr (inl (c.int_of-n.result, c.int_of-n.ensures, omega (arith, ints), (λ kind s. let e = c.if-is_strict.ensures.1 (kind, s) in cc), refl))) (omega arith) c.in_ok-word.ensures

pub returns-then-n-gt-TEXT_LIMIT : goal.returns-then-n-gt-TEXT_LIMIT
returns-then-n-gt-TEXT_LIMIT c =
    body_large _ _ 0 _ 4 _ (StopsOpening Asks) (inr (inr (inr (c.int_of-n.result, c.int_of-n.ensures, omega (arith, ints), refl)))) (omega arith) c.in_ok-word.ensures
