use Rattle.std.proofs.Common.{refl, arith, inl, inr}
use Rattle.std.proofs.lemmas.Int.{ints}
use Rattle.thrift_binary.specs.Wire.{StopsLength}
use Rattle.thrift_plain.proofs.PlainTaking.{refused_bad, refused_large}
use Rattle.thrift_plain.proofs.plain_reader.PlainReader.length.Goals as goal

pub returns-then-n-lt0 : goal.returns-then-n-lt0
returns-then-n-lt0 c =
    refused_bad _ _ 3 0 _ _ StopsLength (λ bytes h. inr (inl (c.in_ok-n.n, h, omega (arith, ints), refl))) (omega arith) c.in_ok-n.ensures

pub returns-then-n-gt-TEXT_LIMIT : goal.returns-then-n-gt-TEXT_LIMIT
returns-then-n-gt-TEXT_LIMIT c =
    refused_large _ _ 0 _ _ StopsLength (λ bytes h. inr (inr (c.in_ok-n.n, h, omega (arith, ints), refl))) (omega arith) c.in_ok-n.ensures
