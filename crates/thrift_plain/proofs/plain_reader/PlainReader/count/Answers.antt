use Rattle.std.proofs.Common.{refl, arith, inl, inr}
use Rattle.std.proofs.lemmas.Int.{ints}
use Rattle.thrift_plain.specs.PlainReading.{StopsCount}
use Rattle.thrift_plain.proofs.PlainTaking.{refused_bad, refused_large}
use Rattle.thrift_plain.proofs.plain_reader.PlainReader.count.Goals as goal

pub returns-then-n-lt0 : goal.returns-then-n-lt0
returns-then-n-lt0 c =
    refused_bad _ _ 3 0 _ _ StopsCount (λ bytes h. inr (inl (c.in_ok-n.n, h, omega (arith, ints), refl))) (omega arith) c.in_ok-n.ensures

pub returns-then-n-gt-COUNT_LIMIT : goal.returns-then-n-gt-COUNT_LIMIT
returns-then-n-gt-COUNT_LIMIT c =
    refused_large _ _ 0 _ _ StopsCount (λ bytes h. inr (inr (c.in_ok-n.n, h, omega (arith, ints), refl))) (omega arith) c.in_ok-n.ensures
