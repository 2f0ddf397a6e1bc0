use Rattle.std.proofs.Common.{◌≡◌, arith, pos, false, refl}
use Rattle.std.proofs.lemmas.Int.{ints}
use Rattle.std.specs.Ordering.{int_eq}
use Rattle.ms_structs.proofs.Getting.{gets_weaker}
use Rattle.ms_structs.proofs.Others.{ne_int_eq}
use Rattle.stat_structs.proofs.statistics.StatisticsFieldsFieldSink.take.Goals as goal

-- a field that is known
pub returns-in-1-clause-reads : goal.returns-in-1-clause-reads
returns-in-1-clause-reads g c =
    let is : c.args.id ≡ pos 1 = omega (arith, ints) in
    gets_weaker _ _ _ _ _ _ _ _ _ (λ w v h. rw is (λ i. record c.args.self.now { desc = h i })) c.take_as.ensures.reads

pub returns-in-2-clause-reads : goal.returns-in-2-clause-reads
returns-in-2-clause-reads g c =
    let is : c.args.id ≡ pos 2 = omega (arith, ints) in
    gets_weaker _ _ _ _ _ _ _ _ _ (λ w v h. rw is (λ i. record c.args.self.now { objects = h i })) c.take_as-in-2.ensures.reads

-- any other
pub returns-in_default-clause-reads : goal.returns-in_default-clause-reads
returns-in_default-clause-reads g c =
    let k1 : int_eq c.args.id (pos 1) ≡ false = ne_int_eq c.args.id (pos 1) (omega (arith, ints)) in
    let k2 : int_eq c.args.id (pos 2) ≡ false = ne_int_eq c.args.id (pos 2) (omega (arith, ints)) in
    gets_weaker _ _ _ _ _ _ _ _ _ (λ w v h. rw (k1, k2) refl) c.skip_field.ensures.reads
