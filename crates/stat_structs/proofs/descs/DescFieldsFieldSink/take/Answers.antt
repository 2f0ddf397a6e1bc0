use Rattle.std.proofs.Common.{◌≡◌, arith, pos, false, refl}
use Rattle.std.proofs.lemmas.Int.{ints}
use Rattle.std.specs.Ordering.{int_eq}
use Rattle.ms_structs.proofs.Getting.{gets_weaker}
use Rattle.ms_structs.proofs.Others.{ne_int_eq}
use Rattle.stat_structs.proofs.descs.DescFieldsFieldSink.take.Goals as goal

-- a field that is known
pub returns-in-1-clause-reads : goal.returns-in-1-clause-reads
returns-in-1-clause-reads g c =
    let is : c.args.id ≡ pos 1 = omega (arith, ints) in
    gets_weaker _ _ _ _ _ _ _ _ _ (λ w v h. rw is (λ i. record c.args.self.now { table_level = h i })) c.take.ensures.reads

pub returns-in-2-clause-reads : goal.returns-in-2-clause-reads
returns-in-2-clause-reads g c =
    let is : c.args.id ≡ pos 2 = omega (arith, ints) in
    gets_weaker _ _ _ _ _ _ _ _ _ (λ w v h. rw is (λ i. record c.args.self.now { db = h i })) c.take-in-2.ensures.reads

pub returns-in-3-clause-reads : goal.returns-in-3-clause-reads
returns-in-3-clause-reads g c =
    let is : c.args.id ≡ pos 3 = omega (arith, ints) in
    gets_weaker _ _ _ _ _ _ _ _ _ (λ w v h. rw is (λ i. record c.args.self.now { table = h i })) c.take-in-3.ensures.reads

pub returns-in-4-clause-reads : goal.returns-in-4-clause-reads
returns-in-4-clause-reads g c =
    let is : c.args.id ≡ pos 4 = omega (arith, ints) in
    gets_weaker _ _ _ _ _ _ _ _ _ (λ w v h. rw is (λ i. record c.args.self.now { part = h i })) c.take-in-4.ensures.reads

pub returns-in-5-clause-reads : goal.returns-in-5-clause-reads
returns-in-5-clause-reads g c =
    let is : c.args.id ≡ pos 5 = omega (arith, ints) in
    gets_weaker _ _ _ _ _ _ _ _ _ (λ w v h. rw is (λ i. record c.args.self.now { analyzed = h i })) c.take-in-5.ensures.reads

-- any other
pub returns-in_default-clause-reads : goal.returns-in_default-clause-reads
returns-in_default-clause-reads g c =
    let k1 : int_eq c.args.id (pos 1) ≡ false = ne_int_eq c.args.id (pos 1) (omega (arith, ints)) in
    let k2 : int_eq c.args.id (pos 2) ≡ false = ne_int_eq c.args.id (pos 2) (omega (arith, ints)) in
    let k3 : int_eq c.args.id (pos 3) ≡ false = ne_int_eq c.args.id (pos 3) (omega (arith, ints)) in
    let k4 : int_eq c.args.id (pos 4) ≡ false = ne_int_eq c.args.id (pos 4) (omega (arith, ints)) in
    let k5 : int_eq c.args.id (pos 5) ≡ false = ne_int_eq c.args.id (pos 5) (omega (arith, ints)) in
    gets_weaker _ _ _ _ _ _ _ _ _ (λ w v h. rw (k1, k2, k3, k4, k5) refl) c.skip_field.ensures.reads
