use Rattle.std.proofs.Common.{◌≡◌, arith, pos, false, refl}
use Rattle.std.proofs.lemmas.Int.{ints}
use Rattle.std.specs.Ordering.{int_eq}
use Rattle.ms_structs.proofs.Getting.{gets_weaker}
use Rattle.ms_structs.proofs.Others.{ne_int_eq}
use Rattle.stat_structs.proofs.strings.StringFieldsFieldSink.take.Goals as goal

-- any other
pub returns-in_default-clause-reads : goal.returns-in_default-clause-reads
returns-in_default-clause-reads g c =
    let k1 : int_eq c.args.id (pos 1) ≡ false = ne_int_eq c.args.id (pos 1) (omega (arith, ints)) in
    let k2 : int_eq c.args.id (pos 2) ≡ false = ne_int_eq c.args.id (pos 2) (omega (arith, ints)) in
    let k3 : int_eq c.args.id (pos 3) ≡ false = ne_int_eq c.args.id (pos 3) (omega (arith, ints)) in
    let k4 : int_eq c.args.id (pos 4) ≡ false = ne_int_eq c.args.id (pos 4) (omega (arith, ints)) in
    gets_weaker _ _ _ _ _ _ _ _ _ (λ w v h. rw (k1, k2, k3, k4) refl) c.skip_field.ensures.reads
