-- What slots for the ids from 1 on hold behind some fields.
use Rattle.std.proofs.Common.{◌≡◌, ℕ, pos, refl}
use Rattle.ms_structs.specs.declared.got.Got.{Got}
use Rattle.ms_structs.specs.Slots.{fold_fields}
use Rattle.ms_structs.proofs.Said.{slot_is}
use Rattle.ms_calls.specs.Shapes.{one_none, one_says, one_set, two_none, two_says, two_set, three_none, three_says, three_set, four_none, four_says, four_set, five_none, five_says, five_set}
use Rattle.ms_calls.specs.declared.slots.One.{One}
use Rattle.ms_calls.specs.declared.slots.Two.{Two}
use Rattle.ms_calls.specs.declared.slots.Three.{Three}
use Rattle.ms_calls.specs.declared.slots.Four.{Four}
use Rattle.ms_calls.specs.declared.slots.Five.{Five}
use Rattle.thrift_binary.specs.Tree.{Fields, Wire}

pub one_filled : {A X : Type 0} (code1 : ℕ) (means1 : Wire → Got X) (v : Fields) → ◌≡◌ {A = One A X} (fold_fields (one_set code1 means1) one_none v) (one_says code1 means1 v)
one_filled {A} {X} code1 means1 v =
    let p1 = slot_is (one_set code1 means1) one_none v (λ (t : One A X). t.first) (pos 1) code1 means1 (λ f ty id w. refl) refl refl in
    λ i. record { first = p1 i }

pub two_filled : {A B X Y : Type 0} (code1 : ℕ) (means1 : Wire → Got X) (code2 : ℕ) (means2 : Wire → Got Y) (v : Fields) → ◌≡◌ {A = Two A B X Y} (fold_fields (two_set code1 means1 code2 means2) two_none v) (two_says code1 means1 code2 means2 v)
two_filled {A} {B} {X} {Y} code1 means1 code2 means2 v =
    let p1 = slot_is (two_set code1 means1 code2 means2) two_none v (λ (t : Two A B X Y). t.first) (pos 1) code1 means1 (λ f ty id w. refl) refl refl in
    let p2 = slot_is (two_set code1 means1 code2 means2) two_none v (λ (t : Two A B X Y). t.second) (pos 2) code2 means2 (λ f ty id w. refl) refl refl in
    λ i. record { first = p1 i; second = p2 i }

pub three_filled : {A B C X Y Z : Type 0} (code1 : ℕ) (means1 : Wire → Got X) (code2 : ℕ) (means2 : Wire → Got Y) (code3 : ℕ) (means3 : Wire → Got Z) (v : Fields) → ◌≡◌ {A = Three A B C X Y Z} (fold_fields (three_set code1 means1 code2 means2 code3 means3) three_none v) (three_says code1 means1 code2 means2 code3 means3 v)
three_filled {A} {B} {C} {X} {Y} {Z} code1 means1 code2 means2 code3 means3 v =
    let p1 = slot_is (three_set code1 means1 code2 means2 code3 means3) three_none v (λ (t : Three A B C X Y Z). t.first) (pos 1) code1 means1 (λ f ty id w. refl) refl refl in
    let p2 = slot_is (three_set code1 means1 code2 means2 code3 means3) three_none v (λ (t : Three A B C X Y Z). t.second) (pos 2) code2 means2 (λ f ty id w. refl) refl refl in
    let p3 = slot_is (three_set code1 means1 code2 means2 code3 means3) three_none v (λ (t : Three A B C X Y Z). t.third) (pos 3) code3 means3 (λ f ty id w. refl) refl refl in
    λ i. record { first = p1 i; second = p2 i; third = p3 i }

pub four_filled : {A B C D X Y Z U : Type 0} (code1 : ℕ) (means1 : Wire → Got X) (code2 : ℕ) (means2 : Wire → Got Y) (code3 : ℕ) (means3 : Wire → Got Z) (code4 : ℕ) (means4 : Wire → Got U) (v : Fields) → ◌≡◌ {A = Four A B C D X Y Z U} (fold_fields (four_set code1 means1 code2 means2 code3 means3 code4 means4) four_none v) (four_says code1 means1 code2 means2 code3 means3 code4 means4 v)
four_filled {A} {B} {C} {D} {X} {Y} {Z} {U} code1 means1 code2 means2 code3 means3 code4 means4 v =
    let p1 = slot_is (four_set code1 means1 code2 means2 code3 means3 code4 means4) four_none v (λ (t : Four A B C D X Y Z U). t.first) (pos 1) code1 means1 (λ f ty id w. refl) refl refl in
    let p2 = slot_is (four_set code1 means1 code2 means2 code3 means3 code4 means4) four_none v (λ (t : Four A B C D X Y Z U). t.second) (pos 2) code2 means2 (λ f ty id w. refl) refl refl in
    let p3 = slot_is (four_set code1 means1 code2 means2 code3 means3 code4 means4) four_none v (λ (t : Four A B C D X Y Z U). t.third) (pos 3) code3 means3 (λ f ty id w. refl) refl refl in
    let p4 = slot_is (four_set code1 means1 code2 means2 code3 means3 code4 means4) four_none v (λ (t : Four A B C D X Y Z U). t.fourth) (pos 4) code4 means4 (λ f ty id w. refl) refl refl in
    λ i. record { first = p1 i; second = p2 i; third = p3 i; fourth = p4 i }

pub five_filled : {A B C D E X Y Z U V : Type 0} (code1 : ℕ) (means1 : Wire → Got X) (code2 : ℕ) (means2 : Wire → Got Y) (code3 : ℕ) (means3 : Wire → Got Z) (code4 : ℕ) (means4 : Wire → Got U) (code5 : ℕ) (means5 : Wire → Got V) (v : Fields) → ◌≡◌ {A = Five A B C D E X Y Z U V} (fold_fields (five_set code1 means1 code2 means2 code3 means3 code4 means4 code5 means5) five_none v) (five_says code1 means1 code2 means2 code3 means3 code4 means4 code5 means5 v)
five_filled {A} {B} {C} {D} {E} {X} {Y} {Z} {U} {V} code1 means1 code2 means2 code3 means3 code4 means4 code5 means5 v =
    let p1 = slot_is (five_set code1 means1 code2 means2 code3 means3 code4 means4 code5 means5) five_none v (λ (t : Five A B C D E X Y Z U V). t.first) (pos 1) code1 means1 (λ f ty id w. refl) refl refl in
    let p2 = slot_is (five_set code1 means1 code2 means2 code3 means3 code4 means4 code5 means5) five_none v (λ (t : Five A B C D E X Y Z U V). t.second) (pos 2) code2 means2 (λ f ty id w. refl) refl refl in
    let p3 = slot_is (five_set code1 means1 code2 means2 code3 means3 code4 means4 code5 means5) five_none v (λ (t : Five A B C D E X Y Z U V). t.third) (pos 3) code3 means3 (λ f ty id w. refl) refl refl in
    let p4 = slot_is (five_set code1 means1 code2 means2 code3 means3 code4 means4 code5 means5) five_none v (λ (t : Five A B C D E X Y Z U V). t.fourth) (pos 4) code4 means4 (λ f ty id w. refl) refl refl in
    let p5 = slot_is (five_set code1 means1 code2 means2 code3 means3 code4 means4 code5 means5) five_none v (λ (t : Five A B C D E X Y Z U V). t.fifth) (pos 5) code5 means5 (λ f ty id w. refl) refl refl in
    λ i. record { first = p1 i; second = p2 i; third = p3 i; fourth = p4 i; fifth = p5 i }
