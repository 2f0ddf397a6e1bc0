-- Slots for the fields of an argument struct, with the ids from 1 on: what each of them says, by a type of the wire for each.
use Rattle.std.specs.Prelude.{ℕ, ℤ, pos}
use Rattle.ms_structs.specs.declared.got.Got.{Got}
use Rattle.ms_structs.specs.declared.got.Got.TheVariants.{Nothing}
use Rattle.ms_structs.specs.Slots.{said, slot}
use Rattle.ms_calls.specs.declared.slots.One.{One}
use Rattle.ms_calls.specs.declared.slots.Two.{Two}
use Rattle.ms_calls.specs.declared.slots.Three.{Three}
use Rattle.ms_calls.specs.declared.slots.Four.{Four}
use Rattle.ms_calls.specs.declared.slots.Five.{Five}
use Rattle.thrift_binary.specs.Tree.{Fields, Wire}

-- the slot for the id 1 before the first field
abbrev pub one_none : {A X : Type 0} → One A X
one_none = record { first = Nothing }

-- the slot for the id 1 behind one more field, by the code and the meaning of each type
abbrev pub one_set : {A X : Type 0} → ℕ → (Wire → Got X) → One A X → ℕ → ℤ → Wire → One A X
one_set code1 means1 f ty id w = record { first = slot (pos 1) code1 means1 f.first ty id w }

-- the slots for the ids 1 and 2 before the first field
abbrev pub two_none : {A B X Y : Type 0} → Two A B X Y
two_none = record { first = Nothing; second = Nothing }

-- the slots for the ids 1 and 2 behind one more field, by the code and the meaning of each type
abbrev pub two_set : {A B X Y : Type 0} → ℕ → (Wire → Got X) → ℕ → (Wire → Got Y) → Two A B X Y → ℕ → ℤ → Wire → Two A B X Y
two_set code1 means1 code2 means2 f ty id w = record { first = slot (pos 1) code1 means1 f.first ty id w; second = slot (pos 2) code2 means2 f.second ty id w }

-- the slots for the ids 1 to 3 before the first field
abbrev pub three_none : {A B C X Y Z : Type 0} → Three A B C X Y Z
three_none = record { first = Nothing; second = Nothing; third = Nothing }

-- the slots for the ids 1 to 3 behind one more field, by the code and the meaning of each type
abbrev pub three_set : {A B C X Y Z : Type 0} → ℕ → (Wire → Got X) → ℕ → (Wire → Got Y) → ℕ → (Wire → Got Z) → Three A B C X Y Z → ℕ → ℤ → Wire → Three A B C X Y Z
three_set code1 means1 code2 means2 code3 means3 f ty id w = record { first = slot (pos 1) code1 means1 f.first ty id w; second = slot (pos 2) code2 means2 f.second ty id w; third = slot (pos 3) code3 means3 f.third ty id w }

-- the slots for the ids 1 to 4 before the first field
abbrev pub four_none : {A B C D X Y Z U : Type 0} → Four A B C D X Y Z U
four_none = record { first = Nothing; second = Nothing; third = Nothing; fourth = Nothing }

-- the slots for the ids 1 to 4 behind one more field, by the code and the meaning of each type
abbrev pub four_set : {A B C D X Y Z U : Type 0} → ℕ → (Wire → Got X) → ℕ → (Wire → Got Y) → ℕ → (Wire → Got Z) → ℕ → (Wire → Got U) → Four A B C D X Y Z U → ℕ → ℤ → Wire → Four A B C D X Y Z U
four_set code1 means1 code2 means2 code3 means3 code4 means4 f ty id w = record { first = slot (pos 1) code1 means1 f.first ty id w; second = slot (pos 2) code2 means2 f.second ty id w; third = slot (pos 3) code3 means3 f.third ty id w; fourth = slot (pos 4) code4 means4 f.fourth ty id w }

-- the slots for the ids 1 to 5 before the first field
abbrev pub five_none : {A B C D E X Y Z U V : Type 0} → Five A B C D E X Y Z U V
five_none = record { first = Nothing; second = Nothing; third = Nothing; fourth = Nothing; fifth = Nothing }

-- the slots for the ids 1 to 5 behind one more field, by the code and the meaning of each type
abbrev pub five_set : {A B C D E X Y Z U V : Type 0} → ℕ → (Wire → Got X) → ℕ → (Wire → Got Y) → ℕ → (Wire → Got Z) → ℕ → (Wire → Got U) → ℕ → (Wire → Got V) → Five A B C D E X Y Z U V → ℕ → ℤ → Wire → Five A B C D E X Y Z U V
five_set code1 means1 code2 means2 code3 means3 code4 means4 code5 means5 f ty id w = record { first = slot (pos 1) code1 means1 f.first ty id w; second = slot (pos 2) code2 means2 f.second ty id w; third = slot (pos 3) code3 means3 f.third ty id w; fourth = slot (pos 4) code4 means4 f.fourth ty id w; fifth = slot (pos 5) code5 means5 f.fifth ty id w }

-- what the slot for the id 1 holds behind these fields: what is said under the id
abbrev pub one_says : {A X : Type 0} → ℕ → (Wire → Got X) → Fields → One A X
one_says code1 means1 v = record { first = said (pos 1) code1 means1 v }

-- what the slots for the ids 1 and 2 hold behind these fields: what is said under each id
abbrev pub two_says : {A B X Y : Type 0} → ℕ → (Wire → Got X) → ℕ → (Wire → Got Y) → Fields → Two A B X Y
two_says code1 means1 code2 means2 v = record { first = said (pos 1) code1 means1 v; second = said (pos 2) code2 means2 v }

-- what the slots for the ids 1 to 3 hold behind these fields: what is said under each id
abbrev pub three_says : {A B C X Y Z : Type 0} → ℕ → (Wire → Got X) → ℕ → (Wire → Got Y) → ℕ → (Wire → Got Z) → Fields → Three A B C X Y Z
three_says code1 means1 code2 means2 code3 means3 v = record { first = said (pos 1) code1 means1 v; second = said (pos 2) code2 means2 v; third = said (pos 3) code3 means3 v }

-- what the slots for the ids 1 to 4 hold behind these fields: what is said under each id
abbrev pub four_says : {A B C D X Y Z U : Type 0} → ℕ → (Wire → Got X) → ℕ → (Wire → Got Y) → ℕ → (Wire → Got Z) → ℕ → (Wire → Got U) → Fields → Four A B C D X Y Z U
four_says code1 means1 code2 means2 code3 means3 code4 means4 v = record { first = said (pos 1) code1 means1 v; second = said (pos 2) code2 means2 v; third = said (pos 3) code3 means3 v; fourth = said (pos 4) code4 means4 v }

-- what the slots for the ids 1 to 5 hold behind these fields: what is said under each id
abbrev pub five_says : {A B C D E X Y Z U V : Type 0} → ℕ → (Wire → Got X) → ℕ → (Wire → Got Y) → ℕ → (Wire → Got Z) → ℕ → (Wire → Got U) → ℕ → (Wire → Got V) → Fields → Five A B C D E X Y Z U V
five_says code1 means1 code2 means2 code3 means3 code4 means4 code5 means5 v = record { first = said (pos 1) code1 means1 v; second = said (pos 2) code2 means2 v; third = said (pos 3) code3 means3 v; fourth = said (pos 4) code4 means4 v; fifth = said (pos 5) code5 means5 v }
