-- The fields of a struct, one behind another.
use Rattle.std.proofs.Common.{◌≡◌, ℕ, ◌+◌, ◌-◌, ◌<◌, ◌≤◌, ℤ, List, [], ◌++◌, length, Option, Some, None, refl, sym, ap, ◌∙◌, subst, arith, inl, inr, zero, suc, append_assoc, append-nil, length-append}
use Rattle.thrift_binary.specs.declared.fault.WireFault.{WireFault}
use Rattle.thrift_binary.specs.declared.progress.Progress.{Progress}
use Rattle.thrift_binary.specs.Taking.{Stop, Cut, Took, closed}
use Rattle.thrift_binary.specs.Tree.{Wire, Struct, Fields, NoFields, Field}
use Rattle.thrift_binary.specs.Wire.{IsCode, IsField, StopsField, IsWire, AreFields, IsStruct, StopsThen, Behind, StopsWire, StopsFields}
use Rattle.ms_structs.specs.Slots.{fold_fields}
use Rattle.thrift_binary.proofs.Reading.{Faulted, Took-then, Took-room, Took-place, Took-limit, took_nothing, fault_behind}
use Rattle.ms_structs.proofs.Getting.{Fails, fails_as, fails_behind, Opened, opened-room, nested_stop, nested_took}
use Rattle.ms_structs.proofs.Beginning.{fields_so_far}

-- some fields, and one more
abbrev pub push_field : Fields → ℕ → ℤ → Wire → Fields
push_field NoFields ty id w = Field ty id w NoFields
push_field (Field t i u v) ty id w = Field t i u (push_field v ty id w)

pub fold_pushed : {A : Type 0} (set : A → ℕ → ℤ → Wire → A) (a : A) (v : Fields) (ty : ℕ) (id : ℤ) (w : Wire) → fold_fields set a (push_field v ty id w) ≡ set (fold_fields set a v) ty id w
fold_pushed set a NoFields ty id w = refl
fold_pushed set a (Field t i u v) ty id w = fold_pushed set (set a t i u) v ty id w

regrouped : (bytes head value rest more : List ℕ) → bytes ≡ head ++ (value ++ rest) → bytes ++ more ≡ head ++ (value ++ (rest ++ more))
regrouped bytes head value rest more e = ap (λ x. x ++ more) e ∙ append_assoc head (value ++ rest) more ∙ ap (λ x. head ++ x) (append_assoc value rest more)

pushed : (v : Fields) (depth ty : ℕ) (id : ℤ) (w : Wire) (front head value : List ℕ) → AreFields v depth front → IsField (Some (ty, id)) head → IsWire w depth ty value → AreFields (push_field v ty id w) depth (front ++ (head ++ value))
pushed NoFields depth ty id w front head value none is means = (head, value, [], rw (none, append-nil) refl, is, means, refl)
pushed (Field t i u v) depth ty id w front head value h is means =
    (h.0, h.1, h.2 ++ (head ++ value), regrouped front h.0 h.1 h.2 (head ++ value) h.3, h.4, h.5, pushed v depth ty id w h.2 head value h.6 is means)

-- some fields of which something holds
abbrev pub SomeFields : ℕ → (Fields → Type 0) → List ℕ → Type 0
SomeFields depth So bytes = (v : Fields) × AreFields v depth bytes × So v

pub fields_none : (a : Option (List ℕ)) (p : Progress) (So : Fields → Type 0) → p.fault ≡ None → p.place ≤ p.limit → So NoFields → Took a a p p (SomeFields p.room So)
fields_none a p So unspent within h = took_nothing a p (SomeFields p.room So) unspent within (NoFields, refl, h)

pub fields_more : (a b c d : Option (List ℕ)) (p q r s : Progress) (So So' : Fields → Type 0) (Says : Wire → Type 0) (ty : ℕ) (id : ℤ) → ((v : Fields) (w : Wire) → So v → Says w → So' (push_field v ty id w)) → Took a b p q (SomeFields p.room So) → Took b c q r (IsField (Some (ty, id))) → Took c d r s (λ bytes. (w : Wire) × IsWire w r.room ty bytes × Says w) → Took a d p s (SomeFields p.room So')
fields_more a b c d p q r s So So' Says ty id more before head value =
    let room : r.room ≡ p.room = Took-room b c q r _ head ∙ Took-room a b p q _ before in
    let inside : Took c d r s (λ bytes. (w : Wire) × IsWire w p.room ty bytes × Says w) = subst (λ n. Took c d r s (λ bytes. (w : Wire) × IsWire w n ty bytes × Says w)) room value in
    let field = Took-then b c d q r s (IsField (Some (ty, id))) _ (λ bytes. (w : Wire) × (h x : List ℕ) × (bytes ≡ h ++ x) × IsField (Some (ty, id)) h × IsWire w p.room ty x × Says w) (λ front rest x y. (y.0, front, rest, refl, x, y.1, y.2)) head inside in
    Took-then a b d p q s (SomeFields p.room So) _ (SomeFields p.room So') (λ front rest x y. (push_field x.0 ty id y.0, subst (λ bytes. AreFields (push_field x.0 ty id y.0) p.room (front ++ bytes)) (sym y.3) (pushed x.0 p.room ty id y.0 front y.1 y.2 x.1 y.4 y.5), more x.0 y.0 x.2 y.6)) before field

pub fields_end : (a b c : Option (List ℕ)) (p q r : Progress) (So : Fields → Type 0) → Took a b p q (SomeFields p.room So) → Took b c q r (IsField None) → Took a c p r (λ bytes. (v : Fields) × IsStruct p.room v bytes × So v)
fields_end a b c p q r So before end =
    Took-then a b c p q r (SomeFields p.room So) (IsField None) _ (λ front rest x y. (x.0, (front, ap (λ z. front ++ z) y, x.1), x.2)) before end

pub fields_stop_head : (a b c : Option (List ℕ)) (p q r : Progress) (So : Fields → Type 0) (e : WireFault) → Took a b p q (SomeFields p.room So) → Faulted b c q r e StopsField → Fails a c p r e (IsStruct p.room) (StopsFields p.room)
fields_stop_head a b c p q r So e before stop =
    inl (fault_behind a b c p q r e (SomeFields p.room So) StopsField (StopsFields p.room) (λ front rest s x y. (x.0, front, rest, s, refl, x.1, refl, inl y)) before stop)

-- a field: its head, and its value
abbrev OneField : ℕ → ℕ → ℤ → Wire → List ℕ → Type 0
OneField depth ty id w bytes = (head value : List ℕ) × (bytes ≡ head ++ value) × IsField (Some (ty, id)) head × IsWire w depth ty value

-- a fault of a field's value is a fault of the struct; where the value was taken whole the struct's end is still to come
pub fields_stop_value : (a b c d : Option (List ℕ)) (p q r s : Progress) (So : Fields → Type 0) (e : WireFault) (ty : ℕ) (id : ℤ) → Took a b p q (SomeFields p.room So) → Took b c q r (IsField (Some (ty, id))) → Fails c d r s e (λ w. IsWire w r.room ty) (StopsWire r.room ty) → Fails a d p s e (IsStruct p.room) (StopsFields p.room)
fields_stop_value a b c d p q r s So e ty id before head stop =
    let room : r.room ≡ p.room = Took-room b c q r _ head ∙ Took-room a b p q _ before in
    let inside : Fails c d r s e (λ w. IsWire w p.room ty) (StopsWire p.room ty) = subst (λ n. Fails c d r s e (λ w. IsWire w n ty) (StopsWire n ty)) room stop in
    let Stops : Stop → List ℕ → Type 0 = StopsThen IsField StopsField (Behind (λ (field : ℕ × ℤ). StopsWire p.room field.0)) in
    let field : Fails b d q s e (OneField p.room ty id) Stops = fails_behind b c d q r s e (IsField (Some (ty, id))) (λ w. IsWire w p.room ty) (StopsWire p.room ty) (OneField p.room ty id) Stops (λ front rest x y z. inr (Some (ty, id), front, rest, x, refl, y, refl, z)) (λ front rest w y z. inr (w, (front, rest, refl, y, z))) head inside in
    fails_behind a b d p q s e (SomeFields p.room So) (OneField p.room ty id) Stops (IsStruct p.room) (StopsFields p.room) (λ front rest x y z. (y.0, front, rest, x, refl, y.1, refl, z))
    (λ front rest w y z. inl (Cut, fields_so_far p.room (push_field y.0 ty id w) (front ++ rest) (subst (λ bytes. AreFields (push_field y.0 ty id w) p.room (front ++ bytes)) (sym z.2) (pushed y.0 p.room ty id w front z.0 z.1 y.1 z.3 z.4))))
    before field

pub head_is : (a b : Option (List ℕ)) (p q : Progress) (h h' : Option (ℕ × ℤ)) → h ≡ h' → Took a b p q (IsField h) → Took a b p q (IsField h')
head_is a b p q h h' e t = subst (λ x. Took a b p q (IsField x)) e t

pub field_code : (a b : Option (List ℕ)) (p q : Progress) (ty : ℕ) (id : ℤ) → Took a b p q (IsField (Some (ty, id))) → IsCode ty
field_code a b p q ty id t = t.holds.3.1

-- each field takes the reader on
pub fields_smaller : (b c d : Option (List ℕ)) (q r s : Progress) (ty : ℕ) (id : ℤ) (P : List ℕ → Type 0) → Took b c q r (IsField (Some (ty, id))) → Took c d r s P → s.limit - s.place < q.limit - q.place
fields_smaller b c d q r s ty id P head value =
    let front : length head.holds.0 ≡ 1 = ap length head.holds.3.0 in
    let whole : length head.bytes ≡ length head.holds.0 + length head.holds.1 = ap length head.holds.2 ∙ length-append head.holds.0 head.holds.1 in
    omega (arith, front, whole, head.within, value.within, Took-place b c q r _ head, Took-limit b c q r _ head, Took-place c d r s P value, Took-limit c d r s P value)

-- ---- a struct of them

pub wire_struct : (depth : ℕ) → 1 ≤ depth → (v : Fields) (bytes : List ℕ) → IsStruct (depth - 1) v bytes → IsWire (Struct v) depth 12 bytes
wire_struct zero some v bytes h = absurd (omega (arith, some))
wire_struct (suc d) some v bytes h =
    let h' = subst (λ n. IsStruct n v bytes) (omega arith) h in
    (refl, d, refl, h'.0, h'.1, h'.2)

pub stops_struct : (depth : ℕ) → 1 ≤ depth → (s : Stop) (bytes : List ℕ) → StopsFields (depth - 1) s bytes → StopsWire depth 12 s bytes
stops_struct zero some s bytes h = absurd (omega (arith, some))
stops_struct (suc d) some s bytes h = inr (inl (refl, subst (λ n. StopsFields n s bytes) (omega arith) h))

-- a fault among the fields is a fault of the struct
pub struct_stop : (a b c : Option (List ℕ)) (p q r : Progress) (e : WireFault) → Opened a b p q → Fails b c q r e (IsStruct q.room) (StopsFields q.room) → Fails a c p r e (λ v. IsWire (Struct v) p.room 12) (StopsWire p.room 12)
struct_stop a b c p q r e o stop =
    let inside : Fails b c q r e (IsStruct (p.room - 1)) (StopsFields (p.room - 1)) = subst (λ n. Fails b c q r e (IsStruct n) (StopsFields n)) (opened-room a b p q o) stop in
    nested_stop a b c p q r e (IsStruct (p.room - 1)) (StopsFields (p.room - 1)) (λ v. IsWire (Struct v) p.room 12) (StopsWire p.room 12) (stops_struct p.room o.2) (λ v bytes h. inr (v, wire_struct p.room o.2 v bytes h)) o inside

-- a struct is a tree
pub struct_fault : (a b : Option (List ℕ)) (p q : Progress) (e : WireFault) → Fails a b p q e (λ v. IsWire (Struct v) p.room 12) (StopsWire p.room 12) → Fails a b p q e (λ w. IsWire w p.room 12) (StopsWire p.room 12)
struct_fault a b p q e h = fails_as a b p q e (λ v. IsWire (Struct v) p.room 12) (StopsWire p.room 12) (λ w. IsWire w p.room 12) (StopsWire p.room 12) (λ s bytes x. x) (λ v bytes x. inr (Struct v, x)) h

pub struct_took : (a b c c' : Option (List ℕ)) (p q r r' : Progress) (So Says : Fields → Type 0) → ((v : Fields) → So v → Says v) → Opened a b p q → Took b c q r (λ bytes. (v : Fields) × IsStruct q.room v bytes × So v) → c' ≡ c → r' ≡ closed r → Took a c' p r' (λ bytes. (v : Fields) × IsWire (Struct v) p.room 12 bytes × Says v)
struct_took a b c c' p q r r' So Says says o took same is =
    let inside = subst (λ n. Took b c q r (λ bytes. (v : Fields) × IsStruct n v bytes × So v)) (opened-room a b p q o) took in
    nested_took a b c c' p q r r' _ _ (λ bytes h. (h.0, wire_struct p.room o.2 h.0 bytes h.1, says h.0 h.2)) o inside same is
