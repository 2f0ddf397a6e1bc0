-- Structs, lists and maps on the wire, from what a reader takes: `open`, then field by field, element by element or pair by pair, then `close`.
-- What came so far is a function k: whatever follows (v) is, behind it, k v. So a further field composes two functions, and what a caller makes of the fields may be said of k (So).
use Rattle.std.proofs.Common.{◌≡◌, ℕ, suc, ◌+◌, ◌-◌, ◌<◌, ◌≤◌, ℤ, List, [], ◌++◌, length, Option, Some, None, refl, sym, ap, ◌∙◌, subst, arith, ◌⊎◌, inl, inr, append_assoc}
use Rattle.std.proofs.lemmas.List.{append-nil}
use Rattle.std.specs.Io.KnownBytes.{Consumes}
use Rattle.std.proofs.KnownBytes.{Consumes-trans}
use Rattle.thrift_binary.specs.declared.fault.WireFault.{WireFault}
use Rattle.thrift_binary.specs.declared.progress.Progress.{Progress}
use Rattle.thrift_binary.specs.Taking.{Stop, Large, advanced, opened, closed, Took, Tells, Halted}
use Rattle.thrift_binary.specs.Tree.{Wire, Flag, Number, Eight, Bytes, Struct, Items, Pairs, Fields, NoFields, Field, Elements, NoElements, Element, Entries, NoEntries, Entry, elements_count, entries_count}
use Rattle.thrift_binary.specs.Wire.{StopsThen, Behind, IsField, StopsField, IsNested, IsListHead, IsMapHead, IsStruct, IsWire, AreFields, AreElements, AreEntries, StopsWire, StopsFields, StopsElements, StopsEntries, StopsListBy, StopsMapBy}
use Rattle.thrift_binary.proofs.Reading.{Took-then, took_nothing, Faulted, fault_behind, fault_again, tells_behind, moved-zero}

-- ---- fields

-- behind these bytes, whatever fields v follow, the fields are k v
abbrev pub FieldsSoFar : ℕ → ((Fields → Fields) → Type 0) → List ℕ → Type 0
FieldsSoFar depth So taken = (k : Fields → Fields) × ((v : Fields) (bytes : List ℕ) → AreFields v depth bytes → AreFields (k v) depth (taken ++ bytes)) × So k

-- a struct whose fields are k NoFields
abbrev pub StructSoFar : ℕ → ((Fields → Fields) → Type 0) → List ℕ → Type 0
StructSoFar depth So bytes = (k : Fields → Fields) × IsStruct depth (k NoFields) bytes × So k

pub fields_none : (depth : ℕ) (So : (Fields → Fields) → Type 0) (a : Option (List ℕ)) (p : Progress) → p.fault ≡ None → p.place ≤ p.limit → So (λ v. v) → Took a a p p (FieldsSoFar depth So)
fields_none depth So a p unspent within so = took_nothing a p (FieldsSoFar depth So) unspent within (λ v. v, λ v bytes h. h, so)

-- one more field: its bytes in front of those of whatever follows
one_field : (depth ty : ℕ) (id : ℤ) (w : Wire) (v : Fields) (head value bytes : List ℕ) → IsField (Some (ty, id)) head → IsWire w depth ty value → AreFields v depth bytes → AreFields (Field ty id w v) depth ((head ++ value) ++ bytes)
one_field depth ty id w v head value bytes is spelled rest = (head, value, bytes, append_assoc head value bytes, is, spelled, rest)

pub fields_more : (depth ty : ℕ) (id : ℤ) (So So2 : (Fields → Fields) → Type 0) (Says : Wire → Type 0) (a b c d : Option (List ℕ)) (p q r s : Progress) → ((k : Fields → Fields) (w : Wire) → So k → Says w → So2 (λ v. k (Field ty id w v))) → Took a b p q (FieldsSoFar depth So) → Took b c q r (IsField (Some (ty, id))) → Took c d r s (λ bytes. (w : Wire) × IsWire w depth ty bytes × Says w) → Took a d p s (FieldsSoFar depth So2)
fields_more depth ty id So So2 Says a b c d p q r s more before head value =
    let field = Took-then b c d q r s (IsField (Some (ty, id))) _ (λ bytes. (w : Wire) × (h x : List ℕ) × (bytes ≡ h ++ x) × IsField (Some (ty, id)) h × IsWire w depth ty x × Says w) (λ front rest x y. (y.0, front, rest, refl, x, y.1, y.2)) head value in
    Took-then a b d p q s (FieldsSoFar depth So) _ (FieldsSoFar depth So2)
    (λ front rest x y. (
      λ v. x.0 (Field ty id y.0 v),
      λ v bytes h. subst (AreFields (x.0 (Field ty id y.0 v)) depth) (sym (append_assoc front rest bytes)) (x.1 (Field ty id y.0 v) (rest ++ bytes) (subst (λ z. AreFields (Field ty id y.0 v) depth (z ++ bytes)) (sym y.3) (one_field depth ty id y.0 v y.1 y.2 bytes y.4 y.5 h))),
      more x.0 y.0 x.2 y.6,
    ))
    before field

-- the fields, with nothing behind them
pub whole_fields : (depth : ℕ) (So : (Fields → Fields) → Type 0) (taken : List ℕ) (x : FieldsSoFar depth So taken) → AreFields (x.0 NoFields) depth taken
whole_fields depth So taken x = subst (AreFields (x.0 NoFields) depth) (append-nil taken) (x.1 NoFields [] refl)

-- the end of the struct
pub fields_end : (depth : ℕ) (So : (Fields → Fields) → Type 0) (a b c : Option (List ℕ)) (p q r : Progress) → Took a b p q (FieldsSoFar depth So) → Took b c q r (IsField None) → Took a c p r (StructSoFar depth So)
fields_end depth So a b c p q r before end =
    Took-then a b c p q r (FieldsSoFar depth So) (IsField None) (StructSoFar depth So) (λ front rest x y. (x.0, (front, ap (λ z. front ++ z) y, whole_fields depth So front x), x.2)) before end

-- a fault in the head of the next field
pub fields_stop_head : (depth : ℕ) (So : (Fields → Fields) → Type 0) (a b c : Option (List ℕ)) (p q r : Progress) (e : WireFault) → Took a b p q (FieldsSoFar depth So) → Faulted b c q r e StopsField → Faulted a c p r e (StopsFields depth)
fields_stop_head depth So a b c p q r e before fault =
    fault_behind a b c p q r e (FieldsSoFar depth So) StopsField (StopsFields depth) (λ front rest s x y. (x.0 NoFields, front, rest, s, refl, whole_fields depth So front x, refl, inl y)) before fault

-- a fault in its value
pub fields_stop_value : (depth ty : ℕ) (id : ℤ) (So : (Fields → Fields) → Type 0) (a b c d : Option (List ℕ)) (p q r s : Progress) (e : WireFault) → Took a b p q (FieldsSoFar depth So) → Took b c q r (IsField (Some (ty, id))) → Faulted c d r s e (StopsWire depth ty) → Faulted a d p s e (StopsFields depth)
fields_stop_value depth ty id So a b c d p q r s e before head fault =
    fault_behind a b d p q s e (FieldsSoFar depth So) (StopsThen {A = Option (ℕ × ℤ)} IsField StopsField (Behind (λ field. StopsWire depth field.0))) (StopsFields depth) (λ front rest t x y. (x.0 NoFields, front, rest, t, refl, whole_fields depth So front x, refl, y)) before
    (fault_behind b c d q r s e (IsField (Some (ty, id))) (StopsWire depth ty) (StopsThen {A = Option (ℕ × ℤ)} IsField StopsField (Behind (λ field. StopsWire depth field.0))) (λ front rest t x y. inr (Some (ty, id), front, rest, t, refl, x, refl, y)) head fault)

-- ---- elements

-- behind these bytes, i elements, whatever elements es follow, they are k es
abbrev pub ElementsSoFar : ℕ → ℕ → ℕ → ((Elements → Elements) → Type 0) → List ℕ → Type 0
ElementsSoFar depth ty i So taken =
    (k : Elements → Elements) × ((es : Elements) (bytes : List ℕ) → AreElements es depth ty bytes → AreElements (k es) depth ty (taken ++ bytes)) × ((es : Elements) → elements_count (k es) ≡ i + elements_count es) × So k

pub elements_none : (depth ty : ℕ) (So : (Elements → Elements) → Type 0) (a : Option (List ℕ)) (p : Progress) → p.fault ≡ None → p.place ≤ p.limit → So (λ es. es) → Took a a p p (ElementsSoFar depth ty 0 So)
elements_none depth ty So a p unspent within so = took_nothing a p (ElementsSoFar depth ty 0 So) unspent within (λ es. es, λ es bytes h. h, λ es. omega arith, so)

pub elements_more : (depth ty i : ℕ) (So So2 : (Elements → Elements) → Type 0) (Says : Wire → Type 0) (a b c : Option (List ℕ)) (p q r : Progress) → ((k : Elements → Elements) (w : Wire) → So k → Says w → So2 (λ es. k (Element w es))) → Took a b p q (ElementsSoFar depth ty i So) → Took b c q r (λ bytes. (w : Wire) × IsWire w depth ty bytes × Says w) → Took a c p r (ElementsSoFar depth ty (i + 1) So2)
elements_more depth ty i So So2 Says a b c p q r more before value =
    Took-then a b c p q r (ElementsSoFar depth ty i So) (λ bytes. (w : Wire) × IsWire w depth ty bytes × Says w) (ElementsSoFar depth ty (i + 1) So2)
    (λ front rest x y. (
      λ es. x.0 (Element y.0 es),
      λ es bytes h. subst (AreElements (x.0 (Element y.0 es)) depth ty) (sym (append_assoc front rest bytes)) (x.1 (Element y.0 es) (rest ++ bytes) (rest, bytes, refl, y.1, h)),
      λ es. (let e = x.2 (Element y.0 es) in omega (arith, e)),
      more x.0 y.0 x.3 y.2,
    ))
    before value

pub whole_elements : (depth ty i : ℕ) (So : (Elements → Elements) → Type 0) (taken : List ℕ) (x : ElementsSoFar depth ty i So taken) → AreElements (x.0 NoElements) depth ty taken
whole_elements depth ty i So taken x = subst (AreElements (x.0 NoElements) depth ty) (append-nil taken) (x.1 NoElements [] refl)

-- a fault in the next element
pub elements_stop : (depth ty i count : ℕ) (So : (Elements → Elements) → Type 0) (a b c : Option (List ℕ)) (p q r : Progress) (e : WireFault) → i < count → Took a b p q (ElementsSoFar depth ty i So) → Faulted b c q r e (StopsWire depth ty) → Faulted a c p r e (StopsElements depth ty count)
elements_stop depth ty i count So a b c p q r e less before fault =
    fault_behind a b c p q r e (ElementsSoFar depth ty i So) (StopsWire depth ty) (StopsElements depth ty count)
    (λ front rest s x y. (let n = x.2 NoElements in (x.0 NoElements, front, rest, s, refl, whole_elements depth ty i So front x, omega (arith, n, less), refl, y))) before fault

-- all elements, behind the head that counted them
pub elements_end : (depth ty count i : ℕ) (So : (Elements → Elements) → Type 0) (a b c : Option (List ℕ)) (p q r : Progress) → i ≡ count → Took a b p q (IsListHead ty count) → Took b c q r (ElementsSoFar depth ty i So) → Took a c p r (λ bytes. (k : Elements → Elements) × IsWire (Items ty (k NoElements)) (suc depth) 15 bytes × So k)
elements_end depth ty count i So a b c p q r all head elements =
    Took-then a b c p q r (IsListHead ty count) (ElementsSoFar depth ty i So) _
    (λ front rest x y. (let n = y.2 NoElements in let counted : count ≡ elements_count (y.0 NoElements) = omega (arith, n, all) in
    (y.0, (inr refl, depth, refl, front, rest, refl, subst (λ m. IsListHead ty m front) counted x, whole_elements depth ty i So rest y), y.3)))
    head elements

-- ---- pairs

-- behind these bytes, i pairs, whatever pairs ps follow, they are k ps
abbrev pub EntriesSoFar : ℕ → ℕ → ℕ → ℕ → ((Entries → Entries) → Type 0) → List ℕ → Type 0
EntriesSoFar depth key value i So taken =
    (k : Entries → Entries) × ((ps : Entries) (bytes : List ℕ) → AreEntries ps depth key value bytes → AreEntries (k ps) depth key value (taken ++ bytes)) × ((ps : Entries) → entries_count (k ps) ≡ i + entries_count ps) × So k

pub entries_none : (depth key value : ℕ) (So : (Entries → Entries) → Type 0) (a : Option (List ℕ)) (p : Progress) → p.fault ≡ None → p.place ≤ p.limit → So (λ ps. ps) → Took a a p p (EntriesSoFar depth key value 0 So)
entries_none depth key value So a p unspent within so = took_nothing a p (EntriesSoFar depth key value 0 So) unspent within (λ ps. ps, λ ps bytes h. h, λ ps. omega arith, so)

pub entries_more : (depth key value i : ℕ) (So So2 : (Entries → Entries) → Type 0) (Keyed Says : Wire → Type 0) (a b c d : Option (List ℕ)) (p q r s : Progress) → ((k : Entries → Entries) (x w : Wire) → So k → Keyed x → Says w → So2 (λ ps. k (Entry x w ps))) → Took a b p q (EntriesSoFar depth key value i So) → Took b c q r (λ bytes. (w : Wire) × IsWire w depth key bytes × Keyed w) → Took c d r s (λ bytes. (w : Wire) × IsWire w depth value bytes × Says w) → Took a d p s (EntriesSoFar depth key value (i + 1) So2)
entries_more depth key value i So So2 Keyed Says a b c d p q r s more before first second =
    let pair = Took-then b c d q r s (λ bytes. (w : Wire) × IsWire w depth key bytes × Keyed w) (λ bytes. (w : Wire) × IsWire w depth value bytes × Says w) (λ bytes. (x w : Wire) × (f g : List ℕ) × (bytes ≡ f ++ g) × IsWire x depth key f × IsWire w depth value g × Keyed x × Says w) (λ front rest x y. (x.0, y.0, front, rest, refl, x.1, y.1, x.2, y.2)) first second in
    Took-then a b d p q s (EntriesSoFar depth key value i So) _ (EntriesSoFar depth key value (i + 1) So2)
    (λ front rest x y. (
      λ ps. x.0 (Entry y.0 y.1 ps),
      λ ps bytes h. subst (AreEntries (x.0 (Entry y.0 y.1 ps)) depth key value) (sym (append_assoc front rest bytes)) (x.1 (Entry y.0 y.1 ps) (rest ++ bytes) (y.2, y.3, bytes, ap (λ z. z ++ bytes) y.4 ∙ append_assoc y.2 y.3 bytes, y.5, y.6, h)),
      λ ps. (let e = x.2 (Entry y.0 y.1 ps) in omega (arith, e)),
      more x.0 y.0 y.1 x.3 y.7 y.8,
    ))
    before pair

pub whole_entries : (depth key value i : ℕ) (So : (Entries → Entries) → Type 0) (taken : List ℕ) (x : EntriesSoFar depth key value i So taken) → AreEntries (x.0 NoEntries) depth key value taken
whole_entries depth key value i So taken x = subst (AreEntries (x.0 NoEntries) depth key value) (append-nil taken) (x.1 NoEntries [] refl)

-- a fault in the next pair, in its key or in its value
pair_stop : (depth key value i count : ℕ) (So : (Entries → Entries) → Type 0) (a b c : Option (List ℕ)) (p q r : Progress) (e : WireFault) → i < count → Took a b p q (EntriesSoFar depth key value i So) → Faulted b c q r e (StopsThen (λ (w : Wire). IsWire w depth key) (StopsWire depth key) (λ _. StopsWire depth value)) → Faulted a c p r e (StopsEntries depth key value count)
pair_stop depth key value i count So a b c p q r e less before fault =
    fault_behind a b c p q r e (EntriesSoFar depth key value i So) _ (StopsEntries depth key value count)
    (λ front rest s x y. (let n = x.2 NoEntries in (x.0 NoEntries, front, rest, s, refl, whole_entries depth key value i So front x, omega (arith, n, less), refl, y))) before fault

pub entries_stop_key : (depth key value i count : ℕ) (So : (Entries → Entries) → Type 0) (a b c : Option (List ℕ)) (p q r : Progress) (e : WireFault) → i < count → Took a b p q (EntriesSoFar depth key value i So) → Faulted b c q r e (StopsWire depth key) → Faulted a c p r e (StopsEntries depth key value count)
entries_stop_key depth key value i count So a b c p q r e less before fault =
    pair_stop depth key value i count So a b c p q r e less before (fault_again b c q r e _ _ (λ s bytes h. inl h) fault)

pub entries_stop_value : (depth key value i count : ℕ) (So : (Entries → Entries) → Type 0) (Keyed : Wire → Type 0) (a b c d : Option (List ℕ)) (p q r s : Progress) (e : WireFault) → i < count → Took a b p q (EntriesSoFar depth key value i So) → Took b c q r (λ bytes. (w : Wire) × IsWire w depth key bytes × Keyed w) → Faulted c d r s e (StopsWire depth value) → Faulted a d p s e (StopsEntries depth key value count)
entries_stop_value depth key value i count So Keyed a b c d p q r s e less before first fault =
    pair_stop depth key value i count So a b d p q s e less before
    (fault_behind b c d q r s e (λ bytes. (w : Wire) × IsWire w depth key bytes × Keyed w) (StopsWire depth value) _ (λ front rest t x y. inr (x.0, front, rest, t, refl, x.1, refl, y)) first fault)

-- all pairs, behind the head that counted them
pub entries_end : (depth key value count i : ℕ) (So : (Entries → Entries) → Type 0) (a b c : Option (List ℕ)) (p q r : Progress) → i ≡ count → Took a b p q (IsMapHead key value count) → Took b c q r (EntriesSoFar depth key value i So) → Took a c p r (λ bytes. (k : Entries → Entries) × IsWire (Pairs key value (k NoEntries)) (suc depth) 13 bytes × So k)
entries_end depth key value count i So a b c p q r all head entries =
    Took-then a b c p q r (IsMapHead key value count) (EntriesSoFar depth key value i So) _
    (λ front rest x y. (let n = y.2 NoEntries in let counted : count ≡ entries_count (y.0 NoEntries) = omega (arith, n, all) in
    (y.0, (refl, depth, refl, front, rest, refl, subst (λ m. IsMapHead key value m front) counted x, whole_entries depth key value i So rest y), y.3)))
    head entries

-- ---- open and close

opened-advanced : (p : Progress) (n : ℕ) → 1 ≤ p.room → closed (advanced n (opened p)) ≡ advanced n p
opened-advanced p n some = ap (λ m. record { place = p.place + n; limit = p.limit; room = m; fault = p.fault }) (omega (arith, some))

-- what was taken between `open` and `close`
pub nested_read : (a b c d : Option (List ℕ)) (p q r s : Progress) (P : List ℕ → Type 0) → Consumes a b [] → 1 ≤ p.room → q ≡ opened p → Took b c q r P → d ≡ c → s ≡ closed r → Took a d p s P
nested_read a b c d p q r s P nothing some began took same ended =
    let inside : Took b c (opened p) r P = subst (λ x. Took b c x r P) began took in
    record {
      bytes = inside.bytes;
      consumed = subst (λ x. Consumes a x inside.bytes) (sym same) (Consumes-trans a b c [] inside.bytes nothing inside.consumed);
      unspent = inside.unspent;
      progress = ended ∙ ap closed inside.progress ∙ opened-advanced p (length inside.bytes) some;
      within = inside.within;
      holds = inside.holds;
    }

tells_nested : (a b c : Option (List ℕ)) (place limit : ℕ) (bytes : List ℕ) (s : Stop) (fault : WireFault) → Consumes a b [] → Tells b c place limit bytes s fault → Tells a c place limit bytes s fault
tells_nested a b c place limit bytes s fault nothing tells =
    let there = tells_behind a b c place limit [] bytes s fault nothing (subst (λ n. Tells b c n limit bytes s fault) (omega arith) tells) in
    subst (λ x. Tells a c place limit bytes x fault) (moved-zero s) there

-- a fault between them
pub nested_stop : (a b c : Option (List ℕ)) (p q r : Progress) (e : WireFault) (Q : Stop → List ℕ → Type 0) → Consumes a b [] → p.fault ≡ None → q ≡ opened p → Faulted b c q r e Q → Faulted a c p r e Q
nested_stop a b c p q r e Q nothing unspent began (inl h) =
    let inside : Halted b c (opened p) r e Q = subst (λ x. Halted b c x r e Q) began h in
    inl (record {
      bytes = inside.bytes;
      stop = inside.stop;
      unspent = unspent;
      spent = inside.spent;
      holds = inside.holds;
      tells = tells_nested a b c p.place p.limit inside.bytes inside.stop e nothing inside.tells;
    })
nested_stop a b c p q r e Q nothing unspent began (inr h) = let none : None ≡ Some e = sym unspent ∙ sym (ap (λ (x : Progress). x.fault) began) ∙ h.before in absurd cc

-- none may open: that stops a struct or a collection
pub too_deep : (a b : Option (List ℕ)) (p q : Progress) (e : WireFault) (ty : ℕ) → IsNested ty → Faulted a b p q e (λ stop bytes. (p.room ≡ 0) × (stop ≡ Large 0) × (bytes ≡ [])) → Faulted a b p q e (StopsWire p.room ty)
too_deep a b p q e ty nested fault =
    fault_again a b p q e _ (StopsWire p.room ty) (λ s bytes h. subst (λ n. StopsWire n ty s bytes) (sym h.0) (inr (nested, h.2, h.1))) fault

-- the room inside, one less than that outside
pub room_inside : (p q : Progress) → 1 ≤ p.room → q ≡ opened p → suc q.room ≡ p.room
room_inside p q some began = let e : q.room ≡ p.room - 1 = ap (λ (x : Progress). x.room) began in omega (arith, e, some)

-- ---- whole structs, lists and maps, by the depth inside

pub struct_is : (depth : ℕ) (v : Fields) (bytes : List ℕ) → IsStruct depth v bytes → IsWire (Struct v) (suc depth) 12 bytes
struct_is depth v bytes h = (refl, depth, refl, h.0, h.1, h.2)

pub struct_stops : (depth : ℕ) (s : Stop) (bytes : List ℕ) → StopsFields depth s bytes → StopsWire (suc depth) 12 s bytes
struct_stops depth s bytes h = inr (inl (refl, h))

pub list_stops : (depth ty : ℕ) (s : Stop) (bytes : List ℕ) → (ty ≡ 14) ⊎ (ty ≡ 15) → StopsListBy (StopsWire depth) depth s bytes → StopsWire (suc depth) ty s bytes
list_stops depth ty s bytes is h = inr (inr (inl (is, h)))

pub map_stops : (depth : ℕ) (s : Stop) (bytes : List ℕ) → StopsMapBy (StopsWire depth) depth s bytes → StopsWire (suc depth) 13 s bytes
map_stops depth s bytes h = inr (inr (inr (refl, h)))

-- a list is spelled as a set is
pub items_are : (depth of ty : ℕ) (es : Elements) (bytes : List ℕ) → (ty ≡ 14) ⊎ (ty ≡ 15) → IsWire (Items of es) depth 15 bytes → IsWire (Items of es) depth ty bytes
items_are depth of ty es bytes is h = (is, h.1, h.2, h.3, h.4, h.5, h.6, h.7)

-- only a struct is spelled in the type of structs
pub only_struct : (w : Wire) (depth : ℕ) (bytes : List ℕ) → IsWire w depth 12 bytes → (v : Fields) × IsWire (Struct v) depth 12 bytes
only_struct (Struct v) depth bytes h = (v, h)
only_struct (Flag value) depth bytes h = absurd (omega (arith, h.0))
only_struct (Eight eight) depth bytes h = absurd (omega (arith, h.0))
only_struct (Bytes body) depth bytes h = absurd (omega (arith, h.0))
only_struct (Pairs key value ps) depth bytes h = absurd (omega (arith, h.0))
only_struct (Items of es) depth bytes h = elim h.0 [ inl e ↦ absurd (omega (arith, e)) | inr e ↦ absurd (omega (arith, e)) ]
only_struct (Number n) depth bytes (inl h) = absurd (omega (arith, h.0))
only_struct (Number n) depth bytes (inr (inl h)) = absurd (omega (arith, h.0))
only_struct (Number n) depth bytes (inr (inr (inl h))) = absurd (omega (arith, h.0))
only_struct (Number n) depth bytes (inr (inr (inr h))) = absurd (omega (arith, h.0))
