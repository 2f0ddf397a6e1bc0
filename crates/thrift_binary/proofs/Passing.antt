-- Passing values, part by part.
use Rattle.std.proofs.Common.{◌≡◌, ◌≢◌, ℕ, zero, suc, ◌+◌, ◌-◌, ◌<◌, ◌≤◌, ℤ, List, [], length, Option, Some, None, Result, refl, sym, ap, ◌∙◌, subst, arith, ◌⊎◌, inl, inr, length-append}
use Rattle.std.specs.Bool.{⊤}
use Rattle.std.specs.Io.KnownBytes.{Consumes}
use Rattle.thrift_binary.specs.declared.fault.WireFault.{WireFault}
use Rattle.thrift_binary.specs.declared.progress.Progress.{Progress}
use Rattle.thrift_binary.specs.Taking.{Stop, moved, opened, closed, Took, Reads}
use Rattle.thrift_binary.specs.Tree.{Wire, Struct, Items, Pairs, Fields, NoFields, Elements, NoElements, Entries, NoEntries, elements_count, entries_count}
use Rattle.thrift_binary.specs.Wire.{StopsShort, IsField, IsCode, IsNested, IsWidth, IsListHead, StopsListHead, IsMapHead, StopsMapHead, IsStruct, IsWire, AreElements, AreEntries, StopsPlain, StopsWire, StopsFields, StopsElements, StopsEntries, StopsListBy, StopsMapBy}
use Rattle.thrift_binary.proofs.Reading.{Took-weaker, Took-then, Took-room, Took-place, Took-limit, Faulted, fault_behind, fault_again, reads_weaker, reads_then}
use Rattle.thrift_binary.proofs.Structs.{FieldsSoFar, fields_more, fields_end, fields_stop_value, ElementsSoFar, elements_more, elements_stop, EntriesSoFar, entries_more, entries_stop_key, entries_stop_value, nested_read, nested_stop, room_inside, struct_is, struct_stops, list_stops, map_stops, items_are, whole_elements, whole_entries}

-- ---- bytes

-- too few bytes came behind some of them
pub pass_short : (n left part : ℕ) (a b c : Option (List ℕ)) (p q r : Progress) (e : WireFault) → part ≤ left → Took a b p q (λ taken. length taken + left ≡ n) → Faulted b c q r e (StopsShort part) → Faulted a c p r e (StopsShort n)
pass_short n left part a b c p q r e within before fault =
    fault_behind a b c p q r e (λ taken. length taken + left ≡ n) (StopsShort part) (StopsShort n) (λ front rest s x y. (ap (moved (length front)) y.0, omega (arith, x, y.1, length-append front rest, within))) before fault

pub pass_more : (n left part : ℕ) (buf : List ℕ) (a b c : Option (List ℕ)) (p q r : Progress) → part ≤ left → length buf ≡ part → Took a b p q (λ taken. length taken + left ≡ n) → Took b c q r (λ bytes. bytes ≡ buf) → Took a c p r (λ taken. length taken + (left - part) ≡ n)
pass_more n left part buf a b c p q r within size before more =
    Took-then a b c p q r (λ taken. length taken + left ≡ n) (λ bytes. bytes ≡ buf) (λ taken. length taken + (left - part) ≡ n) (λ front rest x y. omega (arith, x, ap length y, size, within, length-append front rest)) before more

-- a number, or another value of a known width, that is cut short
pub plain_short : (ty n : ℕ) (a b : Option (List ℕ)) (p q : Progress) (e : WireFault) → IsWidth ty n → Faulted a b p q e (StopsShort n) → Faulted a b p q e (StopsPlain ty)
plain_short ty n a b p q e width fault = fault_again a b p q e (StopsShort n) (StopsPlain ty) (λ s bytes h. inl (n, width, h)) fault

-- a code of none of the other types is that of texts, or that of lists or sets
pub text_code : (ty : ℕ) → IsCode ty → (IsNested ty → ⊥) → ty ≢ 2 → ty ≢ 3 → ty ≢ 4 → ty ≢ 6 → ty ≢ 8 → ty ≢ 10 → ty ≡ 11
text_code ty (inl h) nested a b c d e f = absurd (a h)
text_code ty (inr (inl h)) nested a b c d e f = absurd (b h)
text_code ty (inr (inr (inl h))) nested a b c d e f = absurd (c h)
text_code ty (inr (inr (inr (inl h)))) nested a b c d e f = absurd (d h)
text_code ty (inr (inr (inr (inr (inl h))))) nested a b c d e f = absurd (e h)
text_code ty (inr (inr (inr (inr (inr (inl h)))))) nested a b c d e f = absurd (f h)
text_code ty (inr (inr (inr (inr (inr (inr (inl h))))))) nested a b c d e f = h
text_code ty (inr (inr (inr (inr (inr (inr (inr (inl h)))))))) nested a b c d e f = absurd (nested (inl h))
text_code ty (inr (inr (inr (inr (inr (inr (inr (inr (inl h))))))))) nested a b c d e f = absurd (nested (inr (inl h)))
text_code ty (inr (inr (inr (inr (inr (inr (inr (inr (inr (inl h)))))))))) nested a b c d e f = absurd (nested (inr (inr (inl h))))
text_code ty (inr (inr (inr (inr (inr (inr (inr (inr (inr (inr h)))))))))) nested a b c d e f = absurd (nested (inr (inr (inr h))))

pub list_code : (ty : ℕ) → IsNested ty → ty ≢ 12 → ty ≢ 13 → (ty ≡ 14) ⊎ (ty ≡ 15)
list_code ty (inl h) a b = absurd (a h)
list_code ty (inr (inl h)) a b = absurd (b h)
list_code ty (inr (inr h)) a b = h

-- what nothing opens in stops alike at any depth
pub plain_stop : (depth ty : ℕ) (s : Stop) (bytes : List ℕ) → StopsPlain ty s bytes → StopsWire depth ty s bytes
plain_stop zero ty s bytes h = inl h
plain_stop (suc depth) ty s bytes h = inl h

-- ---- loops

-- nothing is said of the fields, the elements or the pairs
abbrev pub SomeFields : ℕ → List ℕ → Type 0
SomeFields depth = FieldsSoFar depth (λ _. ⊤)

abbrev pub SomeElements : ℕ → ℕ → ℕ → List ℕ → Type 0
SomeElements depth ty i = ElementsSoFar depth ty i (λ _. ⊤)

abbrev pub SomeEntries : ℕ → ℕ → ℕ → ℕ → List ℕ → Type 0
SomeEntries depth key value i = EntriesSoFar depth key value i (λ _. ⊤)

-- a loop's reader comes nearer to its limit
pub falls : (a b c : Option (List ℕ)) (p q r : Progress) (P Q : List ℕ → Type 0) → p.place < q.place → Took a b p q P → Took b c q r Q → r.limit - r.place < p.limit - p.place
falls a b c p q r P Q forward first second =
    omega (arith, forward, first.within, Took-place a b p q P first, Took-limit a b p q P first, Took-place b c q r Q second, Took-limit b c q r Q second)

some_value : (depth ty : ℕ) (a b : Option (List ℕ)) (p q : Progress) → p.room ≡ depth → Took a b p q (λ bytes. (w : Wire) × IsWire w p.room ty bytes) → Took a b p q (λ bytes. (w : Wire) × IsWire w depth ty bytes × ⊤)
some_value depth ty a b p q room took = Took-weaker a b p q _ _ (λ bytes h. (h.0, subst (λ n. IsWire h.0 n ty bytes) room h.1, tt)) took

value_stop : (depth ty : ℕ) (a b : Option (List ℕ)) (p q : Progress) (e : WireFault) → p.room ≡ depth → Faulted a b p q e (StopsWire p.room ty) → Faulted a b p q e (StopsWire depth ty)
value_stop depth ty a b p q e room fault = subst (λ n. Faulted a b p q e (StopsWire n ty)) room fault

pub pass_field : (depth ty : ℕ) (id : ℤ) (a b c d : Option (List ℕ)) (p q r s : Progress) → p.room ≡ depth → Took a b p q (SomeFields depth) → Took b c q r (IsField (Some (ty, id))) → Took c d r s (λ bytes. (w : Wire) × IsWire w r.room ty bytes) → Took a d p s (SomeFields depth)
pass_field depth ty id a b c d p q r s room before head value =
    let inside : r.room ≡ depth = Took-room b c q r _ head ∙ Took-room a b p q _ before ∙ room in
    fields_more depth ty id (λ _. ⊤) (λ _. ⊤) (λ _. ⊤) a b c d p q r s (λ k w x y. tt) before head (some_value depth ty c d r s inside value)

pub pass_fields_end : (depth : ℕ) (a b c : Option (List ℕ)) (p q r : Progress) → Took a b p q (SomeFields depth) → Took b c q r (IsField None) → Took a c p r (λ bytes. (v : Fields) × IsStruct depth v bytes)
pass_fields_end depth a b c p q r before end = Took-weaker a c p r _ _ (λ bytes h. (h.0 NoFields, h.1)) (fields_end depth (λ _. ⊤) a b c p q r before end)

pub pass_field_stop : (depth ty : ℕ) (id : ℤ) (a b c d : Option (List ℕ)) (p q r s : Progress) (e : WireFault) → p.room ≡ depth → Took a b p q (SomeFields depth) → Took b c q r (IsField (Some (ty, id))) → Faulted c d r s e (StopsWire r.room ty) → Faulted a d p s e (StopsFields depth)
pass_field_stop depth ty id a b c d p q r s e room before head fault =
    let inside : r.room ≡ depth = Took-room b c q r _ head ∙ Took-room a b p q _ before ∙ room in
    fields_stop_value depth ty id (λ _. ⊤) a b c d p q r s e before head (value_stop depth ty c d r s e inside fault)

pub pass_element : (depth ty i : ℕ) (a b c : Option (List ℕ)) (p q r : Progress) → p.room ≡ depth → Took a b p q (SomeElements depth ty i) → Took b c q r (λ bytes. (w : Wire) × IsWire w q.room ty bytes) → Took a c p r (SomeElements depth ty (i + 1))
pass_element depth ty i a b c p q r room before value =
    let inside : q.room ≡ depth = Took-room a b p q _ before ∙ room in
    elements_more depth ty i (λ _. ⊤) (λ _. ⊤) (λ _. ⊤) a b c p q r (λ k w x y. tt) before (some_value depth ty b c q r inside value)

pub pass_element_stop : (depth ty i count : ℕ) (a b c : Option (List ℕ)) (p q r : Progress) (e : WireFault) → p.room ≡ depth → i < count → Took a b p q (SomeElements depth ty i) → Faulted b c q r e (StopsWire q.room ty) → Faulted a c p r e (StopsElements depth ty count)
pass_element_stop depth ty i count a b c p q r e room less before fault =
    let inside : q.room ≡ depth = Took-room a b p q _ before ∙ room in
    elements_stop depth ty i count (λ _. ⊤) a b c p q r e less before (value_stop depth ty b c q r e inside fault)

pub pass_entry : (depth key value i : ℕ) (a b c d : Option (List ℕ)) (p q r s : Progress) → p.room ≡ depth → Took a b p q (SomeEntries depth key value i) → Took b c q r (λ bytes. (w : Wire) × IsWire w q.room key bytes) → Took c d r s (λ bytes. (w : Wire) × IsWire w r.room value bytes) → Took a d p s (SomeEntries depth key value (i + 1))
pass_entry depth key value i a b c d p q r s room before first second =
    let inside : q.room ≡ depth = Took-room a b p q _ before ∙ room in
    let behind : r.room ≡ depth = Took-room b c q r _ first ∙ inside in
    entries_more depth key value i (λ _. ⊤) (λ _. ⊤) (λ _. ⊤) (λ _. ⊤) a b c d p q r s (λ k v w x y z. tt) before (some_value depth key b c q r inside first) (some_value depth value c d r s behind second)

pub pass_key_stop : (depth key value i count : ℕ) (a b c : Option (List ℕ)) (p q r : Progress) (e : WireFault) → p.room ≡ depth → i < count → Took a b p q (SomeEntries depth key value i) → Faulted b c q r e (StopsWire q.room key) → Faulted a c p r e (StopsEntries depth key value count)
pass_key_stop depth key value i count a b c p q r e room less before fault =
    let inside : q.room ≡ depth = Took-room a b p q _ before ∙ room in
    entries_stop_key depth key value i count (λ _. ⊤) a b c p q r e less before (value_stop depth key b c q r e inside fault)

pub pass_value_stop : (depth key value i count : ℕ) (a b c d : Option (List ℕ)) (p q r s : Progress) (e : WireFault) → p.room ≡ depth → i < count → Took a b p q (SomeEntries depth key value i) → Took b c q r (λ bytes. (w : Wire) × IsWire w q.room key bytes) → Faulted c d r s e (StopsWire r.room value) → Faulted a d p s e (StopsEntries depth key value count)
pass_value_stop depth key value i count a b c d p q r s e room less before first fault =
    let inside : q.room ≡ depth = Took-room a b p q _ before ∙ room in
    let behind : r.room ≡ depth = Took-room b c q r _ first ∙ inside in
    entries_stop_value depth key value i count (λ _. ⊤) (λ _. ⊤) a b c d p q r s e less before (some_value depth key b c q r inside first) (value_stop depth value c d r s e behind fault)

-- ---- a struct or a collection, from `open` to `close`

pub nested_value : (ty : ℕ) (a b c d : Option (List ℕ)) (p q r s : Progress) → Consumes a b [] → 1 ≤ p.room → q ≡ opened p → Took b c q r (λ bytes. (w : Wire) × IsWire w (suc q.room) ty bytes) → d ≡ c → s ≡ closed r → Took a d p s (λ bytes. (w : Wire) × IsWire w p.room ty bytes)
nested_value ty a b c d p q r s nothing some began took same ended =
    Took-weaker a d p s _ _ (λ bytes h. (h.0, subst (λ n. IsWire h.0 n ty bytes) (room_inside p q some began) h.1)) (nested_read a b c d p q r s _ nothing some began took same ended)

pub nested_fault : (ty : ℕ) (a b c : Option (List ℕ)) (p q r : Progress) (e : WireFault) → Consumes a b [] → p.fault ≡ None → 1 ≤ p.room → q ≡ opened p → Faulted b c q r e (StopsWire (suc q.room) ty) → Faulted a c p r e (StopsWire p.room ty)
nested_fault ty a b c p q r e nothing unspent some began fault =
    subst (λ n. Faulted a c p r e (StopsWire n ty)) (room_inside p q some began) (nested_stop a b c p q r e (StopsWire (suc q.room) ty) nothing unspent began fault)

-- ---- whole values

pub plain_read : {T : Type 0} (depth ty : ℕ) (a b : Option (List ℕ)) (p q : Progress) (result : Result T WireFault) → Reads a b p q result (λ _ bytes. (w : Wire) × ((d : ℕ) → IsWire w d ty bytes)) (StopsPlain ty) → Reads a b p q result (λ _ bytes. (w : Wire) × IsWire w depth ty bytes) (StopsWire depth ty)
plain_read depth ty a b p q result reads = reads_weaker a b p q result _ _ _ _ (λ v bytes h. (h.0, h.1 depth)) (plain_stop depth ty) reads

pub inside_struct : {T : Type 0} (depth ty : ℕ) (a b : Option (List ℕ)) (p q : Progress) (result : Result T WireFault) → ty ≡ 12 → Reads a b p q result (λ _ bytes. (v : Fields) × IsStruct depth v bytes) (StopsFields depth) → Reads a b p q result (λ _ bytes. (w : Wire) × IsWire w (suc depth) ty bytes) (StopsWire (suc depth) ty)
inside_struct depth ty a b p q result is reads =
    reads_weaker a b p q result _ _ _ _ (λ v bytes h. (Struct h.0, subst (λ t. IsWire (Struct h.0) (suc depth) t bytes) (sym is) (struct_is depth h.0 bytes h.1))) (λ s bytes h. subst (λ t. StopsWire (suc depth) t s bytes) (sym is) (struct_stops depth s bytes h)) reads

pub inside_list : {T : Type 0} (depth ty : ℕ) (a b : Option (List ℕ)) (p q : Progress) (result : Result T WireFault) → (ty ≡ 14) ⊎ (ty ≡ 15) → Reads a b p q result (λ _ bytes. (of : ℕ) × (es : Elements) × IsWire (Items of es) (suc depth) 15 bytes) (StopsListBy (StopsWire depth) depth) → Reads a b p q result (λ _ bytes. (w : Wire) × IsWire w (suc depth) ty bytes) (StopsWire (suc depth) ty)
inside_list depth ty a b p q result is reads =
    reads_weaker a b p q result _ _ _ _ (λ v bytes h. (Items h.0 h.1, items_are (suc depth) h.0 ty h.1 bytes is h.2)) (λ s bytes h. list_stops depth ty s bytes is h) reads

pub inside_map : {T : Type 0} (depth ty : ℕ) (a b : Option (List ℕ)) (p q : Progress) (result : Result T WireFault) → ty ≡ 13 → Reads a b p q result (λ _ bytes. (key value : ℕ) × (ps : Entries) × IsWire (Pairs key value ps) (suc depth) 13 bytes) (StopsMapBy (StopsWire depth) depth) → Reads a b p q result (λ _ bytes. (w : Wire) × IsWire w (suc depth) ty bytes) (StopsWire (suc depth) ty)
inside_map depth ty a b p q result is reads =
    reads_weaker a b p q result _ _ _ _ (λ v bytes h. (Pairs h.0 h.1 h.2, subst (λ t. IsWire (Pairs h.0 h.1 h.2) (suc depth) t bytes) (sym is) h.3)) (λ s bytes h. subst (λ t. StopsWire (suc depth) t s bytes) (sym is) (map_stops depth s bytes h)) reads

-- the elements of a list that was passed
pub elements_passed : (depth ty count i : ℕ) (a b : Option (List ℕ)) (p q : Progress) → i ≡ count → Took a b p q (SomeElements depth ty i) → Took a b p q (λ bytes. (es : Elements) × (elements_count es ≡ count) × AreElements es depth ty bytes)
elements_passed depth ty count i a b p q all took =
    Took-weaker a b p q _ _ (λ bytes h. (let n = h.2 NoElements in (h.0 NoElements, omega (arith, n, all), whole_elements depth ty i (λ _. ⊤) bytes h))) took

pub entries_passed : (depth key value count i : ℕ) (a b : Option (List ℕ)) (p q : Progress) → i ≡ count → Took a b p q (SomeEntries depth key value i) → Took a b p q (λ bytes. (ps : Entries) × (entries_count ps ≡ count) × AreEntries ps depth key value bytes)
entries_passed depth key value count i a b p q all took =
    Took-weaker a b p q _ _ (λ bytes h. (let n = h.2 NoEntries in (h.0 NoEntries, omega (arith, n, all), whole_entries depth key value i (λ _. ⊤) bytes h))) took

pub list_read : {T : Type 0} (ty count : ℕ) (a b c : Option (List ℕ)) (p q r : Progress) (result : Result T WireFault) → Took a b p q (IsListHead ty count) → Reads b c q r result (λ _ bytes. (es : Elements) × (elements_count es ≡ count) × AreElements es q.room ty bytes) (StopsElements q.room ty count) → Reads a c p r result (λ _ bytes. (of : ℕ) × (es : Elements) × IsWire (Items of es) (suc p.room) 15 bytes) (StopsListBy (StopsWire p.room) p.room)
list_read {T} ty count a b c p q r result head elements =
    let inside = subst (λ n. Reads b c q r result (λ _ bytes. (es : Elements) × (elements_count es ≡ count) × AreElements es n ty bytes) (StopsElements n ty count)) (Took-room a b p q _ head) elements in
    reads_weaker a c p r result _ _ _ _
    (λ v bytes h. (ty, h.4.0, (inr refl, p.room, refl, h.0, h.1, h.2, subst (λ m. IsListHead ty m h.0) (sym h.4.1) h.3, h.4.2)))
    (λ s bytes h. h)
    (reads_then {A = ℕ × ℕ} {B = T} (λ x. IsListHead x.0 x.1) StopsListHead (λ x _ bytes. (es : Elements) × (elements_count es ≡ x.1) × AreElements es p.room x.0 bytes) (λ x. StopsElements p.room x.0 x.1) a b c p q r (ty, count) result head inside)

pub map_read : {T : Type 0} (key value count : ℕ) (a b c : Option (List ℕ)) (p q r : Progress) (result : Result T WireFault) → Took a b p q (IsMapHead key value count) → Reads b c q r result (λ _ bytes. (ps : Entries) × (entries_count ps ≡ count) × AreEntries ps q.room key value bytes) (StopsEntries q.room key value count) → Reads a c p r result (λ _ bytes. (key value : ℕ) × (ps : Entries) × IsWire (Pairs key value ps) (suc p.room) 13 bytes) (StopsMapBy (StopsWire p.room) p.room)
map_read {T} key value count a b c p q r result head entries =
    let inside = subst (λ n. Reads b c q r result (λ _ bytes. (ps : Entries) × (entries_count ps ≡ count) × AreEntries ps n key value bytes) (StopsEntries n key value count)) (Took-room a b p q _ head) entries in
    reads_weaker a c p r result _ _ _ _
    (λ v bytes h. (key, value, h.4.0, (refl, p.room, refl, h.0, h.1, h.2, subst (λ m. IsMapHead key value m h.0) (sym h.4.1) h.3, h.4.2)))
    (λ s bytes h. h)
    (reads_then {A = ℕ × ℕ × ℕ} {B = T} (λ x. IsMapHead x.0 x.1 x.2) StopsMapHead (λ x _ bytes. (ps : Entries) × (entries_count ps ≡ x.2) × AreEntries ps p.room x.0 x.1 bytes) (λ x. StopsEntries p.room x.0 x.1 x.2) a b c p q r (key, value, count) result head inside)
