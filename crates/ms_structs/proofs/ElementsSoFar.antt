-- The elements of a list, one behind another.
use Rattle.std.proofs.Common.{◌≡◌, ◌==◌, ◌||◌, if◌then◌else◌, Bool, ℕ, ◌-◌, ◌<◌, ◌≤◌, List, [], ◌++◌, length, Option, Some, None, refl, sym, ap, ◌∙◌, subst, arith, inl, inr, zero, suc, append_assoc, append-nil}
use Rattle.thrift_binary.specs.declared.fault.WireFault.{WireFault}
use Rattle.thrift_binary.specs.declared.progress.Progress.{Progress}
use Rattle.thrift_binary.specs.Taking.{Stop, moved, Took, closed}
use Rattle.thrift_binary.specs.Tree.{Wire, Items, Elements, NoElements, Element, elements_count}
use Rattle.thrift_binary.specs.Wire.{IsElementType, IsWire, IsListHead, StopsListHead, AreElements, StopsWire, StopsElements, StopsListBy}
use Rattle.ms_structs.specs.declared.got.Got.{Got}
use Rattle.ms_structs.specs.declared.got.Got.TheVariants.{Nothing}
use Rattle.ms_structs.specs.Getting.{Begun}
use Rattle.ms_structs.specs.Slots.{said_or_bad, typed}
use Rattle.ms_structs.specs.Values.{fold_elements, items_of, with_item}
use Rattle.thrift_binary.proofs.Reading.{Faulted, Took-then, Took-room, took_nothing}
use Rattle.ms_structs.proofs.Getting.{Fails, fails_behind, Opened, opened-room, nested_fault, nested_stop, nested_took}
use Rattle.ms_structs.proofs.Beginning.{all_or_fewer, empty_stops, type_code}

-- some elements, and one more
abbrev pub push_element : Elements → Wire → Elements
push_element NoElements w = Element w NoElements
push_element (Element u es) w = Element u (push_element es w)

pub fold_push_element : {A : Type 0} (add : A → Wire → A) (a : A) (es : Elements) (w : Wire) → fold_elements add a (push_element es w) ≡ add (fold_elements add a es) w
fold_push_element add a NoElements w = refl
fold_push_element add a (Element u es) w = fold_push_element add (add a u) es w

count_push_element : (es : Elements) (w : Wire) → elements_count (push_element es w) ≡ suc (elements_count es)
count_push_element NoElements w = refl
count_push_element (Element u es) w = ap suc (count_push_element es w)

pushed_element : (es : Elements) (depth ty : ℕ) (w : Wire) (front value : List ℕ) → AreElements es depth ty front → IsWire w depth ty value → AreElements (push_element es w) depth ty (front ++ value)
pushed_element NoElements depth ty w front value none is = (value, [], rw (none, append-nil) refl, is, refl)
pushed_element (Element u es) depth ty w front value h is =
    (h.0, h.1 ++ value, ap (λ x. x ++ value) h.2 ∙ append_assoc h.0 h.1 value, h.3, pushed_element es depth ty w h.1 value h.4 is)

-- so many elements
abbrev pub SoMany : ℕ → ℕ → ℕ → Elements → List ℕ → Type 0
SoMany depth ty count es bytes = AreElements es depth ty bytes × (elements_count es ≡ count)

-- so many elements of which something holds
abbrev pub SomeElements : ℕ → ℕ → ℕ → (Elements → Type 0) → List ℕ → Type 0
SomeElements depth ty count So bytes = (es : Elements) × SoMany depth ty count es bytes × So es

pub elements_none : (a : Option (List ℕ)) (p : Progress) (ty : ℕ) (So : Elements → Type 0) → p.fault ≡ None → p.place ≤ p.limit → So NoElements → Took a a p p (SomeElements p.room ty 0 So)
elements_none a p ty So unspent within h = took_nothing a p (SomeElements p.room ty 0 So) unspent within (NoElements, (refl, refl), h)

-- so many, and one more
one_more : (depth ty n m : ℕ) (es : Elements) (w : Wire) (front rest : List ℕ) → m ≡ suc n → SoMany depth ty n es front → IsWire w depth ty rest → SoMany depth ty m (push_element es w) (front ++ rest)
one_more depth ty n m es w front rest next are is = (pushed_element es depth ty w front rest are.0 is, count_push_element es w ∙ ap suc are.1 ∙ sym next)

pub elements_more : (a b c : Option (List ℕ)) (p q r : Progress) (ty n m : ℕ) (So So' : Elements → Type 0) (Says : Wire → Type 0) → m ≡ suc n → ((es : Elements) (w : Wire) → So es → Says w → So' (push_element es w)) → Took a b p q (SomeElements p.room ty n So) → Took b c q r (λ bytes. (w : Wire) × IsWire w q.room ty bytes × Says w) → Took a c p r (SomeElements p.room ty m So')
elements_more a b c p q r ty n m So So' Says next more before value =
    let inside : Took b c q r (λ bytes. (w : Wire) × IsWire w p.room ty bytes × Says w) = subst (λ k. Took b c q r (λ bytes. (w : Wire) × IsWire w k ty bytes × Says w)) (Took-room a b p q _ before) value in
    Took-then a b c p q r (SomeElements p.room ty n So) _ (SomeElements p.room ty m So') (λ front rest x y. (push_element x.0 y.0, one_more p.room ty n m x.0 y.0 front rest next x.1 y.1, more x.0 y.0 x.2 y.2)) before inside

-- so many elements, of those that were counted, begin them: they are all, or more are to come
pub elements_begun : (depth ty n count : ℕ) (es : Elements) (bytes : List ℕ) → IsElementType count ty → n ≤ count → SoMany depth ty n es bytes → Begun (SoMany depth ty count) (StopsElements depth ty count) bytes
elements_begun depth ty n count es bytes code fits are =
    elim (all_or_fewer n count fits) [
      | inl all ↦ inr (es, (are.0, are.1 ∙ all))
      | inr less ↦ let next = empty_stops depth ty (type_code n count ty less code) in inl (moved (length bytes) next.0, (es, bytes, [], next.0, sym (append-nil bytes), are.0, subst (λ k. k < count) (sym are.1) less, refl, next.1))
    ]

-- memory was refused behind some elements
pub some_begun : (depth ty n count : ℕ) (So : Elements → Type 0) → IsElementType count ty → n ≤ count → (bytes : List ℕ) → SomeElements depth ty n So bytes → Begun (SoMany depth ty count) (StopsElements depth ty count) bytes
some_begun depth ty n count So code fits bytes h = elements_begun depth ty n count h.0 bytes code fits h.1

-- a fault of an element is one of all of them
pub elements_stop : (a b c : Option (List ℕ)) (p q r : Progress) (ty n count : ℕ) (So : Elements → Type 0) (e : WireFault) → IsElementType count ty → n < count → Took a b p q (SomeElements p.room ty n So) → Fails b c q r e (λ w. IsWire w q.room ty) (StopsWire q.room ty) → Fails a c p r e (SoMany p.room ty count) (StopsElements p.room ty count)
elements_stop a b c p q r ty n count So e code less before stop =
    let inside : Fails b c q r e (λ w. IsWire w p.room ty) (StopsWire p.room ty) = subst (λ k. Fails b c q r e (λ w. IsWire w k ty) (StopsWire k ty)) (Took-room a b p q _ before) stop in
    fails_behind a b c p q r e (SomeElements p.room ty n So) (λ w. IsWire w p.room ty) (StopsWire p.room ty) (SoMany p.room ty count) (StopsElements p.room ty count) (λ front rest s x y. (x.0, front, rest, s, refl, x.1.0, subst (λ k. k < count) (sym x.1.1) less, refl, y))
    (λ front rest w x y. elements_begun p.room ty (suc n) count (push_element x.0 w) (front ++ rest) code less (one_more p.room ty n (suc n) x.0 w front rest refl x.1 y))
    before inside

-- ---- a list of them

wire_list : (depth : ℕ) → 1 ≤ depth → (of : ℕ) (es : Elements) (head rest : List ℕ) → IsListHead of (elements_count es) head → AreElements es (depth - 1) of rest → IsWire (Items of es) depth 15 (head ++ rest)
wire_list zero some of es head rest is are = absurd (omega (arith, some))
wire_list (suc d) some of es head rest is are = (inr refl, d, refl, head, rest, refl, is, subst (λ n. AreElements es n of rest) (omega arith) are)

abbrev StopsList : ℕ → Stop → List ℕ → Type 0
StopsList depth = StopsListBy (StopsWire depth) depth

stops_list : (depth : ℕ) → 1 ≤ depth → (s : Stop) (bytes : List ℕ) → StopsList (depth - 1) s bytes → StopsWire depth 15 s bytes
stops_list zero some s bytes h = absurd (omega (arith, some))
stops_list (suc d) some s bytes h = inr (inr (inl (inr refl, subst (λ n. StopsList n s bytes) (omega arith) h)))

-- a fault of the head is a fault of the list
pub list_stop_head : (a b c : Option (List ℕ)) (p q r : Progress) (e : WireFault) → Opened a b p q → Faulted b c q r e StopsListHead → Fails a c p r e (λ w. IsWire w p.room 15) (StopsWire p.room 15)
list_stop_head a b c p q r e o stop = inl (nested_fault a b c p q r e StopsListHead (StopsWire p.room 15) (λ s bytes h. stops_list p.room o.2 s bytes (inl h)) o stop)

-- a head, and the elements that it counts
list_whole : (depth ty count : ℕ) → 1 ≤ depth → (es : Elements) (head rest : List ℕ) → IsListHead ty count head → SoMany (depth - 1) ty count es rest → IsWire (Items ty es) depth 15 (head ++ rest)
list_whole depth ty count some es head rest is are = wire_list depth some ty es head rest (subst (λ n. IsListHead ty n head) (sym are.1) is) are.0

-- a fault among the elements is a fault of the list
pub list_stop : (a b c d : Option (List ℕ)) (p q r s : Progress) (e : WireFault) (ty count : ℕ) → Opened a b p q → Took b c q r (IsListHead ty count) → Fails c d r s e (SoMany r.room ty count) (StopsElements r.room ty count) → Fails a d p s e (λ w. IsWire w p.room 15) (StopsWire p.room 15)
list_stop a b c d p q r s e ty count o head stop =
    let room : r.room ≡ p.room - 1 = Took-room b c q r _ head ∙ opened-room a b p q o in
    let inside : Fails c d r s e (SoMany (p.room - 1) ty count) (StopsElements (p.room - 1) ty count) = subst (λ n. Fails c d r s e (SoMany n ty count) (StopsElements n ty count)) room stop in
    let behind : Fails b d q s e (λ w. IsWire w p.room 15) (StopsList (p.room - 1)) = fails_behind b c d q r s e (IsListHead ty count) (SoMany (p.room - 1) ty count) (StopsElements (p.room - 1) ty count) (λ w. IsWire w p.room 15) (StopsList (p.room - 1)) (λ front rest t x y. inr ((ty, count), front, rest, t, refl, x, refl, y)) (λ front rest es x y. inr (Items ty es, list_whole p.room ty count o.2 es front rest x y)) head inside in
    nested_stop a b d p q s e (λ w. IsWire w p.room 15) (StopsList (p.room - 1)) (λ w. IsWire w p.room 15) (StopsWire p.room 15) (stops_list p.room o.2) (λ w bytes h. inr (w, h)) o behind

pub list_took : (a b c d d' : Option (List ℕ)) (p q r s s' : Progress) (ty count : ℕ) (So : Elements → Type 0) (Says : Wire → Type 0) → ((es : Elements) → elements_count es ≡ count → So es → Says (Items ty es)) → Opened a b p q → Took b c q r (IsListHead ty count) → Took c d r s (SomeElements r.room ty count So) → d' ≡ d → s' ≡ closed s → Took a d' p s' (λ bytes. (w : Wire) × IsWire w p.room 15 bytes × Says w)
list_took a b c d d' p q r s s' ty count So Says says o head took same is =
    let room : r.room ≡ p.room - 1 = Took-room b c q r _ head ∙ opened-room a b p q o in
    let inside = subst (λ n. Took c d r s (SomeElements n ty count So)) room took in
    let whole = Took-then b c d q r s (IsListHead ty count) (SomeElements (p.room - 1) ty count So) (λ bytes. (w : Wire) × IsWire w p.room 15 bytes × Says w) (λ front rest x y. (Items ty y.0, list_whole p.room ty count o.2 y.0 front rest x y.1, says y.0 y.1.1 y.2)) head inside in
    nested_took a b d d' p q s s' _ _ (λ bytes h. h) o whole same is

-- what is made of so many elements is what the list says
pub items_judged : {T : Type 0} (code : ℕ) (means : Wire → Got T) (of count : ℕ) (es : Elements) (items : Option (List T)) (wanted : ℕ) (fits : Bool) (result : Got (List T)) → elements_count es ≡ count → items ≡ fold_elements (λ so w. with_item so (typed code means of w)) (Some []) es → fits ≡ ((count == 0) || (of == wanted)) → wanted ≡ code → result ≡ (if fits then said_or_bad items else Nothing) → result ≡ items_of code means (Items of es)
items_judged code means of count es items wanted fits result counted so fit is e = rw (e, fit, is, so, ← counted) refl
