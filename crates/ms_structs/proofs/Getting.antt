-- Values that are read one behind another, and kept.
use Rattle.std.proofs.Common.{◌≡◌, ℕ, ◌+◌, ◌-◌, ◌<◌, ◌≤◌, List, [], ◌++◌, length, Option, Some, None, Result, Ok, Err, sym, ap, ◌∙◌, subst, arith, inl, inr, zero, suc, add-zero, length-append, ◌⊎◌}
use Rattle.std.specs.Bool.{⊤}
use Rattle.std.specs.Prelude.{OnOk}
use Rattle.std.specs.Io.KnownBytes.{Consumes}
use Rattle.std.proofs.KnownBytes.{Consumes-trans}
use Rattle.thrift_binary.specs.declared.fault.WireFault.{WireFault}
use Rattle.thrift_binary.specs.declared.limits.TheConstants.{DEPTH_LIMIT}
use Rattle.thrift_binary.specs.declared.progress.Progress.{Progress}
use Rattle.thrift_binary.specs.declared.fault.WireFault.TheVariants.{NoMemory}
use Rattle.thrift_binary.specs.Taking.{Stop, Large, moved, advanced, opened, closed, Took, Tells, Halted, Opens, Reads}
use Rattle.thrift_binary.specs.Wire.{IsNested, StopsWire}
use Rattle.ms_structs.specs.Getting.{Begun, ReadsTree, MemoryRefused}
use Rattle.thrift_binary.proofs.Reading.{Faulted, Took-weaker, Took-room, Took-place, Took-limit, Took-unspent, moved-zero, tells_behind, fault_behind, fault_again}

-- how a value that is read and kept fails: with a fault that is told at one of its stops, or for want of memory where it was begun
abbrev pub Fails : {W : Type 0} → Option (List ℕ) → Option (List ℕ) → Progress → Progress → WireFault → (W → List ℕ → Type 0) → (Stop → List ℕ → Type 0) → Type 0
Fails a b p q e Is Q = Faulted a b p q e Q ⊎ MemoryRefused a b p q e (Begun Is Q)

-- what was read is kept
pub gets : {W T : Type 0} (a b : Option (List ℕ)) (p q : Progress) (r : Result T WireFault) (Is : W → List ℕ → Type 0) (Says : W → T → Type 0) (Q : Stop → List ℕ → Type 0) → Reads a b p q r (λ v bytes. (w : W) × Is w bytes × Says w v) Q → ReadsTree a b p q r Is Says Q
gets a b p q (Ok v) Is Says Q reads = reads
gets a b p q (Err e) Is Says Q reads = inl reads

-- what was skipped says nothing
pub gets_skipped : {W T : Type 0} (a b : Option (List ℕ)) (p q : Progress) (r : Result T WireFault) (Is : W → List ℕ → Type 0) (Q : Stop → List ℕ → Type 0) → Reads a b p q r (λ _ bytes. (w : W) × Is w bytes) Q → ReadsTree a b p q r Is (λ _ _. ⊤) Q
gets_skipped {W} a b p q (Ok v) Is Q reads = Took-weaker a b p q (λ bytes. (w : W) × Is w bytes) (λ bytes. (w : W) × Is w bytes × ⊤) (λ bytes h. (h.0, h.1, tt)) reads
gets_skipped a b p q (Err e) Is Q reads = inl reads

-- the same bytes say something else too
pub gets_weaker : {W T : Type 0} (a b : Option (List ℕ)) (p q : Progress) (r : Result T WireFault) (Is : W → List ℕ → Type 0) (Says Says' : W → T → Type 0) (Q : Stop → List ℕ → Type 0) → ((w : W) (v : T) → Says w v → Says' w v) → ReadsTree a b p q r Is Says Q → ReadsTree a b p q r Is Says' Q
gets_weaker {W} a b p q (Ok v) Is Says Says' Q weaker h = Took-weaker a b p q (λ bytes. (w : W) × Is w bytes × Says w v) (λ bytes. (w : W) × Is w bytes × Says' w v) (λ bytes h. (h.0, h.1, weaker h.0 v h.2)) h
gets_weaker a b p q (Err e) Is Says Says' Q weaker (inl h) = inl h
gets_weaker a b p q (Err e) Is Says Says' Q weaker (inr h) = inr h

-- a reader that got a value has no fault
pub gets_unspent : {W T : Type 0} (a b : Option (List ℕ)) (p q : Progress) (r : Result T WireFault) (Is : W → List ℕ → Type 0) (Says : W → T → Type 0) (Q : Stop → List ℕ → Type 0) → ReadsTree a b p q r Is Says Q → OnOk r (q.fault ≡ None)
gets_unspent {W} a b p q (Ok v) Is Says Q h = Took-unspent a b p q (λ bytes. (w : W) × Is w bytes × Says w v) h
gets_unspent a b p q (Err e) Is Says Q h = tt

-- ---- bytes that begin a tree

-- memory was refused at bytes that have another property too
refused_weaker : (a b : Option (List ℕ)) (p q : Progress) (e : WireFault) (P P' : List ℕ → Type 0) → ((bytes : List ℕ) → P bytes → P' bytes) → MemoryRefused a b p q e P → MemoryRefused a b p q e P'
refused_weaker a b p q e P P' weaker h = record { bytes = h.bytes; consumed = h.consumed; unspent = h.unspent; within = h.within; memory = h.memory; spent = h.spent; holds = weaker h.bytes h.holds }

-- what begins a tree of one kind begins one of another, where its stops are stops of that, and its trees begin one of that
pub begun_as : {V W : Type 0} (Is : V → List ℕ → Type 0) (Q : Stop → List ℕ → Type 0) (Whole : W → List ℕ → Type 0) (R : Stop → List ℕ → Type 0) → ((s : Stop) (bytes : List ℕ) → Q s bytes → R s bytes) → ((v : V) (bytes : List ℕ) → Is v bytes → Begun Whole R bytes) → (bytes : List ℕ) → Begun Is Q bytes → Begun Whole R bytes
begun_as Is Q Whole R stops whole bytes (inl h) = inl (h.0, stops h.0 bytes h.1)
begun_as Is Q Whole R stops whole bytes (inr h) = whole h.0 bytes h.1

-- a fault of what was to be read is a fault of whatever else, where its stop is one of that
pub fails_again : {W : Type 0} (a b : Option (List ℕ)) (p q : Progress) (e : WireFault) (Is : W → List ℕ → Type 0) (Q Q' : Stop → List ℕ → Type 0) → ((s : Stop) (bytes : List ℕ) → Q s bytes → Q' s bytes) → Faulted a b p q e Q → Fails a b p q e Is Q'
fails_again a b p q e Is Q Q' weaker h = inl (fault_again a b p q e Q Q' weaker h)

-- so is one of what was to be read and kept, where what begins it begins that
pub fails_as : {V W : Type 0} (a b : Option (List ℕ)) (p q : Progress) (e : WireFault) (Is : V → List ℕ → Type 0) (Q : Stop → List ℕ → Type 0) (Whole : W → List ℕ → Type 0) (R : Stop → List ℕ → Type 0) → ((s : Stop) (bytes : List ℕ) → Q s bytes → R s bytes) → ((v : V) (bytes : List ℕ) → Is v bytes → Begun Whole R bytes) → Fails a b p q e Is Q → Fails a b p q e Whole R
fails_as a b p q e Is Q Whole R stops whole (inl h) = inl (fault_again a b p q e Q R stops h)
fails_as a b p q e Is Q Whole R stops whole (inr h) = inr (refused_weaker a b p q e (Begun Is Q) (Begun Whole R) (begun_as Is Q Whole R stops whole) h)

refused_behind : (a b c : Option (List ℕ)) (p q r : Progress) (e : WireFault) (P B C : List ℕ → Type 0) → ((front rest : List ℕ) → P front → B rest → C (front ++ rest)) → Took a b p q P → MemoryRefused b c q r e B → MemoryRefused a c p r e C
refused_behind a b c p q r e P B C joined first h = record {
  bytes = first.bytes ++ h.bytes;
  consumed = Consumes-trans a b c first.bytes h.bytes first.consumed h.consumed;
  unspent = first.unspent;
  within = omega (arith, h.within, Took-place a b p q P first, Took-limit a b p q P first, length-append first.bytes h.bytes);
  memory = h.memory;
  spent = h.spent;
  holds = joined first.bytes h.bytes first.holds h.holds;
}

begun_behind : {V W : Type 0} (P : List ℕ → Type 0) (Is : V → List ℕ → Type 0) (Q : Stop → List ℕ → Type 0) (Whole : W → List ℕ → Type 0) (R : Stop → List ℕ → Type 0) → ((front rest : List ℕ) (s : Stop) → P front → Q s rest → R (moved (length front) s) (front ++ rest)) → ((front rest : List ℕ) (v : V) → P front → Is v rest → Begun Whole R (front ++ rest)) → (front rest : List ℕ) → P front → Begun Is Q rest → Begun Whole R (front ++ rest)
begun_behind P Is Q Whole R joined whole front rest x (inl h) = inl (moved (length front) h.0, joined front rest h.0 x h.1)
begun_behind P Is Q Whole R joined whole front rest x (inr h) = whole front rest h.0 x h.1

-- a fault behind bytes that were taken; they and what begins a tree behind them begin a tree of both
pub fails_behind : {V W : Type 0} (a b c : Option (List ℕ)) (p q r : Progress) (e : WireFault) (P : List ℕ → Type 0) (Is : V → List ℕ → Type 0) (Q : Stop → List ℕ → Type 0) (Whole : W → List ℕ → Type 0) (R : Stop → List ℕ → Type 0) → ((front rest : List ℕ) (s : Stop) → P front → Q s rest → R (moved (length front) s) (front ++ rest)) → ((front rest : List ℕ) (v : V) → P front → Is v rest → Begun Whole R (front ++ rest)) → Took a b p q P → Fails b c q r e Is Q → Fails a c p r e Whole R
fails_behind a b c p q r e P Is Q Whole R joined whole first (inl h) = inl (fault_behind a b c p q r e P Q R joined first h)
fails_behind a b c p q r e P Is Q Whole R joined whole first (inr h) = inr (refused_behind a b c p q r e P (Begun Is Q) (Begun Whole R) (begun_behind P Is Q Whole R joined whole) first h)

-- memory was refused behind bytes that were taken, which begin a tree
pub refused_there : {W : Type 0} (a b b' : Option (List ℕ)) (p q q' : Progress) (e : WireFault) (P : List ℕ → Type 0) (Is : W → List ℕ → Type 0) (R : Stop → List ℕ → Type 0) → ((bytes : List ℕ) → P bytes → Begun Is R bytes) → Took a b p q P → b' ≡ b → q'.fault ≡ Some NoMemory → e ≡ NoMemory → Fails a b' p q' e Is R
refused_there a b b' p q q' e P Is R begins took same spent memory = inr (record {
  bytes = took.bytes;
  consumed = subst (λ x. Consumes a x took.bytes) (sym same) took.consumed;
  unspent = took.unspent;
  within = took.within;
  memory = memory;
  spent = spent;
  holds = begins took.bytes took.holds;
})

-- ---- inside one struct or collection more

-- one more is open, and nothing was taken
abbrev pub Opened : Option (List ℕ) → Option (List ℕ) → Progress → Progress → Type 0
Opened a b p q = Consumes a b [] × (p.fault ≡ None) × (1 ≤ p.room) × (q ≡ opened p)

pub opened-unspent : (a b : Option (List ℕ)) (p q : Progress) → Opened a b p q → q.fault ≡ None
opened-unspent a b p q o = ap (λ (x : Progress). x.fault) o.3 ∙ o.1

pub opened-room : (a b : Option (List ℕ)) (p q : Progress) → Opened a b p q → q.room ≡ p.room - 1
opened-room a b p q o = ap (λ (x : Progress). x.room) o.3

shut : (p q : Progress) (n : ℕ) → 1 ≤ p.room → q ≡ advanced n (opened p) → closed q ≡ advanced n p
shut p q n some is =
    let room : p.room - 1 + 1 ≡ p.room = omega (arith, some) in
    ap closed is ∙ ap (λ m. record { place = p.place + n; limit = p.limit; room = m; fault = p.fault }) room

-- what was taken inside was taken
pub nested_took : (a b c c' : Option (List ℕ)) (p q r r' : Progress) (P R : List ℕ → Type 0) → ((bytes : List ℕ) → P bytes → R bytes) → Opened a b p q → Took b c q r P → c' ≡ c → r' ≡ closed r → Took a c' p r' R
nested_took a b c c' p q r r' P R weaker o took same is =
    let place : q.place ≡ p.place = ap (λ (x : Progress). x.place) o.3 in
    let limit : q.limit ≡ p.limit = ap (λ (x : Progress). x.limit) o.3 in
    record {
      bytes = took.bytes;
      consumed = subst (λ x. Consumes a x took.bytes) (sym same) (Consumes-trans a b c [] took.bytes o.0 took.consumed);
      unspent = o.1;
      progress = is ∙ shut p r (length took.bytes) o.2 (took.progress ∙ ap (advanced (length took.bytes)) o.3);
      within = omega (arith, took.within, place, limit);
      holds = weaker took.bytes took.holds;
    }

nested_tells : (a b c : Option (List ℕ)) (place limit : ℕ) (bytes : List ℕ) (s : Stop) (e : WireFault) → Consumes a b [] → Tells b c place limit bytes s e → Tells a c place limit bytes s e
nested_tells a b c place limit bytes s e none tells =
    subst (λ x. Tells a c place limit bytes x e) (moved-zero s) (tells_behind a b c place limit [] bytes s e none (subst (λ n. Tells b c n limit bytes s e) (sym (add-zero place)) tells))

nested_halted : (a b c : Option (List ℕ)) (p q r : Progress) (e : WireFault) (Q R : Stop → List ℕ → Type 0) → ((s : Stop) (bytes : List ℕ) → Q s bytes → R s bytes) → Opened a b p q → Halted b c q r e Q → Halted a c p r e R
nested_halted a b c p q r e Q R weaker o h = record {
  bytes = h.bytes;
  stop = h.stop;
  unspent = o.1;
  spent = h.spent;
  holds = weaker h.stop h.bytes h.holds;
  tells = nested_tells a b c p.place p.limit h.bytes h.stop e o.0 (subst (λ x. Tells b c x.place x.limit h.bytes h.stop e) o.3 h.tells);
}

nested_refused : (a b c : Option (List ℕ)) (p q r : Progress) (e : WireFault) (B C : List ℕ → Type 0) → ((bytes : List ℕ) → B bytes → C bytes) → Opened a b p q → MemoryRefused b c q r e B → MemoryRefused a c p r e C
nested_refused a b c p q r e B C weaker o h =
    let place : q.place ≡ p.place = ap (λ (x : Progress). x.place) o.3 in
    let limit : q.limit ≡ p.limit = ap (λ (x : Progress). x.limit) o.3 in
    record { bytes = h.bytes; consumed = Consumes-trans a b c [] h.bytes o.0 h.consumed; unspent = o.1; within = omega (arith, h.within, place, limit); memory = h.memory; spent = h.spent; holds = weaker h.bytes h.holds }

-- a fault that is told inside is a fault of the struct or collection
pub nested_fault : (a b c : Option (List ℕ)) (p q r : Progress) (e : WireFault) (Q R : Stop → List ℕ → Type 0) → ((s : Stop) (bytes : List ℕ) → Q s bytes → R s bytes) → Opened a b p q → Faulted b c q r e Q → Faulted a c p r e R
nested_fault a b c p q r e Q R weaker o (inl h) = inl (nested_halted a b c p q r e Q R weaker o h)
nested_fault a b c p q r e Q R weaker o (inr again) = let is : None ≡ Some e = sym (opened-unspent a b p q o) ∙ again.before in absurd cc

-- so is any fault inside; what is begun inside is begun
pub nested_stop : {V W : Type 0} (a b c : Option (List ℕ)) (p q r : Progress) (e : WireFault) (Is : V → List ℕ → Type 0) (Q : Stop → List ℕ → Type 0) (Whole : W → List ℕ → Type 0) (R : Stop → List ℕ → Type 0) → ((s : Stop) (bytes : List ℕ) → Q s bytes → R s bytes) → ((v : V) (bytes : List ℕ) → Is v bytes → Begun Whole R bytes) → Opened a b p q → Fails b c q r e Is Q → Fails a c p r e Whole R
nested_stop a b c p q r e Is Q Whole R weaker whole o (inl h) = inl (nested_fault a b c p q r e Q R weaker o h)
nested_stop a b c p q r e Is Q Whole R weaker whole o (inr h) = inr (nested_refused a b c p q r e (Begun Is Q) (Begun Whole R) (begun_as Is Q Whole R weaker whole) o h)

stops_deep : (depth ty : ℕ) (s : Stop) (bytes : List ℕ) → IsNested ty → depth ≡ 0 → s ≡ Large 0 → bytes ≡ [] → StopsWire depth ty s bytes
stops_deep zero ty s bytes nested deep large none = inr (nested, none, large)
stops_deep (suc d) ty s bytes nested deep large none = absurd (omega (arith, deep))

-- too many were open already
pub open_stop : {W : Type 0} (a b : Option (List ℕ)) (p q : Progress) (e : WireFault) (ty : ℕ) (Is : W → List ℕ → Type 0) → IsNested ty → Opens {T = ⊤} a b p q (Err e) → Fails a b p q e Is (StopsWire p.room ty)
open_stop a b p q e ty Is nested (inl h) = inl (inl (record { bytes = h.bytes; stop = h.stop; unspent = h.unspent; spent = h.spent; tells = h.tells; holds = stops_deep p.room ty h.stop h.bytes nested h.holds.0 h.holds.1 h.holds.2 }))
open_stop a b p q e ty Is nested (inr h) = inl (inr h)

-- a struct or collection that was opened can be closed
pub room_left : (a b c d : Option (List ℕ)) (p q r : Progress) (P : List ℕ → Type 0) → Opened a b p q → p.room ≤ DEPTH_LIMIT → Took c d q r P → r.room < DEPTH_LIMIT
room_left a b c d p q r P o fits took = omega (arith, Took-room c d q r P took, opened-room a b p q o, o.2, fits)
