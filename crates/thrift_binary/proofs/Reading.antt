-- Reading one value behind another.
use Rattle.std.proofs.Common.{◌≡◌, ℕ, ◌+◌, ◌-◌, ◌<◌, ◌≤◌, List, [], ◌∷◌, ◌++◌, length, take, Option, Some, None, Result, Ok, Err, MatchResult, refl, sym, ap, ◌∙◌, subst, arith, ◌⊎◌, inl, inr, add_assoc, add-zero, length-append, length-take-le, append_assoc}
use Rattle.std.specs.Io.KnownBytes.{Consumes, IsAtEnd}
use Rattle.std.proofs.KnownBytes.{Consumes-trans, Consumes-nil}
use Rattle.thrift_binary.specs.declared.fault.WireFault.{WireFault}
use Rattle.thrift_binary.specs.declared.fault.WireFault.TheVariants.{Truncated, BadWire, TooLarge, ReadFault, NoMemory}
use Rattle.thrift_binary.specs.declared.progress.Progress.{Progress}
use Rattle.thrift_binary.specs.Taking.{Stop, Cut, Bad, Large, moved, advanced, Took, Tells, Halted, Again, Reads, IsFaultOf, Judges}
use Rattle.thrift_binary.specs.Wire.{IsThen, StopsThen, StopsShort}

pub moved-moved : (i n : ℕ) (s : Stop) → moved (i + n) s ≡ moved i (moved n s)
moved-moved i n Cut = refl
moved-moved i n (Bad code p) = ap (Bad code) (add_assoc i n p)
moved-moved i n (Large p) = ap Large (add_assoc i n p)

pub moved-zero : (s : Stop) → moved 0 s ≡ s
moved-zero Cut = refl
moved-zero (Bad code p) = ap (Bad code) (omega arith)
moved-zero (Large p) = ap Large (omega arith)

-- what was taken has another property too
pub Took-weaker : (a b : Option (List ℕ)) (p q : Progress) (P Q : List ℕ → Type 0) → ((bytes : List ℕ) → P bytes → Q bytes) → Took a b p q P → Took a b p q Q
Took-weaker a b p q P Q weaker took = record { bytes = took.bytes; consumed = took.consumed; unspent = took.unspent; progress = took.progress; within = took.within; holds = weaker took.bytes took.holds }

-- two things taken, one behind the other
pub Took-then : (a b c : Option (List ℕ)) (p q r : Progress) (P Q R : List ℕ → Type 0) → ((front rest : List ℕ) → P front → Q rest → R (front ++ rest)) → Took a b p q P → Took b c q r Q → Took a c p r R
Took-then a b c p q r P Q R joined first second =
    let len = length-append first.bytes second.bytes in
    let place : q.place ≡ p.place + length first.bytes = ap (λ (x : Progress). x.place) first.progress in
    let limit : q.limit ≡ p.limit = ap (λ (x : Progress). x.limit) first.progress in
    let whole : p.place + length first.bytes + length second.bytes ≡ p.place + length (first.bytes ++ second.bytes) = omega (arith, len) in
    record {
      bytes = first.bytes ++ second.bytes;
      consumed = Consumes-trans a b c first.bytes second.bytes first.consumed second.consumed;
      unspent = first.unspent;
      progress = second.progress ∙ ap (advanced (length second.bytes)) first.progress ∙ ap (λ n. record { place = n; limit = p.limit; room = p.room; fault = p.fault }) whole;
      within = omega (arith, second.within, place, limit, len);
      holds = joined first.bytes second.bytes first.holds second.holds;
    }

-- nothing was taken
pub took_nothing : (a : Option (List ℕ)) (p : Progress) (P : List ℕ → Type 0) → p.fault ≡ None → p.place ≤ p.limit → P [] → Took a a p p P
took_nothing a p P unspent within holds = record { bytes = []; consumed = Consumes-nil a; unspent = unspent; progress = ap (λ n. record { place = n; limit = p.limit; room = p.room; fault = p.fault }) (sym (add-zero p.place)); within = omega (arith, within); holds = holds }

pub Took-unspent : (a b : Option (List ℕ)) (p q : Progress) (P : List ℕ → Type 0) → Took a b p q P → q.fault ≡ None
Took-unspent a b p q P took = ap (λ (x : Progress). x.fault) took.progress ∙ took.unspent

pub Took-place : (a b : Option (List ℕ)) (p q : Progress) (P : List ℕ → Type 0) (took : Took a b p q P) → q.place ≡ p.place + length took.bytes
Took-place a b p q P took = ap (λ (x : Progress). x.place) took.progress

pub Took-limit : (a b : Option (List ℕ)) (p q : Progress) (P : List ℕ → Type 0) → Took a b p q P → q.limit ≡ p.limit
Took-limit a b p q P took = ap (λ (x : Progress). x.limit) took.progress

pub Took-room : (a b : Option (List ℕ)) (p q : Progress) (P : List ℕ → Type 0) → Took a b p q P → q.room ≡ p.room
Took-room a b p q P took = ap (λ (x : Progress). x.room) took.progress

-- a reader that took bytes tells no fault of before
pub not_again : (a b c d : Option (List ℕ)) (p q r : Progress) (fault : WireFault) (P : List ℕ → Type 0) → Took a b p q P → Again c d q r fault → ⊥
not_again a b c d p q r fault P took again = let e : None ≡ Some fault = sym (Took-unspent a b p q P took) ∙ again.before in cc

-- a fault that is told behind some bytes
pub tells_behind : (a b c : Option (List ℕ)) (place limit : ℕ) (front rest : List ℕ) (s : Stop) (fault : WireFault) → Consumes a b front → Tells b c (place + length front) limit rest s fault → Tells a c place limit (front ++ rest) (moved (length front) s) fault
tells_behind a b c place limit front rest s (Truncated at) taken t =
    (ap (moved (length front)) t.0, Consumes-trans a b c front rest taken t.1, t.2, omega (arith, t.3, length-append front rest), omega (arith, t.4, length-append front rest))
tells_behind a b c place limit front rest s (BadWire code at) taken t =
    (length front + t.0, ap (moved (length front)) t.1, Consumes-trans a b c front rest taken t.2, omega (arith, t.3, length-append front rest), omega (arith, t.4))
tells_behind a b c place limit front rest s (TooLarge at) taken (inl t) =
    inl (length front + t.0, ap (moved (length front)) t.1, Consumes-trans a b c front rest taken t.2, omega (arith, t.3, length-append front rest), omega (arith, t.4))
tells_behind a b c place limit front rest s (TooLarge at) taken (inr t) =
    inr (t.0, ap (moved (length front)) t.1, subst (Consumes a c) (sym (append_assoc front rest (t.0 ∷ []))) (Consumes-trans a b c front (rest ++ t.0 ∷ []) taken t.2), omega (arith, t.3, length-append front rest), t.4)
tells_behind a b c place limit front rest s ReadFault taken t =
    (ap (moved (length front)) t.0, Consumes-trans a b c front rest taken t.1, omega (arith, t.2, length-append front rest))
tells_behind a b c place limit front rest s NoMemory taken t =
    (ap (moved (length front)) t.0, Consumes-trans a b c front rest taken t.1, omega (arith, t.2, length-append front rest))

-- bytes were taken, and behind them the reading stopped
pub Halted-then : (a b c : Option (List ℕ)) (p q r : Progress) (fault : WireFault) (P : List ℕ → Type 0) (Q R : Stop → List ℕ → Type 0) → ((front rest : List ℕ) (s : Stop) → P front → Q s rest → R (moved (length front) s) (front ++ rest)) → Took a b p q P → Halted b c q r fault Q → Halted a c p r fault R
Halted-then a b c p q r fault P Q R joined first stop =
    let tells = subst (λ n. Tells b c n q.limit stop.bytes stop.stop fault) (Took-place a b p q P first) stop.tells in
    let there = subst (λ n. Tells b c (p.place + length first.bytes) n stop.bytes stop.stop fault) (Took-limit a b p q P first) tells in
    record {
      bytes = first.bytes ++ stop.bytes;
      stop = moved (length first.bytes) stop.stop;
      unspent = first.unspent;
      spent = stop.spent;
      holds = joined first.bytes stop.bytes stop.stop first.holds stop.holds;
      tells = tells_behind a b c p.place p.limit first.bytes stop.bytes stop.stop fault first.consumed there;
    }

-- what Reads says of a fault, whatever was to be read
abbrev pub Faulted : Option (List ℕ) → Option (List ℕ) → Progress → Progress → WireFault → (Stop → List ℕ → Type 0) → Type 0
Faulted a b p q e Q = Halted a b p q e Q ⊎ Again a b p q e

-- a fault behind bytes that were taken
pub fault_behind : (a b c : Option (List ℕ)) (p q r : Progress) (e : WireFault) (P : List ℕ → Type 0) (Q R : Stop → List ℕ → Type 0) → ((front rest : List ℕ) (s : Stop) → P front → Q s rest → R (moved (length front) s) (front ++ rest)) → Took a b p q P → Faulted b c q r e Q → Faulted a c p r e R
fault_behind a b c p q r e P Q R joined first (inl stop) = inl (Halted-then a b c p q r e P Q R joined first stop)
fault_behind a b c p q r e P Q R joined first (inr again) = absurd (not_again a b b c p q r e P first again)

Halted-weaker : (a b : Option (List ℕ)) (p q : Progress) (e : WireFault) (Q Q' : Stop → List ℕ → Type 0) → ((s : Stop) (bytes : List ℕ) → Q s bytes → Q' s bytes) → Halted a b p q e Q → Halted a b p q e Q'
Halted-weaker a b p q e Q Q' weaker h = record { bytes = h.bytes; stop = h.stop; unspent = h.unspent; spent = h.spent; holds = weaker h.stop h.bytes h.holds; tells = h.tells }

-- a fault is a fault of whatever else was to be read, where its stop is one of that
pub fault_again : (a b : Option (List ℕ)) (p q : Progress) (e : WireFault) (Q Q' : Stop → List ℕ → Type 0) → ((s : Stop) (bytes : List ℕ) → Q s bytes → Q' s bytes) → Faulted a b p q e Q → Faulted a b p q e Q'
fault_again a b p q e Q Q' weaker (inl h) = inl (Halted-weaker a b p q e Q Q' weaker h)
fault_again a b p q e Q Q' weaker (inr h) = inr h

-- the same bytes, said in another way
pub reads_weaker : {T : Type 0} (a b : Option (List ℕ)) (p q : Progress) (r : Result T WireFault) (P P' : T → List ℕ → Type 0) (Q Q' : Stop → List ℕ → Type 0) → ((v : T) (bytes : List ℕ) → P v bytes → P' v bytes) → ((s : Stop) (bytes : List ℕ) → Q s bytes → Q' s bytes) → Reads a b p q r P Q → Reads a b p q r P' Q'
reads_weaker a b p q (Ok v) P P' Q Q' ok err reads = Took-weaker a b p q (P v) (P' v) (ok v) reads
reads_weaker a b p q (Err e) P P' Q Q' ok err reads = fault_again a b p q e Q Q' err reads

module _ {A B : Type 0} (First : A → List ℕ → Type 0) (Stopped : Stop → List ℕ → Type 0) (Second : A → B → List ℕ → Type 0) (StopsSecond : A → Stop → List ℕ → Type 0) where
  -- a value was read, and then another, or its fault
  pub reads_then : (a b c : Option (List ℕ)) (p q r : Progress) (v : A) (result : Result B WireFault) → Took a b p q (First v) → Reads b c q r result (Second v) (StopsSecond v) → Reads a c p r result (IsThen First Second v) (StopsThen First Stopped StopsSecond)
  reads_then a b c p q r v (Ok w) first second = Took-then a b c p q r (First v) (Second v w) _ (λ front rest x y. (front, rest, refl, x, y)) first second
  reads_then a b c p q r v (Err e) first second = fault_behind a b c p q r e (First v) (StopsSecond v) (StopsThen First Stopped StopsSecond) (λ front rest s x y. inr (v, front, rest, s, refl, x, refl, y)) first second

-- ---- how a reader's own parts stop

-- the reader keeps the fault that it tells
pub stops : (a b b' : Option (List ℕ)) (p q : Progress) (fault fault' : WireFault) (bytes : List ℕ) (stop : Stop) (Q : Stop → List ℕ → Type 0) → b' ≡ b → fault' ≡ fault → p.fault ≡ None → q.fault ≡ Some fault → Q stop bytes → Tells a b p.place p.limit bytes stop fault → Halted a b' p q fault' Q
stops a b b' p q fault fault' bytes stop Q same told unspent spent holds tells = record {
  bytes = bytes;
  stop = stop;
  unspent = unspent;
  spent = spent ∙ ap Some (sym told);
  holds = holds;
  tells = subst (λ x. Tells a x p.place p.limit bytes stop fault') (sym same) (subst (Tells a b p.place p.limit bytes stop) (sym told) tells);
}

-- a fault of what was read whole is told
tells_read : (a b : Option (List ℕ)) (place limit : ℕ) (bytes : List ℕ) (stop : Stop) (fault : WireFault) → Consumes a b bytes → place + length bytes ≤ limit → IsFaultOf place stop fault → Tells a b place limit bytes stop fault
tells_read a b place limit bytes Cut fault taken within is = absurd is
tells_read a b place limit bytes (Bad code q) fault taken within is = subst (Tells a b place limit bytes (Bad code q)) (sym is) (q, refl, taken, within, refl)
tells_read a b place limit bytes (Large q) fault taken within is = subst (Tells a b place limit bytes (Large q)) (sym is) (inl (q, refl, taken, within, refl))

-- bytes were read whole and judged
pub reads_judged : {T : Type 0} (a b b' : Option (List ℕ)) (p q q' : Progress) (verdict result : Result T WireFault) (P : List ℕ → Type 0) (S : T → List ℕ → Type 0) (Q : Stop → List ℕ → Type 0) → Took a b p q P → ((bytes : List ℕ) → P bytes → Judges p.place bytes verdict S Q) → b' ≡ b → result ≡ verdict → MatchResult verdict (λ _. q' ≡ q) (λ fault. q'.fault ≡ Some fault) → Reads a b' p q' result S Q
reads_judged {T} a b b' p q q' (Ok v) result P S Q took judges same is kept =
    let read : Took a b p q (S v) = Took-weaker a b p q P (S v) judges took in
    subst (λ r. Reads a b' p q' r S Q) (sym is) (subst (λ x. Took a x p q' (S v)) (sym same) (subst (λ x. Took a b p x (S v)) (sym kept) read))
reads_judged {T} a b b' p q q' (Err fault) result P S Q took judges same is kept =
    let verdict = judges took.bytes took.holds in
    subst (λ r. Reads a b' p q' r S Q) (sym is) (inl (stops a b b' p q' fault fault took.bytes verdict.0 Q same refl took.unspent kept verdict.1 (tells_read a b p.place p.limit took.bytes verdict.0 fault took.consumed took.within verdict.2)))

-- the input ended before a buffer was full
pub exact_cut : (a b b' : Option (List ℕ)) (p q : Progress) (n count : ℕ) (buf : List ℕ) (told : WireFault) → Consumes a b (take count buf) → IsAtEnd b → length buf ≡ n → count < n → n ≤ p.limit - p.place → b' ≡ b → told ≡ Truncated (p.place + count) → p.fault ≡ None → q.fault ≡ Some (Truncated (p.place + count)) → Halted a b' p q told (StopsShort n)
exact_cut a b b' p q n count buf told consumed end len less room same is unspent spent =
    let part : length (take count buf) ≡ count = length-take-le count buf (omega (arith, len, less)) in
    stops a b b' p q (Truncated (p.place + count)) told (take count buf) Cut (StopsShort n) same is unspent spent (refl, omega (arith, part, less)) (refl, consumed, end, omega (arith, part, room, less), ap (λ k. p.place + k) (sym part))

-- some bytes came, and then the source failed, or there was no room for more
pub exact_failed : (a b b' : Option (List ℕ)) (p q : Progress) (n count : ℕ) (buf : List ℕ) (fault told : WireFault) → (fault ≡ ReadFault) ⊎ (fault ≡ NoMemory) → Consumes a b (take count buf) → length buf ≡ n → count < n → n ≤ p.limit - p.place → b' ≡ b → told ≡ fault → p.fault ≡ None → q.fault ≡ Some fault → Halted a b' p q told (StopsShort n)
exact_failed a b b' p q n count buf fault told which consumed len less room same is unspent spent =
    let part : length (take count buf) ≡ count = length-take-le count buf (omega (arith, len, less)) in
    let within : p.place + length (take count buf) ≤ p.limit = omega (arith, part, room, less) in
    let tells : Tells a b p.place p.limit (take count buf) Cut fault = elim which [ inl e ↦ subst (Tells a b p.place p.limit (take count buf) Cut) (sym e) (refl, consumed, within) | inr e ↦ subst (Tells a b p.place p.limit (take count buf) Cut) (sym e) (refl, consumed, within) ] in
    stops a b b' p q fault told (take count buf) Cut (StopsShort n) same is unspent spent (refl, omega (arith, part, less)) tells

-- a buffer was filled up to the limit, and there it was told how the reading ends
pub limit_told : (a b c : Option (List ℕ)) (place limit count n : ℕ) (buf : List ℕ) (told : WireFault) → place ≤ limit → limit - place < n → count ≡ limit - place → count ≤ length buf → Consumes a b (take count buf) → Tells b c limit limit [] Cut told → (bytes : List ℕ) × (length bytes < n) × Tells a c place limit bytes Cut told
limit_told a b c place limit count n buf told within past all fits consumed tells =
    let part : length (take count buf) ≡ count = length-take-le count buf fits in
    let here : limit ≡ place + length (take count buf) = omega (arith, part, all, within) in
    (take count buf ++ [], omega (arith, length-append (take count buf) [], part, all, past), tells_behind a b c place limit (take count buf) [] Cut told consumed (subst (λ m. Tells b c m limit [] Cut told) here tells))

-- a fault of what follows n bytes is one of all, with its stop moved
pub fault_moved : (place n : ℕ) (s : Stop) (fault : WireFault) → IsFaultOf (place + n) s fault → IsFaultOf place (moved n s) fault
fault_moved place n Cut fault is = is
fault_moved place n (Bad code q) fault is = is ∙ ap (BadWire code) (omega arith)
fault_moved place n (Large q) fault is = is ∙ ap TooLarge (omega arith)

-- a buffer was filled and judged
pub reads_verdict : {T : Type 0} (a b b' : Option (List ℕ)) (p q q' : Progress) (buf : List ℕ) (verdict result : Result T WireFault) (S : T → List ℕ → Type 0) (Q : Stop → List ℕ → Type 0) → Took a b p q (λ bytes. bytes ≡ buf) → Judges p.place buf verdict S Q → b' ≡ b → result ≡ verdict → MatchResult verdict (λ _. q' ≡ q) (λ fault. q'.fault ≡ Some fault) → Reads a b' p q' result S Q
reads_verdict a b b' p q q' buf verdict result S Q took judges same is kept =
    reads_judged a b b' p q q' verdict result (λ bytes. bytes ≡ buf) S Q took (λ bytes h. subst (λ x. Judges p.place x verdict S Q) (sym h) judges) same is kept

-- more of n bytes were to be read behind some of them, and too few came
pub short_behind : (n : ℕ) (s : Stop) (bytes : List ℕ) → StopsThen {A = List ℕ} (λ front xs. xs ≡ front) (λ _ _. ⊥) (λ front. StopsShort (n - length front)) s bytes → StopsShort n s bytes
short_behind n s bytes (inl none) = absurd none
short_behind n s bytes (inr h) =
    let len : length bytes ≡ length h.1 + length h.2 = ap length h.4 ∙ length-append h.1 h.2 in
    let same : length h.1 ≡ length h.0 = ap length h.5 in
    (h.6 ∙ ap (moved (length h.1)) h.7.0, omega (arith, h.7.1, len, same))

-- what was read whole is refused
pub refused : (a b b' : Option (List ℕ)) (p q q' : Progress) (e e' : WireFault) (P : List ℕ → Type 0) (stop : Stop) (Q : Stop → List ℕ → Type 0) → Took a b p q P → ((bytes : List ℕ) → P bytes → Q stop bytes) → IsFaultOf p.place stop e → b' ≡ b → e' ≡ e → q'.fault ≡ Some e → Halted a b' p q' e' Q
refused a b b' p q q' e e' P stop Q took refuses is same told kept =
    stops a b b' p q' e e' took.bytes stop Q same told took.unspent kept (refuses took.bytes took.holds) (tells_read a b p.place p.limit took.bytes stop e took.consumed took.within is)
