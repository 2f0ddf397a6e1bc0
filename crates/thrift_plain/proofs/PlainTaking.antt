-- The plain decoder's reads, one behind the other.
use Rattle.std.proofs.Common.{◌≡◌, ◌⊎◌, inl, inr, ℕ, ◌+◌, ◌≤◌, List, ◌++◌, length, ℤ, Result, Ok, Err, refl, sym, ap, ◌∙◌, subst, append_assoc, length-append, arith}
use Rattle.thrift_binary.specs.Taking.{Stop, Cut, Bad, Large, moved}
use Rattle.thrift_binary.specs.Wire.{IsThen, StopsThen, IsBody}
use Rattle.thrift_plain.specs.PlainReading.{Told, Halted, Passed, Takes}
use Rattle.thrift_plain.specs.declared.plain_reader.Halt.{Halt}
use Rattle.thrift_plain.specs.declared.plain_reader.Halt.TheVariants as told

-- what Takes says of a halt
abbrev pub Faulted : List ℕ → Halt → (Stop → List ℕ → Type 0) → Type 0
Faulted old halt Stopped = Halted old halt Stopped ⊎ (halt ≡ told.NoMemory)

pub passed_weaker : (old new : List ℕ) (P Q : List ℕ → Type 0) → ((bytes : List ℕ) → P bytes → Q bytes) → Passed old new P → Passed old new Q
passed_weaker old new P Q weaker passed = record { bytes = passed.bytes; parts = passed.parts; holds = weaker passed.bytes passed.holds }

joined_parts : (old mid new front rest : List ℕ) → old ≡ front ++ mid → mid ≡ rest ++ new → old ≡ (front ++ rest) ++ new
joined_parts old mid new front rest first second = first ∙ ap (λ t. front ++ t) second ∙ sym (append_assoc front rest new)

-- two things passed, one behind the other
pub passed_then : (old mid new : List ℕ) (P Q R : List ℕ → Type 0) → ((front rest : List ℕ) → P front → Q rest → R (front ++ rest)) → Passed old mid P → Passed mid new Q → Passed old new R
passed_then old mid new P Q R joined first second = record {
  bytes = first.bytes ++ second.bytes;
  parts = joined_parts old mid new first.bytes second.bytes first.parts second.parts;
  holds = joined first.bytes second.bytes first.holds second.holds;
}

told_behind : (size n : ℕ) (more : List ℕ) (s : Stop) (halt : Halt) → Told size more s halt → Told (n + size) more (moved n s) halt
told_behind size n more Cut halt t = t
told_behind size n more (Bad code q) halt t = (t.0, t.1, omega (arith, t.2))
told_behind size n more (Large q) halt t = (t.0, t.1, omega (arith, t.2))

-- bytes were passed, and behind them the others stop
pub halted_behind : (old mid : List ℕ) (halt : Halt) (P : List ℕ → Type 0) (Q R : Stop → List ℕ → Type 0) → ((front rest : List ℕ) (s : Stop) → P front → Q s rest → R (moved (length front) s) (front ++ rest)) → Passed old mid P → Halted mid halt Q → Halted old halt R
halted_behind old mid halt P Q R joined first stop =
    let size : length first.bytes + length mid ≡ length old = sym (ap length first.parts ∙ length-append first.bytes mid) in
    record {
      front = first.bytes ++ stop.front;
      more = stop.more;
      stop = moved (length first.bytes) stop.stop;
      parts = joined_parts old mid stop.more first.bytes stop.front first.parts stop.parts;
      holds = joined first.bytes stop.front stop.stop first.holds stop.holds;
      tells = subst (λ n. Told n stop.more (moved (length first.bytes) stop.stop) halt) size (told_behind (length mid) (length first.bytes) stop.more stop.stop halt stop.tells);
    }

pub fault_behind : (old mid : List ℕ) (halt : Halt) (P : List ℕ → Type 0) (Q R : Stop → List ℕ → Type 0) → ((front rest : List ℕ) (s : Stop) → P front → Q s rest → R (moved (length front) s) (front ++ rest)) → Passed old mid P → Faulted mid halt Q → Faulted old halt R
fault_behind old mid halt P Q R joined first (inl stop) = inl (halted_behind old mid halt P Q R joined first stop)
fault_behind old mid halt P Q R joined first (inr e) = inr e

pub fault_weaker : (old : List ℕ) (halt : Halt) (Q R : Stop → List ℕ → Type 0) → ((s : Stop) (bytes : List ℕ) → Q s bytes → R s bytes) → Faulted old halt Q → Faulted old halt R
fault_weaker old halt Q R weaker (inl h) = inl (record { front = h.front; more = h.more; stop = h.stop; parts = h.parts; holds = weaker h.stop h.front h.holds; tells = h.tells })
fault_weaker old halt Q R weaker (inr e) = inr e

-- the same bytes, said in another way
pub takes_weaker : {T : Type 0} (old new : List ℕ) (result : Result T Halt) (P P' : T → List ℕ → Type 0) (Q Q' : Stop → List ℕ → Type 0) → ((v : T) (bytes : List ℕ) → P v bytes → P' v bytes) → ((s : Stop) (bytes : List ℕ) → Q s bytes → Q' s bytes) → Takes old new result P Q → Takes old new result P' Q'
takes_weaker old new (Ok v) P P' Q Q' ok err takes = passed_weaker old new (P v) (P' v) (ok v) takes
takes_weaker old new (Err halt) P P' Q Q' ok err takes = fault_weaker old halt Q Q' err takes

-- what was passed is refused, at a place from which so many bytes are left
pub refused_bad : (old new : List ℕ) (code q left : ℕ) (P : List ℕ → Type 0) (R : Stop → List ℕ → Type 0) → ((bytes : List ℕ) → P bytes → R (Bad code q) bytes) → left + q ≡ length old → Passed old new P → Faulted old (told.Bad code left) R
refused_bad old new code q left P R bad at passed = inl (record { front = passed.bytes; more = new; stop = Bad code q; parts = passed.parts; holds = bad passed.bytes passed.holds; tells = (left, refl, at) })

pub refused_large : (old new : List ℕ) (q left : ℕ) (P : List ℕ → Type 0) (R : Stop → List ℕ → Type 0) → ((bytes : List ℕ) → P bytes → R (Large q) bytes) → left + q ≡ length old → Passed old new P → Faulted old (told.Large left) R
refused_large old new q left P R large at passed = inl (record { front = passed.bytes; more = new; stop = Large q; parts = passed.parts; holds = large passed.bytes passed.holds; tells = (left, refl, at) })

-- a number that is another as it is printed
pub passed_at : (old new : List ℕ) (y z : ℤ) (P : ℤ → List ℕ → Type 0) → y ≡ z → Passed old new (P z) → Passed old new (P y)
passed_at old new y z P same = subst (λ n. Passed old new (P n)) (sym same)

pub at_least : (old new : List ℕ) (n : ℕ) (P : List ℕ → Type 0) → ((bytes : List ℕ) → P bytes → n ≤ length bytes) → Passed old new P → n ≤ length old
at_least old new n P long passed = omega (arith, long passed.bytes passed.holds, ap length passed.parts, length-append passed.bytes new)

-- so many bytes were taken whole, and are refused
pub body_bad : (old new : List ℕ) (code q left n : ℕ) (body : List ℕ) (R : Stop → List ℕ → Type 0) → R (Bad code q) body → left + q ≡ length old → Passed old new (IsBody n body) → Faulted old (told.Bad code left) R
body_bad old new code q left n body R bad at passed = refused_bad old new code q left (IsBody n body) R (λ bytes h. subst (R (Bad code q)) (sym h.0) bad) at passed

pub body_large : (old new : List ℕ) (q left n : ℕ) (body : List ℕ) (R : Stop → List ℕ → Type 0) → R (Large q) body → left + q ≡ length old → Passed old new (IsBody n body) → Faulted old (told.Large left) R
body_large old new q left n body R large at passed = refused_large old new q left (IsBody n body) R (λ bytes h. subst (R (Large q)) (sym h.0) large) at passed

module _ {A B : Type 0} (First : A → List ℕ → Type 0) (Stopped : Stop → List ℕ → Type 0) (Second : A → B → List ℕ → Type 0) (StopsSecond : A → Stop → List ℕ → Type 0) where
  -- a value was taken, and then another
  pub taken_then : (old mid new : List ℕ) (v : A) (w : B) → Passed old mid (First v) → Passed mid new (Second v w) → Passed old new (IsThen First Second v w)
  taken_then old mid new v w first second = passed_then old mid new (First v) (Second v w) (IsThen First Second v w) (λ front rest x y. (front, rest, refl, x, y)) first second

  -- or the second one's fault
  pub fault_then : (old mid : List ℕ) (v : A) (halt : Halt) → Passed old mid (First v) → Faulted mid halt (StopsSecond v) → Faulted old halt (StopsThen First Stopped StopsSecond)
  fault_then old mid v halt first second = fault_behind old mid halt (First v) (StopsSecond v) (StopsThen First Stopped StopsSecond) (λ front rest s x y. inr (v, front, rest, s, refl, x, refl, y)) first second
