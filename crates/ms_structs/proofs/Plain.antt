-- Values of plain types.
use Rattle.std.proofs.Common.{◌≡◌, ℕ, zero, suc, List, Bool, true, false, refl, sym, subst, ap, ◌∙◌, inl, inr, ℤ, Some, None, Option, Result}
use Rattle.std.specs.Str.{IsUtf8, is_utf8}
use Rattle.std.proofs.lemmas.Bool.{eq-eqb}
use Rattle.std.proofs.lemmas.Str.{IsUtf8-from_is_utf8, is_utf8-from_IsUtf8}
use Rattle.ms_structs.specs.declared.got.Got.{Got}
use Rattle.ms_structs.specs.declared.got.Got.TheVariants.{Is, BadText}
use Rattle.thrift_binary.specs.declared.fault.WireFault.{WireFault}
use Rattle.thrift_binary.specs.declared.progress.Progress.{Progress}
use Rattle.thrift_binary.specs.Taking.{Stop}
use Rattle.thrift_binary.specs.Tree.{Wire, Flag, Number, Bytes}
use Rattle.thrift_binary.specs.Wire.{IsFlag, IsInt, IsLong, IsText, IsWire, StopsPlain, StopsShort, StopsString, StopsWire}
use Rattle.ms_structs.specs.Getting.{ReadsTree}
use Rattle.ms_structs.specs.Slots.{typed}
use Rattle.ms_structs.specs.Values.{text_of, flag_of, number_of}
use Rattle.ms_structs.proofs.Getting.{gets_weaker}

stops_plain : (depth ty : ℕ) (s : Stop) (bytes : List ℕ) → StopsPlain ty s bytes → StopsWire depth ty s bytes
stops_plain zero ty s bytes h = inl h
stops_plain (suc d) ty s bytes h = inl h

pub stops_flag : (depth : ℕ) (s : Stop) (bytes : List ℕ) → StopsShort 1 s bytes → StopsWire depth 2 s bytes
stops_flag depth s bytes h = stops_plain depth 2 s bytes (inl (1, inl (refl, refl), h))

pub stops_int : (depth : ℕ) (s : Stop) (bytes : List ℕ) → StopsShort 4 s bytes → StopsWire depth 8 s bytes
stops_int depth s bytes h = stops_plain depth 8 s bytes (inl (4, inr (inr (inr (inr (inl (refl, refl))))), h))

pub stops_long : (depth : ℕ) (s : Stop) (bytes : List ℕ) → StopsShort 8 s bytes → StopsWire depth 10 s bytes
stops_long depth s bytes h = stops_plain depth 10 s bytes (inl (8, inr (inr (inr (inr (inr (refl, refl))))), h))

pub stops_text : (depth : ℕ) (s : Stop) (bytes : List ℕ) → StopsString s bytes → StopsWire depth 11 s bytes
stops_text depth s bytes h = stops_plain depth 11 s bytes (inr (refl, h))

-- what is read off a plain value is what its tree says
pub flag_read : (depth : ℕ) (value : Bool) (bytes : List ℕ) → IsFlag value bytes → (w : Wire) × IsWire w depth 2 bytes × (Is value ≡ flag_of w)
flag_read depth value bytes h = (Flag value, (refl, h), refl)

pub int_read : (depth : ℕ) (n m : ℤ) (bytes : List ℕ) → m ≡ n → IsInt n bytes → (w : Wire) × IsWire w depth 8 bytes × (Is m ≡ number_of w)
int_read depth n m bytes same h = (Number n, inr (inr (inl (refl, h))), ap Is same)

pub long_read : (depth : ℕ) (n m : ℤ) (bytes : List ℕ) → m ≡ n → IsLong n bytes → (w : Wire) × IsWire w depth 10 bytes × (Is m ≡ number_of w)
long_read depth n m bytes same h = (Number n, inr (inr (inr (refl, h))), ap Is same)

pub text_read : (depth : ℕ) (text bytes : List ℕ) → IsText (Some text) bytes → (w : Wire) × IsWire w depth 11 bytes × (Is text ≡ text_of w)
text_read depth text bytes h = let e : is_utf8 text ≡ true = is_utf8-from_IsUtf8 text h.1 in (Bytes text, (refl, h.0), rw e refl)

not_utf8 : (bytes : List ℕ) (b : Bool) → is_utf8 bytes ≡ b → (IsUtf8 bytes → ⊥) → is_utf8 bytes ≡ false
not_utf8 bytes true e h = absurd (h (IsUtf8-from_is_utf8 bytes e))
not_utf8 bytes false e h = e

pub bad_text_read : (depth : ℕ) (bytes : List ℕ) → IsText None bytes → (w : Wire) × IsWire w depth 11 bytes × (BadText ≡ text_of w)
bad_text_read depth bytes h = let e : is_utf8 h.0 ≡ false = not_utf8 h.0 (is_utf8 h.0) refl h.2 in (Bytes h.0, (refl, h.1), rw e refl)

-- a value of the type that is wanted says what it means
typed_same : {T : Type 0} (code ty : ℕ) (means : Wire → Got T) (w : Wire) → ty ≡ code → typed code means ty w ≡ means w
typed_same code ty means w same = rw (same, eq-eqb code code refl) refl

pub typed_read : {T : Type 0} (a b : Option (List ℕ)) (p q : Progress) (r : Result (Got T) WireFault) (code ty : ℕ) (means : Wire → Got T) → ty ≡ code → ReadsTree a b p q r (λ w. IsWire w p.room code) (λ w got. got ≡ means w) (StopsWire p.room code) → ReadsTree a b p q r (λ w. IsWire w p.room ty) (λ w got. got ≡ typed code means ty w) (StopsWire p.room ty)
typed_read {T} a b p q r code ty means same h =
    let read = gets_weaker a b p q r (λ w. IsWire w p.room code) (λ w (got : Got T). got ≡ means w) (λ w got. got ≡ typed code means ty w) (StopsWire p.room code) (λ w got is. is ∙ sym (typed_same code ty means w same)) h in
    subst (λ n. ReadsTree a b p q r (λ w. IsWire w p.room n) (λ w (got : Got T). got ≡ typed code means ty w) (StopsWire p.room n)) (sym same) read
