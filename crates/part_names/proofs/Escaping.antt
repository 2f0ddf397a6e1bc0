-- What the escapes of a value are, character by character.
use Rattle.std.proofs.Common.{◌≡◌, ℕ, ◌+◌, ◌/◌, ◌%◌, ◌<◌, ◌≤◌, Bool, true, false, List, [], ◌∷◌, refl, arith}
use Rattle.std.proofs.lemmas.Bool.{cases_lt, le-ltb}
use Rattle.std.proofs.lemmas.Bool.Decides.{nat_tests}
use Rattle.std.proofs.lemmas.Str.{encode_ascii}
use Rattle.std.specs.List.{AllByRecursion}
use lib.Utf8.{encode, next}
use lib.Dec.{ltb}
use mathlib.Core.Bool.{cond}
use mathlib.Core.Logic.{⊎_elim}
use Rattle.part_names.specs.Making.{escape_of, escaped, is_escaped, upper_digit}

-- a byte that is no ASCII is not written as an escape
pub is_escaped-wide : (byte : ℕ) → 128 ≤ byte → is_escaped byte ≡ false
is_escaped-wide byte wide = grind (arith, nat_tests)

-- what is written as an escape is ASCII
pub is_escaped-ascii : (byte : ℕ) → is_escaped byte ≡ true → byte < 128
is_escaped-ascii byte e = grind (arith, nat_tests)

pub escape_of-plain : (byte : ℕ) → is_escaped byte ≡ false → escape_of byte ≡ byte ∷ []
unfolding escape_of
escape_of-plain byte e = rw e refl

pub escape_of-marked : (byte : ℕ) → is_escaped byte ≡ true → escape_of byte ≡ 37 ∷ upper_digit (byte / 16) ∷ upper_digit (byte % 16) ∷ []
unfolding escape_of
escape_of-marked byte e = rw e refl

-- no byte of it is ASCII, so it stands as it is
pub escaped-wide : (bytes : List ℕ) → AllByRecursion (λ b. 128 ≤ b) bytes → escaped bytes ≡ bytes
escaped-wide [] all = refl
escaped-wide (b ∷ bs) all = rw (escape_of-plain b (is_escaped-wide b all.0), escaped-wide bs all.1) refl

-- the bytes of a character that is no ASCII
encode-wide : (c : ℕ) → 128 ≤ c → AllByRecursion (λ b. 128 ≤ b) (encode c)
unfolding encode
encode-wide c wide = rw (le-ltb c 128 wide) (two (ltb c 2048) (ltb c 65536))
  where
    two : (a b : Bool) → AllByRecursion (λ b. 128 ≤ b) (cond a ((192 + c / 64) ∷ next c ∷ []) (cond b ((224 + c / 4096) ∷ next (c / 64) ∷ next c ∷ []) ((240 + c / 262144) ∷ next (c / 4096) ∷ next (c / 64) ∷ next c ∷ [])))
    two true b = (omega arith, (omega arith, tt))
    two false true = (omega arith, (omega arith, (omega arith, tt)))
    two false false = (omega arith, (omega arith, (omega arith, (omega arith, tt))))

-- a character that isn't written as an escape stands as it is
pub escaped-plain : (c : ℕ) → is_escaped c ≡ false → escaped (encode c) ≡ encode c
escaped-plain c e = ⊎_elim (λ small. rw (encode_ascii c small, escape_of-plain c e) refl) (λ wide. escaped-wide (encode c) (encode-wide c wide)) (cases_lt c 128)

-- a character that is written as an escape is that escape
pub escaped-marked : (c : ℕ) → is_escaped c ≡ true → escaped (encode c) ≡ 37 ∷ upper_digit (c / 16) ∷ upper_digit (c % 16) ∷ []
escaped-marked c e = rw (encode_ascii c (is_escaped-ascii c e), escape_of-marked c e) refl
