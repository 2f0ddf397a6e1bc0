-- Reading up to a quotation mark, byte by byte.
use Rattle.std.proofs.Common.{◌≡◌, ℕ, ◌+◌, List, [], ◌∷◌, ◌++◌, refl, arith, append_assoc, Option, None, Some}
use Rattle.filter_expr.specs.Tokens.{says, is_silent}

-- what was read of a text, and behind it what was read of its rest
abbrev pub with_front : List ℕ → ℕ → Option (List ℕ × ℕ) → Option (List ℕ × ℕ)
with_front front count None = None
with_front front count (Some read) = Some (front ++ read.0, count + read.1)

pub front_says : (front : List ℕ) (count byte : ℕ) (read : Option (List ℕ × ℕ)) → with_front front count (says byte read) ≡ with_front (front ++ byte ∷ []) (count + 1) read
front_says front count byte None = refl
front_says front count byte (Some read) =
    let text : front ++ byte ∷ read.0 ≡ (front ++ byte ∷ []) ++ read.0 = rw (append_assoc front (byte ∷ []) read.0) refl in
    let len : count + (read.1 + 1) ≡ count + 1 + read.1 = omega arith in
    cc

pub front_silent : (front : List ℕ) (count : ℕ) (read : Option (List ℕ × ℕ)) → with_front front count (is_silent read) ≡ with_front front (count + 1) read
front_silent front count None = refl
front_silent front count (Some read) =
    let len : count + (read.1 + 1) ≡ count + 1 + read.1 = omega arith in
    cc
