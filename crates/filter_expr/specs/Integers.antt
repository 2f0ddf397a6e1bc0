-- Integers written as text.
use Rattle.std.specs.Prelude.{◌==◌, ℕ, ◌+◌, ◌*◌, ◌-◌, ◌^◌, nat_lt, ℤ, pos, neg_ℤ, if◌then◌else◌, List, [], ◌∷◌, Option, None, Some}
use Rattle.std.specs.List.{fold, list_all}
use Rattle.std.specs.Char.{is_ascii_digit}

-- a number with one more digit at its end
abbrev pub grown : ℕ → ℕ → ℕ
grown n digit = 10 * n + (digit - 48)

-- the number that one or more digits spell
abbrev pub number : List ℕ → Option ℕ
number [] = None
number (digit ∷ digits) = if list_all is_ascii_digit (digit ∷ digits) then Some (fold grown 0 (digit ∷ digits)) else None

-- the same, unless it is above a limit
abbrev pub up_to : ℕ → Option ℕ → Option ℕ
up_to limit None = None
up_to limit (Some n) = if nat_lt limit n then None else Some n

abbrev pub positive : Option ℕ → Option ℤ
positive None = None
positive (Some n) = Some (pos n)

abbrev pub negative : Option ℕ → Option ℤ
negative None = None
negative (Some n) = Some (neg_ℤ (pos n))

-- an integer text is an optional '-' and one or more digits, with a value in the range of i64
abbrev pub integer : List ℕ → Option ℤ
integer [] = None
integer (byte ∷ bytes) = if byte == 45 then negative (up_to (2 ^ 63) (number bytes)) else positive (up_to (2 ^ 63 - 1) (number (byte ∷ bytes)))
