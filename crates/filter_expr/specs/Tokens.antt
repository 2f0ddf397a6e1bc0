-- The tokens of a text, each with the byte offset at which it begins.
use Rattle.std.specs.Prelude.{◌==◌, ℕ, ◌+◌, ◌-◌, Bool, zero, suc, true, false, ◌||◌, if◌then◌else◌, ℤ, List, [], ◌∷◌, map, take, codes, Option, None, Some}
use Rattle.std.specs.List.{prefix_len}
use Rattle.std.specs.Char.{is_ascii_alphabetic, is_ascii_alphanumeric, is_ascii_digit, to_ascii_lowercase}
use Rattle.std.specs.Str.{bytes_eq}
use Rattle.filter_expr.specs.declared.token.Mark.{Mark}
use Rattle.filter_expr.specs.declared.token.Mark.TheVariants.{Open, Close, Comma, And, Or, Not, In, Between}
use Rattle.filter_expr.specs.declared.token.Operator.{Operator}
use Rattle.filter_expr.specs.declared.token.Operator.TheVariants.{Equals, Differs, Below, AtMost, Above, AtLeast}
use Rattle.filter_expr.specs.declared.token.Literal.TheVariants.{Quoted, Number}
use Rattle.filter_expr.specs.declared.token.Token.{Token}
use Rattle.filter_expr.specs.declared.token.Token.TheVariants.{Marked, Compare, Key, Value, Bad, End}
use Rattle.filter_expr.specs.Integers.{integer}

-- space, tab, line feed and carriage return separate tokens
abbrev pub is_space : ℕ → Bool
is_space byte = byte == 32 || byte == 9 || byte == 10 || byte == 13

-- the marks of one byte: ( ) ,
abbrev pub mark : ℕ → Option Mark
mark byte = if byte == 40 then Some Open else if byte == 41 then Some Close else if byte == 44 then Some Comma else None

-- operators begin with = ! < >, and the longest one counts
abbrev pub is_operator_byte : ℕ → Bool
is_operator_byte byte = byte == 61 || byte == 33 || byte == 60 || byte == 62

abbrev pub operator : ℕ → ℕ → Option (Operator × ℕ)
operator first second =
    if first == 61 then Some (Equals, 1)
    else if first == 33 then (if second == 61 then Some (Differs, 2) else None)
    else if first == 60 then (if second == 61 then Some (AtMost, 2) else if second == 62 then Some (Differs, 2) else Some (Below, 1))
    else if first == 62 then (if second == 61 then Some (AtLeast, 2) else Some (Above, 1))
    else None

abbrev pub compare_token : Option (Operator × ℕ) → Token × ℕ
compare_token None = (Bad, 0)
compare_token (Some found) = (Compare found.0, found.1)

abbrev pub first_or_zero : List ℕ → ℕ
first_or_zero [] = 0
first_or_zero (byte ∷ bytes) = byte

abbrev pub operator_token : ℕ → List ℕ → Token × ℕ
operator_token first rest = compare_token (operator first (first_or_zero rest))

-- one more byte was read, which says a byte, or nothing of itself
abbrev pub says : ℕ → Option (List ℕ × ℕ) → Option (List ℕ × ℕ)
says byte None = None
says byte (Some read) = Some (byte ∷ read.0, read.1 + 1)

abbrev pub is_silent : Option (List ℕ × ℕ) → Option (List ℕ × ℕ)
is_silent None = None
is_silent (Some read) = Some (read.0, read.1 + 1)

-- what stands before the next quotation mark, and how many bytes that and the mark are; a backslash before a character stands for
-- that character
abbrev pub behind_quote : ℕ → Bool → List ℕ → Option (List ℕ × ℕ)
behind_quote quote escaped [] = None
behind_quote quote escaped (byte ∷ bytes) =
    if escaped then says byte (behind_quote quote false bytes)
    else if byte == quote then Some ([], 1)
    else if byte == 92 then is_silent (behind_quote quote true bytes)
    else says byte (behind_quote quote false bytes)

abbrev pub literal_token : Option (List ℕ × ℕ) → Token × ℕ
literal_token None = (Bad, 0)
literal_token (Some read) = (Value (Quoted read.0), read.1 + 1)

abbrev pub quoted_token : ℕ → List ℕ → Token × ℕ
quoted_token quote rest = literal_token (behind_quote quote false rest)

-- as many digits as there are, behind a '-' if there is one; a value out of range is no token
abbrev pub number_len : List ℕ → ℕ
number_len [] = 0
number_len (byte ∷ bytes) = if byte == 45 then prefix_len is_ascii_digit bytes + 1 else prefix_len is_ascii_digit (byte ∷ bytes)

abbrev pub integer_token : ℕ → Option ℤ → Token × ℕ
integer_token len None = (Bad, 0)
integer_token len (Some n) = (Value (Number n), len)

abbrev pub number_token : List ℕ → Token × ℕ
number_token text = integer_token (number_len text) (integer (take (number_len text) text))

-- a word begins with an ASCII letter or _, and goes on with ASCII letters, ASCII digits and _
abbrev pub is_word_start : ℕ → Bool
is_word_start byte = is_ascii_alphabetic byte || byte == 95

abbrev pub is_word_byte : ℕ → Bool
is_word_byte byte = is_ascii_alphanumeric byte || byte == 95

-- the keywords, in lower case
abbrev pub keyword : List ℕ → Option Mark
keyword name =
    if bytes_eq name (codes "and") then Some And
    else if bytes_eq name (codes "or") then Some Or
    else if bytes_eq name (codes "not") then Some Not
    else if bytes_eq name (codes "in") then Some In
    else if bytes_eq name (codes "between") then Some Between
    else None

abbrev pub named_token : List ℕ → Option Mark → Token
named_token name None = Key name
named_token name (Some found) = Marked found

-- as long a word as there is; it is read in lower case, and is a key where it is no keyword
abbrev pub word : List ℕ → List ℕ
word text = map to_ascii_lowercase (take (prefix_len is_word_byte text) text)

abbrev pub word_token : List ℕ → Token × ℕ
word_token text = (named_token (word text) (keyword (word text)), prefix_len is_word_byte text)

abbrev pub other_token : ℕ → List ℕ → Option Mark → Token × ℕ
other_token first rest (Some found) = (Marked found, 1)
other_token first rest None =
    if is_operator_byte first then operator_token first rest
    else if first == 39 || first == 34 then quoted_token first rest
    else if first == 45 || is_ascii_digit first then number_token (first ∷ rest)
    else if is_word_start first then word_token (first ∷ rest)
    else (Bad, 0)

-- the token at the front of a text that begins with no space, and how many bytes it takes
abbrev pub token_at : List ℕ → Token × ℕ
token_at [] = (End, 0)
token_at (first ∷ rest) = other_token first rest (mark first)

-- behind these nothing is read
abbrev pub is_last : Token → Bool
is_last Bad = true
is_last End = true
is_last _ = false

-- the tokens of what is left of a text at a place, behind the first bytes that belong to a token before; the last one is End or Bad
abbrev pub tokens_behind : ℕ → ℕ → List ℕ → List (ℕ × Token)
tokens_behind taken place [] = (place, End) ∷ []
tokens_behind (suc taken) place (byte ∷ bytes) = tokens_behind taken (place + 1) bytes
tokens_behind zero place (byte ∷ bytes) =
    if is_space byte then tokens_behind 0 (place + 1) bytes
    else (place, (token_at (byte ∷ bytes)).0) ∷ (if is_last (token_at (byte ∷ bytes)).0 then [] else tokens_behind ((token_at (byte ∷ bytes)).1 - 1) (place + 1) bytes)

-- the same, where a token was read and the text behind it is left
abbrev pub tokens_left : ℕ → Token → ℕ → List ℕ → List (ℕ × Token)
tokens_left place token behind rest = (place, token) ∷ (if is_last token then [] else tokens_behind 0 behind rest)

abbrev pub begins_with_space : List ℕ → Bool
begins_with_space [] = false
begins_with_space (byte ∷ bytes) = is_space byte

abbrev pub tokens : List ℕ → List (ℕ × Token)
tokens text = tokens_behind 0 0 text
