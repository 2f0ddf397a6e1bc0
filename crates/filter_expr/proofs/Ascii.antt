-- Words are ASCII.
use Rattle.std.proofs.Common.{◌≡◌, ℕ, ◌<◌, Bool, true, false, List, [], ◌∷◌, take, map, refl, sym, arith, get_or, lit<, cond, suc, zero, subst}
use Rattle.std.specs.Prelude.{◌&&◌}
use Rattle.std.specs.List.{list_all, prefix_len, take_while}
use Rattle.std.specs.Char.{to_ascii_lowercase}
use Rattle.std.specs.Str.{IsAscii, IsUtf8}
use Rattle.std.proofs.lemmas.List.Sums.{take_while-cons}
use Rattle.std.proofs.lemmas.Bool.Decides.{nat_tests}
use Rattle.std.proofs.lemmas.Str.{IsUtf8-from_ascii}
use Rattle.filter_expr.specs.Tokens.{is_word_byte}

pub utf8_from_ascii : (bytes : List ℕ) → IsAscii bytes → IsUtf8 bytes
utf8_from_ascii = IsUtf8-from_ascii

-- a byte of a word is ASCII in lower case too
lower_small : (byte : ℕ) → is_word_byte byte ≡ true → to_ascii_lowercase byte < 128
lower_small byte e = grind (arith, nat_tests)

pub lower_ascii : (word : List ℕ) → list_all is_word_byte word ≡ true → IsAscii (map to_ascii_lowercase word)
lower_ascii [] e = λ i. lit< tt
lower_ascii (b ∷ bs) e = go (is_word_byte b) refl e (lower_ascii bs)
  where
    rest : IsAscii (map to_ascii_lowercase bs) → to_ascii_lowercase b < 128 → (i : ℕ) → get_or (to_ascii_lowercase b ∷ map to_ascii_lowercase bs) i 0 < 128
    rest h small zero = small
    rest h small (suc j) = h j

    go : (t : Bool) → is_word_byte b ≡ t → (t && list_all is_word_byte bs) ≡ true → (list_all is_word_byte bs ≡ true → IsAscii (map to_ascii_lowercase bs)) → IsAscii (map to_ascii_lowercase (b ∷ bs))
    go true p q ih = rest (ih q) (lower_small b p)
    go false p q ih = cc

-- the same of bytes that are the word in lower case
pub lower_text : (word bytes : List ℕ) → list_all is_word_byte word ≡ true → bytes ≡ map to_ascii_lowercase word → IsAscii bytes
lower_text word bytes e f = subst IsAscii (sym f) (lower_ascii word e)

-- the longest front of word bytes is made of them
pub word_passes : (text : List ℕ) → list_all is_word_byte (take (prefix_len is_word_byte text) text) ≡ true
word_passes [] = refl
word_passes (b ∷ bs) = rw (take_while-cons is_word_byte b bs) (go (is_word_byte b) refl (word_passes bs))
  where
    go : (t : Bool) → is_word_byte b ≡ t → list_all is_word_byte (take (prefix_len is_word_byte bs) bs) ≡ true → list_all is_word_byte (cond t (b ∷ take_while is_word_byte bs) []) ≡ true
    go true p ih = rw p ih
    go false p ih = refl
