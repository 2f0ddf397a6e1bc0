-- What is made of keys and values reads back.
use Rattle.std.proofs.Common.{◌≡◌, ◌≢◌, ℕ, suc, ◌+◌, ◌*◌, ◌/◌, ◌%◌, ◌<◌, ◌≤◌, Bool, true, false, List, [], ◌∷◌, ◌++◌, length, map, get_or, refl, sym, ap, ◌∙◌, arith}
use Rattle.std.proofs.lemmas.Bool.{lt-ltb}
use Rattle.std.proofs.lemmas.Bool.Decides.{nat_tests}
use Rattle.std.specs.Cmp.Derive.{both_true}
use Rattle.std.proofs.lemmas.List.{length-append}
use Rattle.std.proofs.lemmas.List.Elements.{All-append}
use Rattle.std.proofs.lemmas.Str.{encode_ascii}
use Rattle.std.specs.Char.{digit_value, to_ascii_lowercase}
use Rattle.std.specs.List.{AllByRecursion, position_from}
use Rattle.std.specs.Prelude.{◌==◌, ◌||◌, All, None, encode_utf8}
use Rattle.cat_values.specs.Names.{IsObjectName, IsNameByte}
use Rattle.part_names.specs.Making.{component, components_of, escape_of, escaped, is_escaped, part_name, stored, upper_digit}
use Rattle.part_names.specs.Reading.{components, is_escape, is_unreadable, key_of, unescaped, vals, value_of, written_key, written_value}
use Rattle.part_names.specs.Laws.{NamesReadBack, NamesDiffer}
use Rattle.part_names.proofs.Cutting.{IsPart, Lacks, Lacks-nil, Lacks-cons, before_first-at, after_first-at, components-join}
use Rattle.part_names.proofs.Escaping.{escape_of-plain, escape_of-marked, is_escaped-ascii}
use Rattle.part_names.proofs.Undoing.{unescaped-digits, unescaped-none, unescaped-other}
use Rattle.part_names.proofs.Joining.{component-some}

-- an upper-case digit has its value, and comes after the marks that matter here
digit_value-upper : (d : ℕ) → d < 16 → digit_value (upper_digit d) ≡ d
digit_value-upper d h = grind (arith, nat_tests)

upper_digit-low : (d : ℕ) → d < 16 → 48 ≤ upper_digit d
upper_digit-low d h = grind (arith, nat_tests)

apart : (a : ℕ) → a ≢ 47 → (a == 47) ≡ false
apart a other = grind (arith, nat_tests)

above : (a : ℕ) → 48 ≤ a → (a == 47) ≡ false
above a high = grind (arith, nat_tests)

digits_escape : (high low : ℕ) → high < 16 → low < 16 → is_escape 37 (upper_digit high) (upper_digit low) ≡ true
digits_escape high low a b =
    both_true (lt-ltb (digit_value (upper_digit high)) 16 (omega (arith, digit_value-upper high a))) (lt-ltb (digit_value (upper_digit low)) 16 (omega (arith, digit_value-upper low b)))

-- the escape of a byte reads as that byte
unescaped-escape : (byte : ℕ) (rest : List ℕ) → unescaped (escape_of byte ++ rest) ≡ byte ∷ unescaped rest
unescaped-escape byte rest = by_test (is_escaped byte) refl
  where
    by_test : (b : Bool) → is_escaped byte ≡ b → unescaped (escape_of byte ++ rest) ≡ byte ∷ unescaped rest
    by_test true is =
        let small : byte < 128 = is_escaped-ascii byte is in
        let high : byte / 16 < 16 = omega arith in
        let low : byte % 16 < 16 = omega arith in
        let code : 16 * digit_value (upper_digit (byte / 16)) + digit_value (upper_digit (byte % 16)) ≡ byte = omega (arith, digit_value-upper (byte / 16) high, digit_value-upper (byte % 16) low) in
        ap (λ xs. unescaped (xs ++ rest)) (escape_of-marked byte is)
        ∙ unescaped-digits (upper_digit (byte / 16) ∷ upper_digit (byte % 16) ∷ rest) (omega arith) (digits_escape (byte / 16) (byte % 16) high low)
        ∙ ap (λ n. encode_utf8 n ++ unescaped rest) code ∙ ap (λ xs. xs ++ unescaped rest) (encode_ascii byte small)
    by_test false is =
        let other : byte ≢ 37 = λ same. (let marked : is_escaped byte ≡ true = ap is_escaped same in cc) in
        ap (λ xs. unescaped (xs ++ rest)) (escape_of-plain byte is) ∙ unescaped-other byte rest other

-- a value that was escaped reads as that value
pub unescaped-escaped : (value : List ℕ) → unescaped (escaped value) ≡ value
unfolding unescaped
unescaped-escaped [] = refl
unescaped-escaped (byte ∷ bytes) = unescaped-escape byte (escaped bytes) ∙ ap (λ xs. byte ∷ xs) (unescaped-escaped bytes)

Lacks-three : (high low : ℕ) → 48 ≤ high → 48 ≤ low → Lacks 47 (37 ∷ high ∷ low ∷ [])
Lacks-three high low a b = Lacks-cons 47 37 (high ∷ low ∷ []) refl (Lacks-cons 47 high (low ∷ []) (above high a) (Lacks-cons 47 low [] (above low b) (Lacks-nil 47)))

-- no escape has a slash
escape_of-lacks : (byte : ℕ) → Lacks 47 (escape_of byte)
escape_of-lacks byte = by_test (is_escaped byte) refl
  where
    by_test : (b : Bool) → is_escaped byte ≡ b → Lacks 47 (escape_of byte)
    by_test true is =
        let small : byte < 128 = is_escaped-ascii byte is in
        let high : 48 ≤ upper_digit (byte / 16) = upper_digit-low (byte / 16) (omega arith) in
        let low : 48 ≤ upper_digit (byte % 16) = upper_digit-low (byte % 16) (omega arith) in
        rw (escape_of-marked byte is) (Lacks-three (upper_digit (byte / 16)) (upper_digit (byte % 16)) high low)
    by_test false is =
        let other : byte ≢ 47 = λ same. (let marked : is_escaped byte ≡ true = ap is_escaped same in cc) in
        rw (escape_of-plain byte is) (Lacks-cons 47 byte [] (apart byte other) (Lacks-nil 47))

escaped-lacks : (value : List ℕ) → Lacks 47 (escaped value)
escaped-lacks [] = Lacks-nil 47
escaped-lacks (byte ∷ bytes) = All-append (λ b. (b == 47) ≡ false) (escape_of byte) (escaped bytes) (escape_of-lacks byte) (escaped-lacks bytes)

-- nor has a key a slash, a = or a %
name_byte-apart : (byte : ℕ) → IsNameByte byte → ((byte == 47) ≡ false) × ((byte == 61) ≡ false) × (byte ≢ 37)
name_byte-apart byte named = (grind (arith, nat_tests), grind (arith, nat_tests), omega arith)

key-lacks_slash : (key : List ℕ) → IsObjectName key → Lacks 47 key
key-lacks_slash key named k d h = (name_byte-apart (get_or key k d) (named.1 k d h)).0

key-lacks_equals : (key : List ℕ) → IsObjectName key → Lacks 61 key
key-lacks_equals key named k d h = (name_byte-apart (get_or key k d) (named.1 k d h)).1

component-part : (key value : List ℕ) → IsObjectName key → IsPart (component key value)
component-part key value named = record {
  some = component-some key value;
  lacks = All-append (λ b. (b == 47) ≡ false) key (61 ∷ escaped (stored value)) (key-lacks_slash key named) (Lacks-cons 47 61 (escaped (stored value)) refl (escaped-lacks (stored value)));
}

-- what a component was made of
written_key-component : (key value : List ℕ) → IsObjectName key → written_key (component key value) ≡ key
written_key-component key value named = before_first-at 61 key (escaped (stored value)) (key-lacks_equals key named)

written_value-component : (key value : List ℕ) → IsObjectName key → written_value (component key value) ≡ escaped (stored value)
written_value-component key value named = after_first-at 61 key (escaped (stored value)) (key-lacks_equals key named)

value_of-component : (key value : List ℕ) → IsObjectName key → value_of (component key value) ≡ stored value
value_of-component key value named = ap unescaped (written_value-component key value named) ∙ unescaped-escaped (stored value)

key_of-component : (key value : List ℕ) → IsObjectName key → key_of (component key value) ≡ map to_ascii_lowercase key
key_of-component key value named =
    ap (λ xs. map to_ascii_lowercase (unescaped xs)) (written_key-component key value named)
    ∙ ap (λ xs. map to_ascii_lowercase xs) (unescaped-none key (λ i h. (name_byte-apart (get_or key i 0) (named.1 i 0 h)).2))

stored-some : (value : List ℕ) → 0 < length (stored value)
stored-some [] = omega arith
stored-some (byte ∷ bytes) = omega arith

escape_of-some : (byte : ℕ) → 0 < length (escape_of byte)
escape_of-some byte = by_test (is_escaped byte) refl
  where
    by_test : (b : Bool) → is_escaped byte ≡ b → 0 < length (escape_of byte)
    by_test true is = rw (escape_of-marked byte is) (omega arith)
    by_test false is = rw (escape_of-plain byte is) (omega arith)

escaped-some : (value : List ℕ) → 0 < length value → 0 < length (escaped value)
escaped-some [] some = absurd (omega arith)
escaped-some (byte ∷ bytes) some = omega (arith, length-append (escape_of byte) (escaped bytes), escape_of-some byte)

neither_empty : (a b : ℕ) → 0 < a → 0 < b → (a == 0 || b == 0) ≡ false
neither_empty a b first second = grind (arith, nat_tests)

component-readable : (key value : List ℕ) → IsObjectName key → is_unreadable (component key value) ≡ false
component-readable key value named =
    rw (written_key-component key value named, written_value-component key value named)
    (neither_empty (length key) (length (escaped (stored value))) named.0.0 (escaped-some (stored value) (stored-some value)))

-- the same of all components
components-parts : (keys values : List (List ℕ)) → All IsObjectName keys → AllByRecursion IsPart (components_of keys values)
components-parts [] values named = tt
components-parts (key ∷ keys) [] named = tt
components-parts (key ∷ keys) (value ∷ values) named = (component-part key value (named 0 key (omega arith)), components-parts keys values (λ k d h. named (suc k) d (omega arith)))

all_readable : (n : ℕ) (keys values : List (List ℕ)) → All IsObjectName keys → position_from is_unreadable n (components_of keys values) ≡ None
all_readable n [] values named = refl
all_readable n (key ∷ keys) [] named = refl
all_readable n (key ∷ keys) (value ∷ values) named =
    rw (component-readable key value (named 0 key (omega arith))) (all_readable (n + 1) keys values (λ k d h. named (suc k) d (omega arith)))

all_values : (keys values : List (List ℕ)) → length keys ≡ length values → All IsObjectName keys → map value_of (components_of keys values) ≡ map stored values
all_values [] [] same named = refl
all_values [] (value ∷ values) same named = absurd (omega arith)
all_values (key ∷ keys) [] same named = absurd (omega arith)
all_values (key ∷ keys) (value ∷ values) same named =
    ap (λ x. x ∷ map value_of (components_of keys values)) (value_of-component key value (named 0 key (omega arith)))
    ∙ ap (λ xs. stored value ∷ xs) (all_values keys values (omega arith) (λ k d h. named (suc k) d (omega arith)))

all_keys : (keys values : List (List ℕ)) → length keys ≡ length values → All IsObjectName keys → map key_of (components_of keys values) ≡ map (λ key. map to_ascii_lowercase key) keys
all_keys [] values same named = refl
all_keys (key ∷ keys) [] same named = absurd (omega arith)
all_keys (key ∷ keys) (value ∷ values) same named =
    ap (λ x. x ∷ map key_of (components_of keys values)) (key_of-component key value (named 0 key (omega arith)))
    ∙ ap (λ xs. map to_ascii_lowercase key ∷ xs) (all_keys keys values (omega arith) (λ k d h. named (suc k) d (omega arith)))

-- a name is cut into the components of which it was made
components-part_name : (keys values : List (List ℕ)) → All IsObjectName keys → components (part_name keys values) ≡ components_of keys values
unfolding part_name
components-part_name keys values named = components-join (components_of keys values) (components-parts keys values named)

pub names_read_back : NamesReadBack
names_read_back keys values same named =
    let parts = components-part_name keys values named in (
      ap (λ xs. position_from is_unreadable 0 xs) parts ∙ all_readable 0 keys values named,
      ap (λ xs. map value_of xs) parts ∙ all_values keys values same named,
      ap (λ xs. map key_of xs) parts ∙ all_keys keys values same named,
    )

pub names_differ : NamesDiffer
names_differ keys keys' values values' same same' named named' e =
    sym (names_read_back keys values same named).1 ∙ ap vals e ∙ (names_read_back keys' values' same' named').1
