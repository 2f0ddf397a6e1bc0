-- A name grows by one component after another, and stays far below the limit of a text.
use Rattle.std.proofs.Common.{◌≡◌, ℕ, suc, ◌*◌, ◌<◌, ◌≤◌, Bool, true, false, List, [], ◌∷◌, ◌++◌, length, refl, sym, ap, ◌∙◌, ◌⊎◌, inl, inr, arith}
use Rattle.std.proofs.lemmas.Bool.Decides.{nat_tests}
use Rattle.std.proofs.lemmas.List.{append-nil, append_assoc, length-append}
use Rattle.std.specs.List.{flat_map, join_with_byte}
use Rattle.std.specs.Prelude.{◌==◌, All}
use Rattle.cat_values.specs.Names.{IsObjectName}
use Rattle.part_names.specs.Making.{IsValidValue, component, components_of, grown, escape_of, escaped, is_escaped, part_name, stored}
use Rattle.cat_values.specs.declared.text.TheConstants.{TEXT_LIMIT}
use Rattle.part_names.proofs.Escaping.{escape_of-plain, escape_of-marked}

-- components behind one that stands already
abbrev pub behind : List (List ℕ) → List ℕ
behind texts = flat_map (λ text. 47 ∷ text) texts

-- a name so far, with the components that are still to come
abbrev pub joined : List ℕ → List (List ℕ) → List ℕ
joined [] texts = join_with_byte 47 texts
joined (byte ∷ bytes) texts = (byte ∷ bytes) ++ behind texts

pub join-behind : (text : List ℕ) (texts : List (List ℕ)) → join_with_byte 47 (text ∷ texts) ≡ text ++ behind texts
join-behind text [] = sym (append-nil text)
join-behind text (next ∷ texts) = ap (λ xs. text ++ 47 ∷ xs) (join-behind next texts)

-- the next component goes behind a slash, unless it is the first
pub joined_more : (name text : List ℕ) (texts : List (List ℕ)) → 0 < length text → joined (grown name text) texts ≡ joined name (text ∷ texts)
joined_more [] [] texts some = absurd (omega arith)
joined_more [] (x ∷ xs) texts some = sym (join-behind (x ∷ xs) texts)
joined_more (byte ∷ bytes) text texts some = let e : (length (byte ∷ bytes) == 0) ≡ false = grind (arith, nat_tests) in rw e (append_assoc (byte ∷ bytes) (47 ∷ text) (behind texts))

pub joined_all : (name : List ℕ) → joined name [] ≡ name
joined_all [] = refl
joined_all (byte ∷ bytes) = append-nil (byte ∷ bytes)

pub component-some : (key value : List ℕ) → 0 < length (component key value)
component-some key value = omega (arith, length-append key (61 ∷ escaped (stored value)))

-- the start of the loop that makes a name
pub named_none : (keys values first second : List (List ℕ)) (name : List ℕ) → name ≡ [] → first ≡ keys → second ≡ values → joined name (components_of first second) ≡ part_name keys values
unfolding part_name
named_none keys values first second name none left right =
    ap (λ xs. joined xs (components_of first second)) none ∙ ap (λ xs. join_with_byte 47 (components_of xs second)) left ∙ ap (λ xs. join_with_byte 47 (components_of keys xs)) right

-- a turn of that loop
pub named_more : (keys values keys' values' : List (List ℕ)) (key value name name' whole : List ℕ) → joined name (components_of keys values) ≡ whole →
    keys ≡ key ∷ keys' → values ≡ value ∷ values' → name' ≡ grown name (component key value) →
    joined name' (components_of keys' values') ≡ whole
named_more keys values keys' values' key value name name' whole so_far first second added =
    ap (λ xs. joined xs (components_of keys' values')) added ∙ joined_more name (component key value) (components_of keys' values') (component-some key value)
    ∙ ap (λ xs. joined name (components_of xs (value ∷ values'))) (sym first) ∙ ap (λ xs. joined name (components_of keys xs)) (sym second) ∙ so_far

-- the end of that loop
pub named_all : (keys values : List (List ℕ)) (name whole : List ℕ) → joined name (components_of keys values) ≡ whole → (keys ≡ []) ⊎ (values ≡ []) → name ≡ whole
named_all keys values name whole so_far (inl none) = sym (joined_all name) ∙ ap (λ xs. joined name (components_of xs values)) (sym none) ∙ so_far
named_all [] values name whole so_far (inr none) = sym (joined_all name) ∙ so_far
named_all (key ∷ keys) values name whole so_far (inr none) = sym (joined_all name) ∙ ap (λ xs. joined name (components_of (key ∷ keys) xs)) (sym none) ∙ so_far

-- a byte takes three bytes at most
escape_of-short : (byte : ℕ) → length (escape_of byte) ≤ 3
escape_of-short byte = by_test (is_escaped byte) refl
  where
    by_test : (b : Bool) → is_escaped byte ≡ b → length (escape_of byte) ≤ 3
    by_test true is = rw (escape_of-marked byte is) (omega arith)
    by_test false is = rw (escape_of-plain byte is) (omega arith)

escaped-short : (value : List ℕ) → length (escaped value) ≤ 3 * length value
escaped-short [] = omega arith
escaped-short (byte ∷ bytes) = omega (arith, length-append (escape_of byte) (escaped bytes), escape_of-short byte, escaped-short bytes)

stored-short : (value : List ℕ) → IsValidValue value → length (stored value) ≤ 4000
stored-short [] valid = omega arith
stored-short (byte ∷ bytes) valid = valid.0

component-short : (key value : List ℕ) → IsObjectName key → IsValidValue value → length (component key value) ≤ 12129
component-short key value named valid =
    omega (arith, length-append key (61 ∷ escaped (stored value)), named.0.1, escaped-short (stored value), stored-short value valid)

behind-short : (keys values : List (List ℕ)) → All IsObjectName keys → All IsValidValue values → length (behind (components_of keys values)) ≤ 12130 * length keys
behind-short [] values named valid = omega arith
behind-short (key ∷ keys) [] named valid = omega arith
behind-short (key ∷ keys) (value ∷ values) named valid =
    omega (
      arith,
      length-append (47 ∷ component key value) (behind (components_of keys values)),
      component-short key value (named 0 key (omega arith)) (valid 0 value (omega arith)),
      behind-short keys values (λ k d h. named (suc k) d (omega arith)) (λ k d h. valid (suc k) d (omega arith)),
    )

join-le-behind : (texts : List (List ℕ)) → length (join_with_byte 47 texts) ≤ length (behind texts)
join-le-behind [] = omega arith
join-le-behind (text ∷ texts) = rw (join-behind text texts) (omega arith)

-- a name is a text
pub part_name-short : (keys values : List (List ℕ)) (name : List ℕ) (len : ℕ) → length keys ≤ 16 → All IsObjectName keys → All IsValidValue values →
    len ≡ length name → name ≡ part_name keys values → len ≤ TEXT_LIMIT
unfolding part_name
part_name-short keys values name len few named valid counted is =
    omega (arith, counted, ap length is, join-le-behind (components_of keys values), behind-short keys values named valid)
