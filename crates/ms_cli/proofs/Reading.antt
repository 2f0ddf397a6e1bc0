-- What words name.
use Rattle.std.proofs.Common.{◌≡◌, ◌≢◌, ◌∙◌, ℕ, ℤ, pos, ◌<◌, ◌≤◌, ◌==◌, ◌⊎◌, Bool, true, false, MatchBool, codes, length, List, [], ◌∷◌, Option, Some, None, map, drop, String, Global, string_bytes, slice_index_or, inl, inr, refl, sym, ap, subst, arith}
use Rattle.std.proofs.lemmas.Bool.{false≢true}
use Rattle.std.proofs.lemmas.Bool.Decides.{eqb_tells}
use Rattle.std.specs.Str.Parse.{digits_value, without_leading_plus}
use Rattle.ms_cli.specs.Words.{BeginsWith, IsNoCommand, IsNumber, IsRange, Reads, Takes}
use Rattle.ms_cli.specs.declared.ranges.EventRange.{EventRange}
use Rattle.ms_cli.specs.declared.words.Command.{Command}

-- ---- options

-- whether words begin with one, by the test of the first
pub begins : (name : List ℕ) (ws : List (List ℕ)) (a : List ℕ) (more : List (List ℕ)) (b : Bool) → ws ≡ a ∷ more → MatchBool b (a ≡ name) (a ≡ name → ⊥) → MatchBool b (BeginsWith name ws) (BeginsWith name ws → ⊥)
begins name ws a more true same is = (more, same ∙ ap (λ x. x ∷ more) is)
begins name ws a more false same is = λ (rest, begin). is (ap (λ xs. slice_index_or xs 0 []) (sym same ∙ begin))

-- the first word
pub first_word : (ws : List (String Global)) (a : String Global) → 1 ≤ length ws → a ≡ slice_index_or ws 0 a → map string_bytes ws ≡ string_bytes a ∷ map string_bytes (drop 1 ws)
first_word [] a one is_a = absurd (omega (arith, one))
first_word (x ∷ ws) a one is_a = rw is_a refl

-- one word writes one number
one_number : (a b : List ℕ) (n m : ℤ) → a ≡ b → IsNumber a n → IsNumber b m → n ≡ m
one_number a b n m same (_, is_n, _) (_, is_m, _) = is_n ∙ ap (λ t. pos (digits_value 10 (without_leading_plus t))) same ∙ sym is_m

-- words begin with an option in one way
takes_one : (name : List ℕ) (ws : List (List ℕ)) (a b : Option ℤ) (x y : List (List ℕ)) → Takes name ws a x → Takes name ws b y → (a ≡ b) × (x ≡ y)
takes_one name ws None None x y (_, is_x) (_, is_y) = (refl, is_x ∙ sym is_y)
takes_one name ws None (Some m) x y (other, is_x) (digits, same, _) = absurd (other (digits ∷ y, same))
takes_one name ws (Some n) None x y (digits, same, _) (other, is_y) = absurd (other (digits ∷ x, same))
takes_one name ws (Some n) (Some m) x y (d, same, number) (d', same', number') =
    let both = sym same ∙ same' in
    (ap Some (one_number d d' n m (ap (λ xs. slice_index_or xs 1 []) both) number number'), ap (λ xs. drop 2 xs) both)

-- no range is read where these are the options, and others stand behind them
pub no_range : (ws b c d : List (List ℕ)) (from to limit : Option ℤ) → Takes (codes "--from") ws from b → Takes (codes "--to") b to c → Takes (codes "--limit") c limit d → (d ≡ [] → ⊥) → (range : EventRange) → IsRange ws range → ⊥
no_range ws b c d from to limit is_from is_to is_limit some range (b', c', from', to', limit') =
    let same_b = (takes_one (codes "--from") ws from range.from b b' is_from from').1 in
    let same_c = (takes_one (codes "--to") b to range.to c c' is_to (subst (λ ws. Takes (codes "--to") ws range.to c') (sym same_b) to')).1 in
    some (takes_one (codes "--limit") c limit range.limit d [] is_limit (subst (λ ws. Takes (codes "--limit") ws range.limit []) (sym same_c) limit')).1

-- ---- commands

-- the first word, and its first letter
abbrev first : List (List ℕ) → List ℕ
first ws = slice_index_or ws 0 []

abbrev initial : List (List ℕ) → ℕ
initial ws = slice_index_or (slice_index_or ws 0 []) 0 0

-- the words of a dump without a range
pub no_dump : (db : List ℕ) (options : List (List ℕ)) → ((range : EventRange) → IsRange options range → ⊥) → IsNoCommand (codes "dump" ∷ db ∷ options)
no_dump db options none = record {
  pipe = λ is. let bad : 100 ≡ 112 = ap initial is in absurd (omega (arith, bad));
  init = λ d is. let bad : 100 ≡ 105 = ap initial is in absurd (omega (arith, bad));
  dump = λ d r (o, is, range). none r (subst (λ ws. IsRange ws r) (sym (ap (λ ws. drop 2 ws) is)) range);
  trim = λ u (digits, is, _). let bad : 100 ≡ 116 = ap initial is in absurd (omega (arith, bad));
}

-- there are words
pub some_words : (ws : List (String Global)) → false ≡ (length ws == 0) → map string_bytes ws ≡ [] → ⊥
some_words [] some none = absurd cc
some_words (w ∷ ws) some none = absurd (omega (arith, ap (λ xs. length xs) none))

-- a number above 0 isn't 0
ne_zero : (n : ℕ) → 0 < n → true ≡ (n == 0) → ⊥
ne_zero n some is = by_test (eqb_tells n 0)
  where
    by_test : (((n == 0) ≡ true) × (n ≡ 0)) ⊎ (((n == 0) ≡ false) × (n ≢ 0)) → ⊥
    by_test (inl (tells, zero)) = omega (arith, some, zero)
    by_test (inr (tells, other)) = false≢true (sym tells ∙ sym is)

-- an argument alone
pub alone : (word command argument : List ℕ) (ws : List (String Global)) (c : Command) → true ≡ (length ws == 0) → word ≡ command → Reads (command ∷ argument ∷ []) c → Reads (word ∷ argument ∷ map string_bytes ws) c
alone word command argument [] c none is reads = subst (λ w. Reads (w ∷ argument ∷ []) c) (sym is) reads
alone word command argument (w ∷ ws) c none is reads = absurd (ne_zero (length (w ∷ ws)) (omega arith) none)
