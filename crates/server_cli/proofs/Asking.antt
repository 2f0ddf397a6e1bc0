-- What words that ask something are.
use Rattle.std.proofs.Common.{◌≡◌, ◌<◌, ℕ, Bool, true, false, MatchBool, codes, ◌≤◌, length, List, [], ◌∷◌, Option, Some, None, map, String, Global, string_bytes, slice_index_or, take, drop, ◌-◌, refl, sym, ap, subst, ◌∙◌, arith}
use Rattle.std.proofs.lemmas.List.{take_rest}
use Rattle.std.specs.Str.Parse.{digits_value, without_leading_plus}
use Rattle.server_cli.specs.Plans.{BeginsServe, IsMeant}
use Rattle.server_cli.specs.Words.{Asks, AsksSessions, IsNumber}
use Rattle.server_cli.specs.declared.words.Serving.{Serving}

-- the port is no number from 1 to 65,535
pub no_port : (a b c d e : List ℕ) → ((n : ℕ) → IsNumber 1 65535 c n → ⊥) → (s : Serving) (more : List (List ℕ)) → Asks (a ∷ b ∷ c ∷ d ∷ e ∷ more) s → ⊥
no_port a b c d e none s more (port, workers, rest, same, is_port, is_workers, sessions) =
    none s.port (subst (λ (t : List ℕ). IsNumber 1 65535 t s.port) (sym (ap (λ ws. slice_index_or ws 2 []) same)) is_port)

-- the number of workers is none from 1 to 64
pub no_workers : (a b c d e : List ℕ) → ((n : ℕ) → IsNumber 1 64 e n → ⊥) → (s : Serving) (more : List (List ℕ)) → Asks (a ∷ b ∷ c ∷ d ∷ e ∷ more) s → ⊥
no_workers a b c d e none s more (port, workers, rest, same, is_port, is_workers, sessions) =
    none s.workers (subst (λ (t : List ℕ). IsNumber 1 64 t s.workers) (sym (ap (λ ws. slice_index_or ws 4 []) same)) is_workers)

-- two words behind the workers that give no number of sessions
pub no_sessions : (ws : List (List ℕ)) (a b : List ℕ) → ws ≡ a ∷ b ∷ [] → ((n : ℕ) → AsksSessions (a ∷ b ∷ []) (Some n) → ⊥) → (sessions : Option ℕ) → AsksSessions ws sessions → ⊥
no_sessions ws a b same none None is = absurd (omega (arith, ap (λ xs. length xs) (sym same ∙ is)))
no_sessions ws a b same none (Some n) is = none n (subst (λ xs. AsksSessions xs (Some n)) same is)

-- two words, each by its place
pub two_words : (ws : List (String Global)) (a b : String Global) → length ws ≡ 2 → a ≡ slice_index_or ws 0 a → b ≡ slice_index_or ws 1 b → map string_bytes ws ≡ string_bytes a ∷ string_bytes b ∷ []
two_words [] a b two is_a is_b = absurd (omega (arith, two))
two_words (x ∷ []) a b two is_a is_b = absurd (omega (arith, two))
two_words (x ∷ y ∷ []) a b two is_a is_b = rw (is_a, is_b) refl
two_words (x ∷ y ∷ z ∷ ws) a b two is_a is_b = absurd (omega (arith, two))

-- five words, each by its place, and those behind them
pub five_words : (ws : List (String Global)) (a b c d e : String Global) → 5 ≤ length ws
    → a ≡ slice_index_or ws 0 a → b ≡ slice_index_or ws 1 b → c ≡ slice_index_or ws 2 c → d ≡ slice_index_or ws 3 d → e ≡ slice_index_or ws 4 e
    → map string_bytes ws ≡ string_bytes a ∷ string_bytes b ∷ string_bytes c ∷ string_bytes d ∷ string_bytes e ∷ map string_bytes (take (length ws - 5) (drop 5 ws))
five_words [] a b c d e five is_a is_b is_c is_d is_e = absurd (omega (arith, five))
five_words (x ∷ []) a b c d e five is_a is_b is_c is_d is_e = absurd (omega (arith, five))
five_words (x ∷ y ∷ []) a b c d e five is_a is_b is_c is_d is_e = absurd (omega (arith, five))
five_words (x ∷ y ∷ z ∷ []) a b c d e five is_a is_b is_c is_d is_e = absurd (omega (arith, five))
five_words (x ∷ y ∷ z ∷ u ∷ []) a b c d e five is_a is_b is_c is_d is_e = absurd (omega (arith, five))
five_words (x ∷ y ∷ z ∷ u ∷ v ∷ ws) a b c d e five is_a is_b is_c is_d is_e = rw (is_a, is_b, is_c, is_d, is_e, take_rest (x ∷ y ∷ z ∷ u ∷ v ∷ ws) 5) refl

-- the first word
pub first_word : (ws : List (String Global)) (a : String Global) → 1 ≤ length ws → a ≡ slice_index_or ws 0 a → map string_bytes ws ≡ string_bytes a ∷ map string_bytes (drop 1 ws)
first_word [] a one is_a = absurd (omega (arith, one))
first_word (x ∷ ws) a one is_a = rw is_a refl

-- whether the first word is `serve`, by the test of that word
pub begins : (ws : List (List ℕ)) (a : List ℕ) (more : List (List ℕ)) (b : Bool) → ws ≡ a ∷ more → MatchBool b (a ≡ codes "serve") (a ≡ codes "serve" → ⊥) → MatchBool b (BeginsServe ws) (BeginsServe ws → ⊥)
begins ws a more true same is = (more, same ∙ ap (λ x. x ∷ more) is)
begins ws a more false same is = λ (rest, serve). is (ap (λ xs. slice_index_or xs 0 []) (sym same ∙ serve))

-- one word writes one number
one_number : (low high n m : ℕ) (a b : List ℕ) → a ≡ b → IsNumber low high a n → IsNumber low high b m → n ≡ m
one_number low high n m a b same (_, _, is_n, _, _) (_, _, is_m, _, _) = is_n ∙ ap (λ t. digits_value 10 (without_leading_plus t)) same ∙ sym is_m

-- words ask one thing
pub asks_one : (ws : List (List ℕ)) (s t : Serving) → Asks ws s → Asks ws t → (s.port ≡ t.port) × (s.workers ≡ t.workers)
asks_one ws s t (port, workers, more, same, is_port, is_workers, sessions) (port', workers', more', same', is_port', is_workers', sessions') =
    let both = sym same ∙ same' in
    (one_number 1 65535 s.port t.port port port' (ap (λ xs. slice_index_or xs 2 []) both) is_port is_port', one_number 1 64 s.workers t.workers workers workers' (ap (λ xs. slice_index_or xs 4 []) both) is_workers is_workers')

-- there is a worker at least
some_worker : (ws : List (List ℕ)) (s : Serving) → Asks ws s → 0 < s.workers
some_worker ws s (port, workers, more, same, is_port, (limit, digits, is, least, most), sessions) = omega (arith, least)

-- what words ask is meant by them
pub meant : (ws : List (List ℕ)) (s : Serving) → Asks ws s → IsMeant ws s.port s.workers
meant ws s asks = record { some = some_worker ws s asks; asked = λ t is. asks_one ws s t asks is; none = λ nothing. absurd (nothing s asks) }

-- words that ask nothing mean one worker at port 1
pub not_meant : (ws : List (List ℕ)) → ((s : Serving) → Asks ws s → ⊥) → IsMeant ws 1 1
not_meant ws nothing = record { some = omega arith; asked = λ s is. absurd (nothing s is); none = λ _. (refl, refl) }
