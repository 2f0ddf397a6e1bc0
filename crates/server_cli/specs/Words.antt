-- What the words of `serve` ask.
use Rattle.std.specs.Prelude.{◌≡◌, ◌≤◌, ℕ, List, [], ◌∷◌, length, codes, Option, None, Some}
use Rattle.std.specs.Str.Parse.{IsNumeral, digits_value, without_leading_plus}
use Rattle.server_cli.specs.declared.words.Serving.{Serving}

-- the word writes this number, from the one to the other, in digits, before which one plus may stand; it has at most 16,777,216 bytes
abbrev pub IsNumber : ℕ → ℕ → List ℕ → ℕ → Type 0
IsNumber low high word n = (length word ≤ 16777216) × IsNumeral 10 (without_leading_plus word) × (n ≡ digits_value 10 (without_leading_plus word)) × (low ≤ n) × (n ≤ high)

-- the words behind the workers say how many sessions each of them serves, from 1 to 9,223,372,036,854,775,807; where there are none, it goes on
abbrev pub AsksSessions : List (List ℕ) → Option ℕ → Type 0
AsksSessions words None = words ≡ []
AsksSessions words (Some n) = (sessions : List ℕ) × (words ≡ codes "--sessions" ∷ sessions ∷ []) × IsNumber 1 9223372036854775807 sessions n

-- the words are the command that serves connections, its options in this order, with a port from 1 to 65,535 and 1 to 64 workers
abbrev pub Asks : List (List ℕ) → Serving → Type 0
Asks words s = (port : List ℕ) × (workers : List ℕ) × (more : List (List ℕ)) × (words ≡ codes "serve" ∷ codes "--port" ∷ port ∷ codes "--workers" ∷ workers ∷ more) × IsNumber 1 65535 port s.port × IsNumber 1 64 workers s.workers × AsksSessions more s.sessions
