-- Which names a pattern asks for. Alternatives and names are read as their characters: 42 is *, 46 is . and 124 is |.
use Rattle.std.specs.Prelude.{◌≡◌, ◌≢◌, ◌==◌, ℕ, ⊤, ◌⊎◌, Bool, true, false, ◌&&◌, ◌||◌, if◌then◌else◌, List, [], ◌∷◌, ◌++◌, Any}
use Rattle.std.specs.Char.{to_ascii_lowercase}
use Rattle.std.specs.List.{list_any, slice_split}
use Rattle.std.specs.Str.{chars}
use Rattle.cat_rules.specs.declared.patterns.Reach.{Reach}
use Rattle.cat_rules.specs.declared.patterns.Reach.TheVariants.{Run, Whole, Nowhere}

-- a sign that is no run stands for any character, or for itself in either case
abbrev pub StandsFor : ℕ → ℕ → Type 0
StandsFor sign c = (sign ≡ 46) ⊎ (to_ascii_lowercase sign ≡ to_ascii_lowercase c)

-- P holds of what is left of the name behind some front
abbrev pub AfterPrefix : (List ℕ → Type 0) → List ℕ → Type 0
AfterPrefix P name = (front rest : List ℕ) × (name ≡ front ++ rest) × P rest

-- the sign stands for the first character of the name, and P holds of the rest
abbrev pub AfterOne : ℕ → (List ℕ → Type 0) → List ℕ → Type 0
AfterOne sign P name = (c : ℕ) × (rest : List ℕ) × (name ≡ c ∷ rest) × StandsFor sign c × P rest

-- the signs of an alternative match a name whole: a run stands for any characters, and every
-- other sign for one
abbrev pub MatchesSigns : List ℕ → List ℕ → Type 0
MatchesSigns [] name = name ≡ []
MatchesSigns (sign ∷ signs) name = ((sign ≡ 42) × AfterPrefix (MatchesSigns signs) name) ⊎ ((sign ≢ 42) × AfterOne sign (MatchesSigns signs) name)

-- the signs behind a run match an end of a name
abbrev pub MatchesAfterRun : List ℕ → List ℕ → Type 0
MatchesAfterRun signs name = AfterPrefix (MatchesSigns signs) name

-- the parts of a pattern between its bars
abbrev pub alternatives : List ℕ → List (List ℕ)
alternatives pattern = slice_split (λ byte. byte == 124) pattern

-- one alternative matches the name whole
abbrev pub Matches : List ℕ → List ℕ → Type 0
Matches pattern name = Any (λ alternative. MatchesSigns (chars alternative) (chars name)) (alternatives pattern)

-- the same by tests, which compute: a test of some end of a name, the whole and the empty one
-- included, and of the rest behind one character that a sign stands for
abbrev pub holds_of_end : (List ℕ → Bool) → List ℕ → Bool
holds_of_end test [] = test []
holds_of_end test (c ∷ name) = test (c ∷ name) || holds_of_end test name

abbrev pub stands_for : ℕ → ℕ → Bool
stands_for sign c = sign == 46 || to_ascii_lowercase sign == to_ascii_lowercase c

abbrev pub holds_behind_one : ℕ → (List ℕ → Bool) → List ℕ → Bool
holds_behind_one sign test [] = false
holds_behind_one sign test (c ∷ name) = stands_for sign c && test name

abbrev pub is_empty : List ℕ → Bool
is_empty [] = true
is_empty (c ∷ name) = false

abbrev pub does_fit : List ℕ → List ℕ → Bool
does_fit [] name = is_empty name
does_fit (sign ∷ signs) name = if sign == 42 then holds_of_end (does_fit signs) name else holds_behind_one sign (does_fit signs) name

abbrev pub does_match : List ℕ → List ℕ → Bool
does_match pattern name = list_any (λ alternative. does_fit (chars alternative) (chars name)) (alternatives pattern)

-- signs that are no runs stand for characters, one for each
abbrev pub StandFor : List ℕ → List ℕ → Type 0
StandFor [] [] = ⊤
StandFor [] (c ∷ cs) = ⊥
StandFor (sign ∷ signs) [] = ⊥
StandFor (sign ∷ signs) (c ∷ cs) = (sign ≢ 42) × StandsFor sign c × StandFor signs cs

-- the signs that come before the later ones stand for the front of the name, up to its rest
pub record Along (signs name later rest : List ℕ) : Type 0 where
  pub before : List ℕ
  pub front : List ℕ
  pub signs_are : signs ≡ before ++ later
  pub name_is : name ≡ front ++ rest
  pub stand : StandFor before front

-- how far signs go along a name
abbrev pub Reached : List ℕ → List ℕ → Reach → Type 0
Reached signs name (Run later rest) = Along signs name (42 ∷ chars later.now) (chars rest.now)
Reached signs name Whole = Along signs name [] []
Reached signs name Nowhere = MatchesSigns signs name → ⊥
