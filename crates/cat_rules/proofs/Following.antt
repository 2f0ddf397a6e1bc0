-- How signs are followed along a name.
use Rattle.std.proofs.Common.{◌≡◌, ◌≢◌, ℕ, ◌+◌, ◌<◌, ◌≤◌, suc, List, [], ◌∷◌, ◌++◌, length, drop, refl, sym, ap, ◌∙◌, subst, inl, inr, arith}
use Rattle.std.proofs.lemmas.List.{length-append, append_assoc}
use Rattle.cat_rules.specs.Patterns.{StandsFor, MatchesSigns, MatchesAfterRun, StandFor, Along}

-- what fits behind signs that stand for a front fits with them
pub fits_before : (before front signs name : List ℕ) → StandFor before front → MatchesSigns signs name → MatchesSigns (before ++ signs) (front ++ name)
fits_before [] [] signs name s h = h
fits_before [] (c ∷ cs) signs name s h = absurd s
fits_before (b ∷ bs) [] signs name s h = absurd s
fits_before (b ∷ bs) (c ∷ cs) signs name s h = inr (s.0, (c, cs ++ name, refl, s.1, fits_before bs cs signs name s.2 h))

-- and the other way round
pub fits_behind : (before front signs name : List ℕ) → StandFor before front → MatchesSigns (before ++ signs) (front ++ name) → MatchesSigns signs name
fits_behind [] [] signs name s h = h
fits_behind [] (c ∷ cs) signs name s h = absurd s
fits_behind (b ∷ bs) [] signs name s h = absurd s
fits_behind (b ∷ bs) (c ∷ cs) signs name s h = elim h [
  | inl w ↦ absurd (s.0 w.0)
  | inr w ↦ (let e : w.1.1 ≡ cs ++ name = cc in fits_behind bs cs signs name s.2 (subst (MatchesSigns (bs ++ signs)) e w.1.4))
]

-- where they fit any name, they take as many characters of it as they stand for
pub front_taken : (before front signs name : List ℕ) → StandFor before front → MatchesSigns (before ++ signs) name → (taken rest : List ℕ) × (name ≡ taken ++ rest) × (length taken ≡ length front) × MatchesSigns signs rest
front_taken [] [] signs name s h = ([], name, refl, refl, h)
front_taken [] (c ∷ cs) signs name s h = absurd s
front_taken (b ∷ bs) [] signs name s h = absurd s
front_taken (b ∷ bs) (c ∷ cs) signs name s h = elim h [
  | inl w ↦ absurd (s.0 w.0)
  | inr w ↦ (let r = front_taken bs cs signs w.1.1 s.2 w.1.4 in (w.1.0 ∷ r.0, r.1, w.1.2 ∙ ap (λ (t : List ℕ). w.1.0 ∷ t) r.2, ap suc r.3, r.4))
]

-- what follows the shorter of two fronts
pub cut_behind : (m n u b : List ℕ) → m ++ n ≡ u ++ b → length m ≤ length u → n ≡ drop (length m) u ++ b
cut_behind [] n u b e h = e
cut_behind (c ∷ m) n [] b e h = absurd (omega arith)
cut_behind (c ∷ m) n (d ∷ u) b e h = (let tails : m ++ n ≡ u ++ b = cc in cut_behind m n u b tails (omega arith))

-- signs that go along a name as far as a run match it where those behind the run match an end of the rest
pub fits_to_run : (signs name later rest : List ℕ) → Along signs name (42 ∷ later) rest → MatchesSigns signs name → MatchesAfterRun later rest
fits_to_run signs name later rest a h =
    elim (fits_behind a.before a.front (42 ∷ later) rest a.stand (subst (λ (s : List ℕ). MatchesSigns s (a.front ++ rest)) a.signs_are (subst (λ (n : List ℕ). MatchesSigns signs n) a.name_is h))) [
      | inl w ↦ w.1
      | inr w ↦ absurd (w.0 refl)
    ]

pub fits_from_run : (signs name later rest : List ℕ) → Along signs name (42 ∷ later) rest → MatchesAfterRun later rest → MatchesSigns signs name
fits_from_run signs name later rest a h =
    rw (a.signs_are, a.name_is) (fits_before a.before a.front (42 ∷ later) rest a.stand (inl (refl, h)))

-- the same of signs behind a run: the first place at which they go as far as the next run is enough
pub behind_to_run : (signs name later rest : List ℕ) → Along signs name (42 ∷ later) rest → MatchesAfterRun signs name → MatchesAfterRun later rest
behind_to_run signs name later rest a h =
    let t = front_taken a.before a.front (42 ∷ later) h.1 a.stand (subst (λ (s : List ℕ). MatchesSigns s h.1) a.signs_are h.3) in
    elim t.4 [
      | inl w ↦ (
          let e : a.front ++ rest ≡ ((h.0 ++ t.0) ++ w.1.0) ++ w.1.1 = sym a.name_is ∙ h.2 ∙ ap (λ (y : List ℕ). h.0 ++ y) (t.2 ∙ ap (λ (z : List ℕ). t.0 ++ z) w.1.2) ∙ sym (append_assoc h.0 t.0 (w.1.0 ++ w.1.1)) ∙ sym (append_assoc (h.0 ++ t.0) w.1.0 w.1.1) in
          let short : length a.front ≤ length ((h.0 ++ t.0) ++ w.1.0) = omega (arith, length-append (h.0 ++ t.0) w.1.0, length-append h.0 t.0, t.3) in
          (drop (length a.front) ((h.0 ++ t.0) ++ w.1.0), w.1.1, cut_behind a.front rest ((h.0 ++ t.0) ++ w.1.0) w.1.1 e short, w.1.3))
      | inr w ↦ absurd (w.0 refl)
    ]

pub behind_from_run : (signs name later rest : List ℕ) → Along signs name (42 ∷ later) rest → MatchesAfterRun later rest → MatchesAfterRun signs name
behind_from_run signs name later rest a h = ([], name, refl, fits_from_run signs name later rest a h)

-- signs that go along the whole of a name match it
pub fits_whole : (signs name : List ℕ) → Along signs name [] [] → MatchesSigns signs name
fits_whole signs name a = rw (a.signs_are, a.name_is) (fits_before a.before a.front [] [] a.stand refl)

-- where signs don't match a name, a run before them takes its first character
pub behind_next : (signs name : List ℕ) (c : ℕ) (rest : List ℕ) → name ≡ c ∷ rest → (MatchesSigns signs name → ⊥) → MatchesAfterRun signs name → MatchesAfterRun signs rest
behind_next signs name c rest e differ h = behind_next_at h.0 h.2
  where
    behind_next_at : (front : List ℕ) → name ≡ front ++ h.1 → MatchesAfterRun signs rest
    behind_next_at [] f = absurd (differ (rw f h.3))
    behind_next_at (d ∷ front) f = (front, h.1, cc, h.3)

pub behind_from_next : (signs name : List ℕ) (c : ℕ) (rest : List ℕ) → name ≡ c ∷ rest → MatchesAfterRun signs rest → MatchesAfterRun signs name
behind_from_next signs name c rest e h = (c ∷ h.0, h.1, e ∙ ap (λ (t : List ℕ). c ∷ t) h.2, h.3)

-- and there is none at the name's end
pub behind_none : (signs name : List ℕ) → name ≡ [] → (MatchesSigns signs name → ⊥) → MatchesAfterRun signs name → ⊥
behind_none signs name e differ h = behind_none_at h.0 h.2
  where
    behind_none_at : (front : List ℕ) → name ≡ front ++ h.1 → ⊥
    behind_none_at [] f = differ (rw f h.3)
    behind_none_at (d ∷ front) f = cc

-- one step along a name
pub along_none : (signs name : List ℕ) → Along signs name signs name
along_none signs name = record { before = []; front = []; signs_are = refl; name_is = refl; stand = tt }

stand_push : (before front : List ℕ) (sign c : ℕ) → sign ≢ 42 → StandsFor sign c → StandFor before front → StandFor (before ++ sign ∷ []) (front ++ c ∷ [])
stand_push [] [] sign c n s h = (n, s, tt)
stand_push [] (d ∷ ds) sign c n s h = absurd h
stand_push (b ∷ bs) [] sign c n s h = absurd h
stand_push (b ∷ bs) (d ∷ ds) sign c n s h = (h.0, h.1, stand_push bs ds sign c n s h.2)

pub along_more : (signs name later rest : List ℕ) (sign c : ℕ) (later' rest' : List ℕ) → Along signs name later rest → later ≡ sign ∷ later' → rest ≡ c ∷ rest' → sign ≢ 42 → StandsFor sign c → Along signs name later' rest'
along_more signs name later rest sign c later' rest' a l r n s = record {
  before = a.before ++ sign ∷ [];
  front = a.front ++ c ∷ [];
  signs_are = a.signs_are ∙ ap (λ (t : List ℕ). a.before ++ t) l ∙ sym (append_assoc a.before (sign ∷ []) later');
  name_is = a.name_is ∙ ap (λ (t : List ℕ). a.front ++ t) r ∙ sym (append_assoc a.front (c ∷ []) rest');
  stand = stand_push a.before a.front sign c n s a.stand;
}

-- signs that match a name match it from any place along it on
pub fits_along : (signs name later rest : List ℕ) → Along signs name later rest → MatchesSigns signs name → MatchesSigns later rest
fits_along signs name later rest a h = fits_behind a.before a.front later rest a.stand (subst (λ (s : List ℕ). MatchesSigns s (a.front ++ rest)) a.signs_are (subst (λ (n : List ℕ). MatchesSigns signs n) a.name_is h))

-- no sign that is no run fits at a name's end
pub ended : (later rest : List ℕ) (sign : ℕ) (later' : List ℕ) → later ≡ sign ∷ later' → rest ≡ [] → sign ≢ 42 → MatchesSigns later rest → ⊥
ended later rest sign later' l r n h =
    elim (subst (λ (s : List ℕ). MatchesSigns s rest) l h) [
      | inl w ↦ n w.0
      | inr w ↦ (let e : [] ≡ w.1.0 ∷ w.1.1 = sym r ∙ w.1.2 in cc)
    ]

-- nor before a character for which it doesn't stand
pub differs : (later rest : List ℕ) (sign : ℕ) (later' : List ℕ) (c : ℕ) (rest' : List ℕ) → later ≡ sign ∷ later' → rest ≡ c ∷ rest' → sign ≢ 42 → (StandsFor sign c → ⊥) → MatchesSigns later rest → ⊥
differs later rest sign later' c rest' l r n unlike h =
    elim (subst (λ (s : List ℕ). MatchesSigns s rest) l h) [
      | inl w ↦ n w.0
      | inr w ↦ (let e : w.1.0 ≡ c = cc in unlike (subst (λ (d : ℕ). StandsFor sign d) e w.1.3))
    ]

-- and no signs fit no name but the empty one
pub left_over : (later rest : List ℕ) (c : ℕ) (rest' : List ℕ) → later ≡ [] → rest ≡ c ∷ rest' → MatchesSigns later rest → ⊥
left_over later rest c rest' l r h = (let e : rest ≡ [] = subst (λ (s : List ℕ). MatchesSigns s rest) l h in cc)

-- behind a run there are fewer signs, and no more of the name
pub run_shorter : (signs name later rest : List ℕ) → Along signs name (42 ∷ later) rest → length later + length rest < length signs + length name
run_shorter signs name later rest a =
    omega (arith, ap length a.signs_are, ap length a.name_is, length-append a.before (42 ∷ later), length-append a.front rest)
