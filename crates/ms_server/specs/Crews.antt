-- Workers at one store, and what is known of them once their passes have joined.
use Rattle.std.specs.Prelude.{◌≡◌, ◌<◌, ℕ, ◌+◌, ◌%◌, ◌^◌, zero, suc, List, [], ◌∷◌, ◌++◌, length, slice_index_or, Option}
use Rattle.desk.specs.Adds.{own}
use Rattle.desk.specs.History.{Entry}
use Rattle.ms_server.specs.Visits.{Around, Worked}
use Rattle.ms_server.specs.declared.done.Done.{Done}
use Rattle.ms_server.specs.declared.post.Post.{Post}
use Rattle.turn_lock.specs.declared.view.Past.{Past}

-- P holds of each element at its place
abbrev pub Placed : {X : Type 0} → (ℕ → X → Type 0) → List X → Type 0
Placed {X} P xs = (k : ℕ) (d : X) → k < length xs → P k (slice_index_or xs k d)

-- the entries of the callers 0 to n, counted caller by caller
abbrev pub count_to : ℕ → List Entry → ℕ
count_to zero es = length (own 0 es)
count_to (suc n) es = count_to n es + length (own (suc n) es)

-- how many entries these passes made together
abbrev pub all_calls : List (Past Entry) → ℕ
all_calls [] = 0
all_calls (p ∷ ps) = length p.mine + all_calls ps

-- one pass more has joined: of this caller, who had seen this and made so many entries, modulo 2^64
pub record JoinsAs (old new : List (Past Entry)) (caller : ℕ) (seen : List Entry) (calls : ℕ) : Type 0 where
  pub past : Past Entry
  pub is : new ≡ old ++ past ∷ []
  pub caller_is : past.caller ≡ caller
  pub seen_is : past.seen ≡ seen
  pub counted : calls ≡ length past.mine % 2 ^ 64

-- the worker at this place is ready: it has the post of its place and the caller number behind it, and has seen no entry
pub record Ready {L F K : Type 0} (posts : List (Post L F K)) (place caller : ℕ) (post : Post L F K) (seen : List Entry) : Type 0 where
  pub caller_is : caller ≡ place + 1
  pub seen_none : seen ≡ []
  pub post_is : (d : Post L F K) → post ≡ slice_index_or posts place d

module _ {L F K : Type 0} (ar : Post L F K → Around) (sessions : Option ℕ) where
  -- the worker at this place has run: from the post of its place to the one that it has now, with the caller number behind it
  pub record Ran (posts : List (Post L F K)) (place caller : ℕ) (post : Post L F K) (status : ℕ) (seen : List Entry) : Type 0 where
    pub caller_is : caller ≡ place + 1
    pub worked : (d : Post L F K) → Worked sessions (ar (slice_index_or posts place d)) (ar post) status (own caller seen)

  -- the worker with this caller number, whose pass has joined, ran from this post and gave that back
  pub record Joined (caller : ℕ) (from : Post L F K) (p : Past Entry) (d : Done L F K) : Type 0 where
    pub past_is : p.caller ≡ caller
    pub caller_is : d.caller ≡ caller
    pub worked : Worked sessions (ar from) (ar d.post) d.status (own caller p.seen)
    pub counted : d.calls ≡ length p.mine % 2 ^ 64

  -- the workers from this caller number on ran from these posts, in order
  abbrev pub AllJoined : ℕ → List (Post L F K) → List (Past Entry) → List (Done L F K) → Type 0
  AllJoined caller [] [] [] = Unit {0}
  AllJoined caller [] [] (d ∷ ds) = ⊥
  AllJoined caller [] (p ∷ ps) ds = ⊥
  AllJoined caller (x ∷ xs) [] ds = ⊥
  AllJoined caller (x ∷ xs) (p ∷ ps) [] = ⊥
  AllJoined caller (x ∷ xs) (p ∷ ps) (d ∷ ds) = Joined caller x p d × AllJoined (suc caller) xs ps ds

  -- what the worker with this caller number did, in the closed history
  pub record DidIn (log : List Entry) (caller : ℕ) (from : Post L F K) (d : Done L F K) : Type 0 where
    pub caller_is : d.caller ≡ caller
    pub worked : Worked sessions (ar from) (ar d.post) d.status (own caller log)
    pub counted : d.calls ≡ length (own caller log) % 2 ^ 64

  -- the workers from this caller number on did this from these posts, in order
  abbrev pub AllDid : List Entry → ℕ → List (Post L F K) → List (Done L F K) → Type 0
  AllDid log caller [] [] = Unit {0}
  AllDid log caller [] (d ∷ ds) = ⊥
  AllDid log caller (x ∷ xs) [] = ⊥
  AllDid log caller (x ∷ xs) (d ∷ ds) = DidIn log caller x d × AllDid log (suc caller) xs ds
