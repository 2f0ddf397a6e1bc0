-- Workers whose passes have joined, and the closed history.
use Rattle.std.proofs.Common.{◌≡◌, ℕ, suc, ◌+◌, ◌%◌, ◌<◌, ◌≤◌, length, take, List, [], ◌∷◌, ◌++◌, All, sym, ◌∙◌, ap, subst, arith}
use Rattle.std.specs.Prelude.{◌^◌, slice_index_or, Option}
use Rattle.std.proofs.lemmas.List.{take_more, take_all, nil_from_length}
use Rattle.std.proofs.lemmas.List.Elements.{All-head, All-tail}
use Rattle.std.proofs.Math.Nat.{mod-add-mod}
use mathlib.Core.Logic.{◌⊎◌, inl, inr}
use Rattle.desk.specs.Adds.{own}
use Rattle.desk.specs.History.{Entry}
use Rattle.ms_server.specs.Crews.{AllDid, AllJoined, DidIn, Joined, JoinsAs, Ran, all_calls, count_to}
use Rattle.ms_server.specs.Turns.{by_caller}
use Rattle.ms_server.specs.Visits.{Around, Worked}
use Rattle.ms_server.specs.declared.done.Done.{Done}
use Rattle.ms_server.specs.declared.post.Post.{Post}
use Rattle.ms_server.proofs.Counts.{count_all}
use Rattle.ms_server.proofs.Turns.{own_same}
use Rattle.turn_lock.specs.Histories as lock
use Rattle.turn_lock.specs.declared.view.Past.{Past}

module _ {L F K : Type 0} (ar : Post L F K → Around) (sessions : Option ℕ) where
  match_more : (k : ℕ) (xs : List (Post L F K)) (ps : List (Past Entry)) (ds : List (Done L F K)) (x : Post L F K) (p : Past Entry) (d : Done L F K)
      → AllJoined ar sessions k xs ps ds → Joined ar sessions (k + length ds) x p d → AllJoined ar sessions k (xs ++ x ∷ []) (ps ++ p ∷ []) (ds ++ d ∷ [])
  match_more k [] [] [] x p d all one = (subst (λ (n : ℕ). Joined ar sessions n x p d) (omega arith) one, tt)
  match_more k [] [] (e ∷ ds) x p d all one = absurd all
  match_more k [] (q ∷ ps) ds x p d all one = absurd all
  match_more k (y ∷ xs) [] ds x p d all one = absurd all
  match_more k (y ∷ xs) (q ∷ ps) [] x p d all one = absurd all
  match_more k (y ∷ xs) (q ∷ ps) (e ∷ ds) x p d all one = (all.0, match_more (suc k) xs ps ds x p d all.1 (subst (λ (n : ℕ). Joined ar sessions n x p d) (omega arith) one))

  -- a worker that ran at its place and whose pass joined
  one_joined : (posts : List (Post L F K)) (n caller status calls : ℕ) (post e : Post L F K) (seen : List Entry) (old new : List (Past Entry)) (d : Done L F K) (j : JoinsAs old new caller seen calls)
      → Ran ar sessions posts n caller post status seen → d.caller ≡ caller → d.calls ≡ calls → d.status ≡ status → d.post ≡ post
      → Joined ar sessions (1 + n) (slice_index_or posts n e) j.past d
  one_joined posts n caller status calls post e seen old new d j ran caller_is calls_is status_is post_is =
      let step : n + 1 ≡ 1 + n = omega arith in
      let up : caller ≡ 1 + n = ran.caller_is ∙ step in
      let here : Worked sessions (ar (slice_index_or posts n e)) (ar post) status (own caller seen) = ran.worked e in
      let named : Worked sessions (ar (slice_index_or posts n e)) (ar post) status (own (1 + n) j.past.seen) = subst (Worked sessions (ar (slice_index_or posts n e)) (ar post) status) (ap (λ (m : ℕ). own m seen) up ∙ ap (own (1 + n)) (sym j.seen_is)) here in
      let told : Worked sessions (ar (slice_index_or posts n e)) (ar post) d.status (own (1 + n) j.past.seen) = subst (λ (m : ℕ). Worked sessions (ar (slice_index_or posts n e)) (ar post) m (own (1 + n) j.past.seen)) (sym status_is) named in
      record {
        past_is = j.caller_is ∙ up;
        caller_is = caller_is ∙ up;
        worked = subst (λ (q : Post L F K). Worked sessions (ar (slice_index_or posts n e)) (ar q) d.status (own (1 + n) j.past.seen)) (sym post_is) told;
        counted = calls_is ∙ j.counted;
      }

  -- one worker more has joined
  pub joined_more : (posts : List (Post L F K)) (n caller status calls : ℕ) (post : Post L F K) (seen : List Entry) (old new : List (Past Entry)) (ds es : List (Done L F K)) (d : Done L F K)
      → n < length posts → n ≡ length ds → AllJoined ar sessions 1 (take n posts) old ds → JoinsAs old new caller seen calls
      → Ran ar sessions posts n caller post status seen → d.caller ≡ caller → d.calls ≡ calls → d.status ≡ status → d.post ≡ post → es ≡ ds ++ d ∷ []
      → AllJoined ar sessions 1 (take (n + 1) posts) new es
  joined_more posts n caller status calls post seen old new ds es d lt len all j ran caller_is calls_is status_is post_is is =
      let one = one_joined posts n caller status calls post post seen old new d j ran caller_is calls_is status_is post_is in
      let more : AllJoined ar sessions 1 (take n posts ++ slice_index_or posts n post ∷ []) (old ++ j.past ∷ []) (ds ++ d ∷ []) = match_more 1 (take n posts) old ds (slice_index_or posts n post) j.past d all (subst (λ (m : ℕ). Joined ar sessions (1 + m) (slice_index_or posts n post) j.past d) len one) in
      subst (AllJoined ar sessions 1 (take (n + 1) posts) new) (sym is)
      (subst (λ (ps : List (Past Entry)). AllJoined ar sessions 1 (take (n + 1) posts) ps (ds ++ d ∷ [])) (sym j.is)
      (subst (λ (xs : List (Post L F K)). AllJoined ar sessions 1 xs (old ++ j.past ∷ []) (ds ++ d ∷ [])) (sym (take_more posts n post lt)) more))

  -- all have joined
  pub joined_all : (posts : List (Post L F K)) (n : ℕ) (ps : List (Past Entry)) (ds : List (Done L F K)) → length posts ≤ n → AllJoined ar sessions 1 (take n posts) ps ds → AllJoined ar sessions 1 posts ps ds
  joined_all posts n ps ds len all = subst (λ (xs : List (Post L F K)). AllJoined ar sessions 1 xs ps ds) (take_all n posts len) all

  -- a pass that fits the closed history
  did_in : (log : List Entry) (k : ℕ) (x : Post L F K) (p : Past Entry) (d : Done L F K) → Joined ar sessions k x p d → lock.Fits by_caller log p → DidIn ar sessions log k x d
  did_in log k x p d j fits =
      let whole : own k log ≡ p.mine = ap (λ (n : ℕ). own n log) (sym j.past_is) ∙ sym (own_same p.caller log) ∙ fits.calls in
      let seen : own k p.seen ≡ p.mine = ap (λ (n : ℕ). own n p.seen) (sym j.past_is) ∙ sym (own_same p.caller p.seen) ∙ fits.calls_seen in
      record {
        caller_is = j.caller_is;
        worked = subst (Worked sessions (ar x) (ar d.post) d.status) (seen ∙ sym whole) j.worked;
        counted = j.counted ∙ ap (λ (l : List Entry). length l % 2 ^ 64) (sym whole);
      }

  pub all_did : (log : List Entry) (k : ℕ) (xs : List (Post L F K)) (ps : List (Past Entry)) (ds : List (Done L F K)) → AllJoined ar sessions k xs ps ds → All (lock.Fits by_caller log) ps → AllDid ar sessions log k xs ds
  all_did log k [] [] [] all fits = tt
  all_did log k [] [] (e ∷ ds) all fits = absurd all
  all_did log k [] (q ∷ ps) ds all fits = absurd all
  all_did log k (y ∷ xs) [] ds all fits = absurd all
  all_did log k (y ∷ xs) (q ∷ ps) [] all fits = absurd all
  all_did log k (y ∷ xs) (q ∷ ps) (e ∷ ds) all fits = (did_in log k y q e all.0 (All-head (lock.Fits by_caller log) q ps fits), all_did log (suc k) xs ps ds all.1 (All-tail (lock.Fits by_caller log) q ps fits))

  -- the calls of the workers behind the first k callers
  count_joined : (log : List Entry) (k : ℕ) (xs : List (Post L F K)) (ps : List (Past Entry)) (ds : List (Done L F K)) → AllJoined ar sessions (suc k) xs ps ds → All (lock.Fits by_caller log) ps → count_to k log + all_calls ps ≡ count_to (k + length xs) log
  count_joined log k [] [] [] all fits =
      let here : k ≡ k + 0 = omega arith in
      let same : count_to k log ≡ count_to (k + 0) log = ap (λ (n : ℕ). count_to n log) here in
      omega (arith, same)
  count_joined log k [] [] (e ∷ ds) all fits = absurd all
  count_joined log k [] (q ∷ ps) ds all fits = absurd all
  count_joined log k (y ∷ xs) [] ds all fits = absurd all
  count_joined log k (y ∷ xs) (q ∷ ps) [] all fits = absurd all
  count_joined log k (y ∷ xs) (q ∷ ps) (e ∷ ds) all fits =
      let fit : lock.Fits by_caller log q = All-head (lock.Fits by_caller log) q ps fits in
      let whole : own (suc k) log ≡ q.mine = ap (λ (n : ℕ). own n log) (sym all.0.past_is) ∙ sym (own_same q.caller log) ∙ fit.calls in
      let len : length (own (suc k) log) ≡ length q.mine = ap (λ (l : List Entry). length l) whole in
      let rest : count_to (suc k) log + all_calls ps ≡ count_to (suc k + length xs) log = count_joined log (suc k) xs ps ds all.1 (All-tail (lock.Fits by_caller log) q ps fits) in
      let here : suc k + length xs ≡ k + length (y ∷ xs) = omega arith in
      let same : count_to (suc k + length xs) log ≡ count_to (k + length (y ∷ xs)) log = ap (λ (n : ℕ). count_to n log) here in
      let sum : count_to k log + (length q.mine + all_calls ps) ≡ count_to (suc k) log + all_calls ps = omega (arith, len) in
      sum ∙ rest ∙ same

-- the first pass made no entry
pub first_none : (log : List Entry) (p : Past Entry) (ps : List (Past Entry)) → p ≡ record { caller = 0; seen = []; mine = [] } → All (lock.Fits by_caller log) (p ∷ ps) → own 0 log ≡ []
first_none log p ps is fits =
    let fit : lock.Fits by_caller log p = All-head (lock.Fits by_caller log) p ps fits in
    ap (λ (n : ℕ). own n log) (sym (ap (λ (q : Past Entry). q.caller) is)) ∙ sym (own_same p.caller log) ∙ fit.calls ∙ ap (λ (q : Past Entry). q.mine) is

-- nobody but the workers has an entry
pub nobody_else : (log : List Entry) (splits n : ℕ) → splits ≤ n → own 0 log ≡ [] → ((c : ℕ) → splits < c → lock.own by_caller c log ≡ []) → (c : ℕ) → (c ≡ 0) ⊎ (n < c) → own c log ≡ []
nobody_else log splits n few none later c (inl zeroth) = ap (λ (m : ℕ). own m log) zeroth ∙ none
nobody_else log splits n few none later c (inr above) = sym (own_same c log) ∙ later c (omega (arith, few, above))

-- where nobody has an entry there is none
pub no_entry : (log : List Entry) → own 0 log ≡ [] → ((c : ℕ) → 0 < c → lock.own by_caller c log ≡ []) → log ≡ []
no_entry log none later =
    let all : count_to 0 log ≡ length log = count_all 0 log (λ c above. sym (own_same c log) ∙ later c above) in
    let zeroth : length (own 0 log) ≡ 0 = ap (λ (l : List Entry). length l) none in
    nil_from_length log (omega (arith, all, zeroth))

module _ {L F K : Type 0} (ar : Post L F K → Around) (sessions : Option ℕ) where
  -- what the workers did, where the store came back with its history
  pub closed_all : (log log' : List Entry) (p : Past Entry) (xs : List (Post L F K)) (ps : List (Past Entry)) (ds : List (Done L F K)) → log' ≡ log
      → All (lock.Fits by_caller log) (p ∷ ps) → AllJoined ar sessions 1 xs ps ds → AllDid ar sessions log' 1 xs ds
  closed_all log log' p xs ps ds is fits all = subst (λ (l : List Entry). AllDid ar sessions l 1 xs ds) (sym is) (all_did ar sessions log 1 xs ps ds all (All-tail (lock.Fits by_caller log) p ps fits))

  -- the entries are as many as the workers' calls
  pub closed_steps : (log log' : List Entry) (p : Past Entry) (xs : List (Post L F K)) (ps : List (Past Entry)) (ds : List (Done L F K)) (splits steps : ℕ) → log' ≡ log
      → p ≡ record { caller = 0; seen = []; mine = [] } → splits ≡ length xs → ((c : ℕ) → splits < c → lock.own by_caller c log ≡ [])
      → All (lock.Fits by_caller log) (p ∷ ps) → AllJoined ar sessions 1 xs ps ds → steps ≡ all_calls ps % 2 ^ 64 → steps ≡ length log' % 2 ^ 64
  closed_steps log log' p xs ps ds splits steps is first few later fits all steps_is =
      let none : own 0 log ≡ [] = first_none log p ps first fits in
      let zeroth : length (own 0 log) ≡ 0 = ap (λ (l : List Entry). length l) none in
      let sum : count_to 0 log + all_calls ps ≡ count_to (0 + length xs) log = count_joined ar sessions log 0 xs ps ds all (All-tail (lock.Fits by_caller log) p ps fits) in
      let whole : count_to (length xs) log ≡ length log = count_all (length xs) log (λ c above. sym (own_same c log) ∙ later c (omega (arith, few, above))) in
      let here : 0 + length xs ≡ length xs = omega arith in
      let same : count_to (0 + length xs) log ≡ count_to (length xs) log = ap (λ (n : ℕ). count_to n log) here in
      let calls : all_calls ps ≡ length log = omega (arith, zeroth, sum, whole, same) in
      steps_is ∙ ap (λ (n : ℕ). n % 2 ^ 64) calls ∙ ap (λ (l : List Entry). length l % 2 ^ 64) (sym is)

-- nobody but the workers has an entry, where the store came back with its history
pub closed_nobody : (log log' : List Entry) (p : Past Entry) (ps : List (Past Entry)) (splits n : ℕ) → log' ≡ log → p ≡ record { caller = 0; seen = []; mine = [] } → splits ≡ n
    → ((c : ℕ) → splits < c → lock.own by_caller c log ≡ []) → All (lock.Fits by_caller log) (p ∷ ps) → (c : ℕ) → (c ≡ 0) ⊎ (n < c) → own c log' ≡ []
closed_nobody log log' p ps splits n is first few later fits c out = ap (own c) is ∙ nobody_else log splits n (omega (arith, few)) (first_none log p ps first fits) later c out

-- a store at which no worker began
pub closed_unused : (log log' : List Entry) (p : Past Entry) (ps : List (Past Entry)) (splits : ℕ) → log' ≡ log → p ≡ record { caller = 0; seen = []; mine = [] } → splits ≡ 0
    → ((c : ℕ) → splits < c → lock.own by_caller c log ≡ []) → All (lock.Fits by_caller log) (p ∷ ps) → log' ≡ []
closed_unused log log' p ps splits is first none later fits = is ∙ no_entry log (first_none log p ps first fits) (λ c above. later c (omega (arith, none, above)))

calls_more : (ps : List (Past Entry)) (p : Past Entry) → all_calls (ps ++ p ∷ []) ≡ all_calls ps + length p.mine
calls_more [] p = omega arith
calls_more (q ∷ ps) p = let more = calls_more ps p in omega (arith, more)

mod_both : (a b : ℕ) → (a % 2 ^ 64 + b % 2 ^ 64) % 2 ^ 64 ≡ (a + b) % 2 ^ 64
mod_both a b =
    let turn : b % 2 ^ 64 + a ≡ a + b % 2 ^ 64 = omega arith in
    let back : b + a ≡ a + b = omega arith in
    mod-add-mod a (2 ^ 64) (b % 2 ^ 64) ∙ ap (λ (n : ℕ). n % 2 ^ 64) (sym turn) ∙ mod-add-mod b (2 ^ 64) a ∙ ap (λ (n : ℕ). n % 2 ^ 64) back

-- the calls of one worker more were counted
pub steps_more : (steps caller calls : ℕ) (seen : List Entry) (old new : List (Past Entry)) → JoinsAs old new caller seen calls → steps ≡ all_calls old % 2 ^ 64 → (steps + calls) % 2 ^ 64 ≡ all_calls new % 2 ^ 64
steps_more steps caller calls seen old new j is =
    let more : all_calls new ≡ all_calls old + length j.past.mine = ap all_calls j.is ∙ calls_more old j.past in
    ap (λ (n : ℕ). (n + calls) % 2 ^ 64) is ∙ ap (λ (n : ℕ). (all_calls old % 2 ^ 64 + n) % 2 ^ 64) j.counted ∙ mod_both (all_calls old) (length j.past.mine) ∙ ap (λ (n : ℕ). n % 2 ^ 64) (sym more)

module _ {L F K : Type 0} (ar : Post L F K → Around) (sessions : Option ℕ) where
  -- none has joined so far
  pub joined_none : (posts : List (Post L F K)) (n : ℕ) (ps : List (Past Entry)) (ds : List (Done L F K)) → n ≡ 0 → ps ≡ [] → ds ≡ [] → AllJoined ar sessions 1 (take n posts) ps ds
  joined_none posts n ps ds zeroth no_pass none =
      subst (λ (m : ℕ). AllJoined ar sessions 1 (take m posts) ps ds) (sym zeroth)
      (subst (λ (l : List (Past Entry)). AllJoined ar sessions 1 [] l ds) (sym no_pass)
      (subst (λ (l : List (Done L F K)). AllJoined ar sessions 1 [] [] l) (sym none) tt))

pub steps_none : (steps : ℕ) (ps : List (Past Entry)) → steps ≡ 0 → ps ≡ [] → steps ≡ all_calls ps % 2 ^ 64
steps_none steps ps zeroth none = zeroth ∙ sym (ap (λ (l : List (Past Entry)). all_calls l % 2 ^ 64) none)
