-- What follows of workers at their posts.
use Rattle.std.proofs.Common.{◌≡◌, ◌∙◌, Bool, false, ℕ, zero, suc, ◌<◌, ◌%◌, List, [], ◌∷◌, length, map, Option, ap, sym, subst, refl, arith}
use Rattle.std.specs.Prelude.{◌⊎◌, ◌==◌, ◌^◌, if◌then◌else◌}
use Rattle.std.proofs.lemmas.Bool.{ne_eqb}
use mathlib.Core.Logic.{inl, inr}
use Rattle.desk.specs.Adds.{own}
use Rattle.desk.specs.History.{Entry, Start}
use Rattle.hms_listeners.specs.Listening.{Returned}
use Rattle.ms_server.specs.Crews.{AllDid}
use Rattle.ms_server.specs.Visits.{Around, around}
use Rattle.ms_server.specs.declared.done.Done.{Done}
use Rattle.ms_server.specs.declared.post.Post.{Post}
use Rattle.ms_session.specs.Turns.{Files}
use Rattle.server_cli.specs.Server.{ArePosts, Back, Closed, Disks, EachEnd, Given, IsEnd, Manned, OneRose, Served, Unmanned, first_fault, posts_of}

-- ---- posts

posts_length : {L F K : Type 0} (ls : List L) (fs : List F) (ks : List K) → length fs ≡ length ls → length ks ≡ length ls → length (posts_of ls fs ks) ≡ length ls
posts_length [] fs ks f k = refl
posts_length (l ∷ ls) [] ks f k = absurd (omega (arith, f))
posts_length (l ∷ ls) (x ∷ fs) [] f k = absurd (omega (arith, k))
posts_length (l ∷ ls) (x ∷ fs) (y ∷ ks) f k = ap suc (posts_length ls fs ks (omega (arith, f)) (omega (arith, k)))

posts_listeners : {L F K : Type 0} (ls : List L) (fs : List F) (ks : List K) → length fs ≡ length ls → length ks ≡ length ls → map (λ p. p.listener) (posts_of ls fs ks) ≡ ls
posts_listeners [] fs ks f k = refl
posts_listeners (l ∷ ls) [] ks f k = absurd (omega (arith, f))
posts_listeners (l ∷ ls) (x ∷ fs) [] f k = absurd (omega (arith, k))
posts_listeners {L} (l ∷ ls) (x ∷ fs) (y ∷ ks) f k = ap (λ (xs : List L). l ∷ xs) (posts_listeners ls fs ks (omega (arith, f)) (omega (arith, k)))

posts_folders : {L F K : Type 0} (ls : List L) (fs : List F) (ks : List K) → length fs ≡ length ls → length ks ≡ length ls → map (λ p. p.folder) (posts_of ls fs ks) ≡ fs
posts_folders [] [] ks f k = refl
posts_folders [] (x ∷ fs) ks f k = absurd (omega (arith, f))
posts_folders (l ∷ ls) [] ks f k = absurd (omega (arith, f))
posts_folders (l ∷ ls) (x ∷ fs) [] f k = absurd (omega (arith, k))
posts_folders {L} {F} (l ∷ ls) (x ∷ fs) (y ∷ ks) f k = ap (λ (xs : List F). x ∷ xs) (posts_folders ls fs ks (omega (arith, f)) (omega (arith, k)))

-- ---- what workers did

pub did_length : {L F K : Type 0} (ar : Post L F K → Around) (sessions : Option ℕ) (log : List Entry) (n : ℕ) (posts : List (Post L F K)) (done : List (Done L F K)) → AllDid ar sessions log n posts done → length done ≡ length posts
did_length ar sessions log n [] [] did = refl
did_length ar sessions log n [] (d ∷ ds) did = absurd did
did_length ar sessions log n (x ∷ xs) [] did = absurd did
did_length ar sessions log n (x ∷ xs) (d ∷ ds) did = ap suc (did_length ar sessions log (suc n) xs ds did.1)

-- workers ran, and the store was closed behind their history
pub manned : {L F K : Type 0} (ar : Post L F K → Around) (sessions : Option ℕ) (given : Given L F K) (back : Back L F) (start begun : Start) (log : List Entry) (new : Disks) (posts : List (Post L F K)) (done : List (Done L F K)) → begun ≡ start → ArePosts given posts
    → Closed begun log new → AllDid ar sessions log 1 posts done → ((caller : ℕ) → (caller ≡ 0) ⊎ (length posts < caller) → own caller log ≡ []) → back.steps ≡ length log % 2 ^ 64
    → back.ends ≡ map (λ d. d.status) done → back.calls ≡ map (λ d. d.calls) done → back.listeners ≡ map (λ d. d.post.listener) done → back.folders ≡ map (λ d. d.post.folder) done → back.status ≡ first_fault back.ends → Served ar sessions start given back new
manned {L} {F} {K} ar sessions given back start begun log new posts done began posts_are closed did nobody steps ends calls listeners folders status = record {
  log = log;
  closed = subst (λ (s : Start). Closed s log new) began closed;
  steps = steps;
  workers = inl (record {
    done = done;
    did = subst (λ (ps : List (Post L F K)). AllDid ar sessions log 1 ps done) posts_are.are did;
    nobody = subst (λ (n : ℕ). (caller : ℕ) → (caller ≡ 0) ⊎ (n < caller) → own caller log ≡ []) (ap (λ (ps : List (Post L F K)). length ps) posts_are.are ∙ posts_length given.listeners given.folders given.clocks posts_are.folders posts_are.clocks) nobody;
    ends_are = ends;
    calls_are = calls;
    listeners_are = listeners;
    folders_are = folders;
    status_is = status;
  });
}

-- no worker began
pub unmanned : {L F K : Type 0} (ar : Post L F K → Around) (sessions : Option ℕ) (given : Given L F K) (back : Back L F) (start begun : Start) (log : List Entry) (new : Disks) (posts : List (Post L F K)) → begun ≡ start → ArePosts given posts
    → Closed begun log new → log ≡ [] → back.steps ≡ 0 → back.ends ≡ [] → back.calls ≡ [] → back.listeners ≡ map (λ p. p.listener) posts → back.folders ≡ map (λ p. p.folder) posts → back.status ≡ 10 → Served ar sessions start given back new
unmanned {L} {F} {K} ar sessions given back start begun log new posts began posts_are closed none steps ends calls listeners folders status = record {
  log = log;
  closed = subst (λ (s : Start). Closed s log new) began closed;
  steps = steps ∙ sym (ap (λ (es : List Entry). length es % 2 ^ 64) none);
  workers = inr (record {
    none = none;
    idle = record {
      no_ends = ends;
      no_steps = steps;
      no_calls = calls;
      listeners_stay = listeners ∙ ap (λ (ps : List (Post L F K)). map (λ p. p.listener) ps) posts_are.are ∙ posts_listeners given.listeners given.folders given.clocks posts_are.folders posts_are.clocks;
      folders_stay = folders ∙ ap (λ (ps : List (Post L F K)). map (λ p. p.folder) ps) posts_are.are ∙ posts_folders given.listeners given.folders given.clocks posts_are.folders posts_are.clocks;
    };
    status_is = status;
  });
}

-- ---- how workers end

not_zero : (e : ℕ) → (suc e == 0) ≡ false
not_zero e = ne_eqb (suc e) 0 (λ is. absurd (omega (arith, is)))

-- the first fault of ends is an end
first_kind : {L F K : Type 0} (ar : Post L F K → Around) (sessions : Option ℕ) (log : List Entry) (n : ℕ) (posts : List (Post L F K)) (done : List (Done L F K)) → AllDid ar sessions log n posts done → IsEnd (first_fault (map (λ d. d.status) done))
first_kind ar sessions log n [] [] did = inl refl
first_kind ar sessions log n [] (d ∷ ds) did = absurd did
first_kind ar sessions log n (x ∷ xs) [] did = absurd did
first_kind ar sessions log n (x ∷ xs) (d ∷ ds) did = either_first d.status (first_fault (map (λ e. e.status) ds)) did.0.worked.kind (first_kind ar sessions log (suc n) xs ds did.1)
  where
    either_first : (e rest : ℕ) → IsEnd e → IsEnd rest → IsEnd (if e == 0 then rest else e)
    either_first zero rest one others = others
    either_first (suc e) rest one others = rw (not_zero e) one

-- the status of a store that was opened and served is an end
pub served_kind : {L F K : Type 0} (ar : Post L F K → Around) (sessions : Option ℕ) (start : Start) (given : Given L F K) (back : Back L F) (new : Disks) → (served : Served ar sessions start given back new) → IsEnd back.status
served_kind ar sessions start given back new served = by_case served.workers
  where
    by_case : Manned ar sessions served.log given back ⊎ Unmanned served.log given back → IsEnd back.status
    by_case (inl m) = subst IsEnd (sym (m.status_is ∙ ap first_fault m.ends_are)) (first_kind ar sessions served.log 1 (posts_of given.listeners given.folders given.clocks) m.done m.did)
    by_case (inr u) = inr (inl u.status_is)

-- each worker's end has its cause
each_end : {L F K : Type 0} (inputs : L → Option (List (List ℕ))) (returned : L → Option (List Returned)) (faults : L → ℕ) (files : F → Option Files) (folder_faults : F → ℕ) (moments : K → Option (List ℕ)) (sessions : Option ℕ) (log : List Entry) (n : ℕ) (ls : List L) (fs : List F) (ks : List K) (done : List (Done L F K))
    → length fs ≡ length ls → length ks ≡ length ls → AllDid (around inputs returned faults files folder_faults moments) sessions log n (posts_of ls fs ks) done → EachEnd faults (map (λ d. d.status) done) ls (map (λ d. d.post.listener) done)
each_end inputs returned faults files folder_faults moments sessions log n ls fs ks [] f k did = tt
each_end inputs returned faults files folder_faults moments sessions log n [] fs ks (d ∷ ds) f k did = absurd did
each_end inputs returned faults files folder_faults moments sessions log n (l ∷ ls) [] ks (d ∷ ds) f k did = absurd (omega (arith, f))
each_end inputs returned faults files folder_faults moments sessions log n (l ∷ ls) (x ∷ fs) [] (d ∷ ds) f k did = absurd (omega (arith, k))
each_end inputs returned faults files folder_faults moments sessions log n (l ∷ ls) (x ∷ fs) (y ∷ ks) (d ∷ ds) f k did =
    (did.0.worked.kind, did.0.worked.fault, each_end inputs returned faults files folder_faults moments sessions log (suc n) ls fs ks ds (omega (arith, f)) (omega (arith, k)) did.1)

-- where the first fault is 12, one of the listeners counted a fault
one_rose : {L : Type 0} (faults : L → ℕ) (ends : List ℕ) (old new : List L) → EachEnd faults ends old new → first_fault ends ≡ 12 → OneRose faults old new
one_rose faults [] old new each first = absurd (omega (arith, first))
one_rose faults (e ∷ es) [] new each first = absurd each
one_rose faults (e ∷ es) (l ∷ ls) [] each first = absurd each
one_rose faults (zero ∷ es) (l ∷ ls) (m ∷ ms) each first = inr (one_rose faults es ls ms each.2 first)
one_rose faults (suc e ∷ es) (l ∷ ls) (m ∷ ms) each first = inl (each.1 (sym (ap (λ (b : Bool). if b then first_fault es else suc e) (not_zero e)) ∙ first))

-- as many things come of workers as there were listeners
map_length : {X Y : Type 0} (f : X → Y) (xs : List X) → length (map f xs) ≡ length xs
map_length f [] = refl
map_length f (x ∷ xs) = ap suc (map_length f xs)

module _ {L F K : Type 0} (inputs : L → Option (List (List ℕ))) (returned : L → Option (List Returned)) (faults : L → ℕ) (files : F → Option Files) (folder_faults : F → ℕ) (moments : K → Option (List ℕ))
    (sessions : Option ℕ) (start : Start) (given : Given L F K) (back : Back L F) (new : Disks) (served : Served (around inputs returned faults files folder_faults moments) sessions start given back new)
    (folders : length given.folders ≡ length given.listeners) (clocks : length given.clocks ≡ length given.listeners) where
  pub served_ends : EachEnd faults back.ends given.listeners back.listeners
  served_ends = by_case served.workers
    where
      by_case : Manned (around inputs returned faults files folder_faults moments) sessions served.log given back ⊎ Unmanned served.log given back → EachEnd faults back.ends given.listeners back.listeners
      by_case (inl m) = rw (m.ends_are, m.listeners_are) (each_end inputs returned faults files folder_faults moments sessions served.log 1 given.listeners given.folders given.clocks m.done folders clocks m.did)
      by_case (inr u) = rw u.idle.no_ends tt

  pub served_listener : back.status ≡ 12 → OneRose faults given.listeners back.listeners
  served_listener twelve = by_case served.workers
    where
      by_case : Manned (around inputs returned faults files folder_faults moments) sessions served.log given back ⊎ Unmanned served.log given back → OneRose faults given.listeners back.listeners
      by_case (inl m) = one_rose faults back.ends given.listeners back.listeners served_ends (sym m.status_is ∙ twelve)
      by_case (inr u) = absurd (omega (arith, sym u.status_is ∙ twelve))

  pub served_listeners : length back.listeners ≡ length given.listeners
  served_listeners = by_case served.workers
    where
      by_case : Manned (around inputs returned faults files folder_faults moments) sessions served.log given back ⊎ Unmanned served.log given back → length back.listeners ≡ length given.listeners
      by_case (inl m) = ap (λ (l : List L). length l) m.listeners_are ∙ map_length (λ d. d.post.listener) m.done ∙ did_length (around inputs returned faults files folder_faults moments) sessions served.log 1 (posts_of given.listeners given.folders given.clocks) m.done m.did ∙ posts_length given.listeners given.folders given.clocks folders clocks
      by_case (inr u) = ap (λ (l : List L). length l) u.idle.listeners_stay

  pub served_folders : length back.folders ≡ length given.folders
  served_folders = by_case served.workers
    where
      by_case : Manned (around inputs returned faults files folder_faults moments) sessions served.log given back ⊎ Unmanned served.log given back → length back.folders ≡ length given.folders
      by_case (inl m) = ap (λ (l : List F). length l) m.folders_are ∙ map_length (λ d. d.post.folder) m.done ∙ did_length (around inputs returned faults files folder_faults moments) sessions served.log 1 (posts_of given.listeners given.folders given.clocks) m.done m.did ∙ posts_length given.listeners given.folders given.clocks folders clocks ∙ sym folders
      by_case (inr u) = ap (λ (l : List F). length l) u.idle.folders_stay
