-- What the payloads of a journal do, and what a step writes.
use Rattle.std.proofs.Common.{◌≡◌, ℕ, ◌+◌, Bool, true, false, List, [], ◌∷◌, ◌++◌, length, Option, Some, None, Result, Ok, Err, refl, sym, ◌∙◌, ap}
use Rattle.std.specs.Prelude.{cond}
use Rattle.cat_types.specs.declared.steps.Step.{Step}
use Rattle.dump_steps.specs.declared.open_dumps.OpenDump.{OpenDump}
use Rattle.desk.specs.State.{State, Written, drew, due, durable, kept, start, trimmed, with_dumps, with_written, writing}
use Rattle.engine.specs.Opening.{and_then, id_in, opened, replayed, spelled, taken, takes}
use Rattle.ms_journal.specs.Files.{base_in, placed}

abbrev pub ok : State → Result State ℕ
ok s = Ok s

-- ---- one payload more

-- the place behind payloads
abbrev behind : ℕ → List (List ℕ) → ℕ
behind at [] = at
behind at (p ∷ ps) = behind (at + (length p + 9)) ps

placed-push : (at : ℕ) (ps : List (List ℕ)) (p : List ℕ) → placed at (ps ++ p ∷ []) ≡ placed at ps ++ (behind at ps, p) ∷ []
placed-push at [] p = refl
placed-push at (q ∷ ps) p = ap (λ (l : List (ℕ × List ℕ)). (at, q) ∷ l) (placed-push (at + (length q + 9)) ps p)

and_then-Ok : (r : Result State ℕ) → and_then r (λ s. Ok s) ≡ r
and_then-Ok (Ok s) = refl
and_then-Ok (Err at) = refl

replayed-push : (xs : List (ℕ × List ℕ)) (x : ℕ × List ℕ) (s : State) → replayed (xs ++ x ∷ []) s ≡ and_then (replayed xs s) (λ t. taken x.0 (spelled x.1) t)
replayed-push [] x s = and_then-Ok (taken x.0 (spelled x.1) s)
replayed-push (y ∷ xs) x s = first (taken y.0 (spelled y.1) s) (λ t. replayed-push xs x t)
  where
    first : (r : Result State ℕ) → ((t : State) → replayed (xs ++ x ∷ []) t ≡ and_then (replayed xs t) (λ u. taken x.0 (spelled x.1) u))
        → and_then r (λ t. replayed (xs ++ x ∷ []) t) ≡ and_then (and_then r (λ t. replayed xs t)) (λ u. taken x.0 (spelled x.1) u)
    first (Ok t) later = later t
    first (Err at) later = refl

-- a payload more, which the state takes
opened-push : (head : List ℕ) (ps : List (List ℕ)) (p : List ℕ) (w : Written) (s : State) → opened head ps ≡ Ok s → spelled p ≡ Some w → takes s w ≡ true → opened head (ps ++ p ∷ []) ≡ Ok (with_written (Some w) s)
opened-push head ps p w s is spells takes_it =
    let at : ℕ = behind 40 ps in
    ap (λ (l : List (ℕ × List ℕ)). replayed l (start (id_in head) (base_in head))) (placed-push 40 ps p)
    ∙ replayed-push (placed 40 ps) (at, p) (start (id_in head) (base_in head))
    ∙ ap (λ (r : Result State ℕ). and_then r (λ t. taken at (spelled p) t)) is
    ∙ ap (λ (o : Option Written). taken at o s) spells
    ∙ ap (λ (b : Bool). cond b (ok (with_written (Some w) s)) (Err at)) takes_it

-- ---- open dumps

-- whether something is taken doesn't hang on open dumps
takes_durable : (s : State) (w : Written) → takes (durable s) w ≡ takes s w
takes_durable s (kept event) = refl
takes_durable s (drew number) = refl
takes_durable s (trimmed first) = refl

-- and what it does on the disks doesn't
written_durable : (s : State) (w : Written) → with_written (Some w) (durable s) ≡ durable (with_written (Some w) s)
written_durable s (kept event) = refl
written_durable s (drew number) = refl
written_durable s (trimmed first) = refl

written_dumps : (s : State) (w : Written) → (with_written (Some w) s).dumps ≡ s.dumps
written_dumps s (kept event) = refl
written_dumps s (drew number) = refl
written_dumps s (trimmed first) = refl

taken_dumps : (at : ℕ) (o : Option Written) (s t : State) → taken at o s ≡ ok t → t.dumps ≡ s.dumps
taken_dumps at None s t is = absurd cc
taken_dumps at (Some w) s t is = by_test (takes s w) is
  where
    by_test : (b : Bool) → cond b (ok (with_written (Some w) s)) (Err at) ≡ ok t → t.dumps ≡ s.dumps
    by_test true taken_so = let same : with_written (Some w) s ≡ t = cc in ap (λ (x : State). x.dumps) (sym same) ∙ written_dumps s w
    by_test false taken_so = absurd cc

replayed_dumps : (xs : List (ℕ × List ℕ)) (s t : State) → replayed xs s ≡ ok t → t.dumps ≡ s.dumps
replayed_dumps [] s t is = let same : s ≡ t = cc in ap (λ (x : State). x.dumps) (sym same)
replayed_dumps (x ∷ xs) s t is = first (taken x.0 (spelled x.1) s) refl is (λ u. replayed_dumps xs u t)
  where
    first : (r : Result State ℕ) → taken x.0 (spelled x.1) s ≡ r → and_then r (λ u. replayed xs u) ≡ ok t → ((u : State) → replayed xs u ≡ ok t → t.dumps ≡ u.dumps) → t.dumps ≡ s.dumps
    first (Ok u) took rest later = later u rest ∙ taken_dumps x.0 (spelled x.1) s u took
    first (Err at) took rest later = absurd cc

-- what is opened is all on the disks
pub opened_durable : (head : List ℕ) (ps : List (List ℕ)) (s : State) → opened head ps ≡ Ok s → durable s ≡ s
opened_durable head ps s is =
    let none : s.dumps ≡ [] = replayed_dumps (placed 40 ps) (start (id_in head) (base_in head)) s is in
    ap (λ (dumps : List OpenDump). with_dumps dumps s) (sym none)

-- ---- what a step writes

-- what is written does on the disks what the step does
writing_does : (s : State) (caller : ℕ) (step : Step) (w : Written) → writing s step ≡ Some w → durable (due s caller step).state ≡ durable (with_written (Some w) s)
writing_does s caller step w is = ap (λ (o : Option Written). durable (with_written o s)) is

-- a step that writes nothing leaves the disks
pub writing_nothing : (s : State) (caller : ℕ) (step : Step) → writing s step ≡ None → durable (due s caller step).state ≡ durable s
writing_nothing s caller step is = ap (λ (o : Option Written). durable (with_written o s)) is

-- the journal with what a step writes
pub opened-step : (head : List ℕ) (ps : List (List ℕ)) (p : List ℕ) (w : Written) (s : State) (caller : ℕ) (step : Step) → opened head ps ≡ Ok (durable s) → spelled p ≡ Some w → takes s w ≡ true → writing s step ≡ Some w
    → opened head (ps ++ p ∷ []) ≡ Ok (durable (due s caller step).state)
opened-step head ps p w s caller step is spells takes_it writes =
    opened-push head ps p w (durable s) is spells (takes_durable s w ∙ takes_it) ∙ ap ok (written_durable s w ∙ sym (writing_does s caller step w writes))
