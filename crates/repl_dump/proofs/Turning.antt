-- What one own step does with an open dump.
use Rattle.std.proofs.Common.{◌≡◌, ℕ, Bool, true, false, cond, List, [], ◌∷◌, ◌++◌, map, Option, Some, refl, sym, ◌∙◌, ap, subst, inl, inr}
use Rattle.std.specs.Prelude.{◌&&◌}
use Rattle.cat_types.specs.declared.steps.Answer.{Answer}
use Rattle.cat_types.specs.declared.steps.Answer.TheVariants as answer
use Rattle.cat_types.specs.declared.steps.DumpRefusal.TheVariants.{DatabaseGone}
use Rattle.cat_types.specs.declared.steps.Step.{Step}
use Rattle.cat_types.specs.declared.steps.Step.TheVariants.{DumpEvents, DumpParts, DumpSeal, DumpTable}
use Rattle.cat_objects.specs.Catalogue.{database}
use Rattle.cat_objects.specs.Changes.{is_born}
use Rattle.desk.specs.Entries.{Others}
use Rattle.desk.specs.History.{Entry, Legal, Point, Start, point_after, point_of, state_after, took}
use Rattle.desk.specs.State.{MayAnswer, State, due_dumps}
use Rattle.desk.specs.Walks.{Moves, Place, step_at}
use Rattle.desk.specs.Walks as walk
use Rattle.dump_steps.specs.Open.{open_dump, sealed_at, takes_events, takes_objects, with_sealed}
use Rattle.dump_steps.specs.Pieces.{answered_in, is_taken_in}
use Rattle.dump_steps.specs.declared.open_dumps.DumpKind.{DumpKind}
use Rattle.dump_steps.specs.declared.open_dumps.OpenDump.{OpenDump}
use Rattle.repl_dump.specs.Opened.{Takes, allows, any_kind}
use Rattle.repl_dump.specs.Turns.{FitsPlace, place_of}
use Rattle.repl_dump.specs.declared.place.Place.{Place as At}
use Rattle.repl_dump.specs.declared.place.Place.TheVariants as at
use Rattle.repl_dump.proofs.Opening.{open_sealed, same_dumps, sealed_found}
use Rattle.repl_dump.proofs.Staying.{last_follows, others_stay, point_on}
use Rattle.repl_dump.proofs.Stepping.{fits_at}

-- an entry
abbrev pub entry_of : ℕ → Step → Answer → ℕ → Entry
entry_of me step given fault = (record { caller = me; step = step }, record { answer = given; fault = fault })

-- what takes some steps takes any
pub any_of : (allows : DumpKind → Bool) (me number : ℕ) (start : Start) (history : List Entry) → Takes allows me number start history → Takes any_kind me number start history
any_of allows me number start history takes = record { dump = takes.dump; opened = takes.opened; allowed = refl }

-- the open dumps of two equal histories
pub takes_as : (allows : DumpKind → Bool) (me number : ℕ) (start : Start) (old new : List Entry) → new ≡ old → Takes allows me number start old → Takes allows me number start new
takes_as allows me number start old new is takes = subst (λ (l : List Entry). Takes allows me number start l) (sym is) takes

-- a dump stays open over others' turns
pub takes_others : (allows : DumpKind → Bool) (me number : ℕ) (start : Start) (old between : List Entry) → Others me between → Takes allows me number start old → Takes allows me number start (old ++ between)
takes_others allows me number start old between others takes = record {
  dump = takes.dump;
  opened = ap (λ (p : Point). open_dump me number p.state.dumps) (point_on (point_of start) old between)
      ∙ others_stay me number (point_after (point_of start) (map took old)) between takes.dump others takes.opened;
  allowed = takes.allowed;
}

-- a dump stays open over an entry that leaves the open dumps
takes_same : (allows : DumpKind → Bool) (me number : ℕ) (start : Start) (before : List Entry) (step : Step) (given : Answer) (fault : ℕ) → due_dumps (state_after start before) me step ≡ (state_after start before).dumps
    → Takes allows me number start before → Takes allows me number start (before ++ entry_of me step given fault ∷ [])
takes_same allows me number start before step given fault same takes = record {
  dump = takes.dump;
  opened = ap (λ (p : Point). open_dump me number p.state.dumps) (point_on (point_of start) before (entry_of me step given fault ∷ []))
      ∙ (ap (λ (dumps : List OpenDump). open_dump me number dumps) (same_dumps (state_after start before) me step given same) ∙ takes.opened);
  allowed = takes.allowed;
}

-- the step of a place other than a seal leaves the open dumps
abbrev Leaves : State → ℕ → Step → Type 0
Leaves s me step = due_dumps s me step ≡ s.dumps

leaves_as : (s : State) (me : ℕ) (one step : Step) → one ≡ step → Leaves s me one → Leaves s me step
leaves_as s me one step is same = subst (λ (st : Step). Leaves s me st) is same

-- after the step of a place the dump is still open
pub any_after : (place : At) (me number : ℕ) (start : Start) (before : List Entry) (step : Step) (given : Answer) (fault : ℕ) → (place ≡ at.End → ⊥) → step_at number (place_of place) ≡ Some step
    → Takes (allows (place_of place)) me number start before → Takes any_kind me number start (before ++ entry_of me step given fault ∷ [])
any_after (at.Tables cursor) me number start before step given fault unlike is takes =
    let same : DumpTable number cursor ≡ step = cc in
    any_of takes_objects me number start _ (takes_same takes_objects me number start before step given fault (leaves_as (state_after start before) me (DumpTable number cursor) step same refl) takes)
any_after (at.Parts table born cursor) me number start before step given fault unlike is takes =
    let same : DumpParts number table born cursor ≡ step = cc in
    any_of takes_objects me number start _ (takes_same takes_objects me number start before step given fault (leaves_as (state_after start before) me (DumpParts number table born cursor) step same refl) takes)
any_after at.Seal me number start before step given fault unlike is takes =
    let same : DumpSeal number ≡ step = cc in
    let found = open_sealed (state_after start before) me number given takes.dump takes.opened in
    subst (λ (st : Step). Takes any_kind me number start (before ++ entry_of me st given fault ∷ [])) same (record {
      dump = found.0;
      opened = ap (λ (p : Point). open_dump me number p.state.dumps) (point_on (point_of start) before (entry_of me (DumpSeal number) given fault ∷ [])) ∙ found.1;
      allowed = refl;
    })
any_after (at.Events cursor) me number start before step given fault unlike is takes =
    let same : DumpEvents number cursor ≡ step = cc in
    any_of takes_events me number start _ (takes_same takes_events me number start before step given fault (leaves_as (state_after start before) me (DumpEvents number cursor) step same refl) takes)
any_after at.End me number start before step given fault unlike is takes = absurd (unlike refl)

-- ---- the next place

-- a seal was answered so: it was taken
is_sealed : (s : State) (me number end : ℕ) (dump : OpenDump) → answer.Sealed end ≡ answered_in (open_dump me number s.dumps) takes_objects s.catalogue (λ opened. answer.Sealed s.newest)
    → open_dump me number s.dumps ≡ Some dump → takes_objects dump.kind ≡ true → is_taken_in (open_dump me number s.dumps) takes_objects s.catalogue ≡ true
is_sealed s me number end dump told is allowed =
    ap (λ (o : Option OpenDump). is_taken_in o takes_objects s.catalogue) is
    ∙ (ap (λ b. b && is_born dump.born (database s.catalogue dump.db)) allowed
    ∙ by_test (is_born dump.born (database s.catalogue dump.db)) (told ∙ (ap (λ (o : Option OpenDump). answered_in o takes_objects s.catalogue (λ opened. answer.Sealed s.newest)) is
    ∙ ap (λ b. cond b (cond (is_born dump.born (database s.catalogue dump.db)) (answer.Sealed s.newest) (answer.DumpRefused (DatabaseGone dump.born))) answer.NotOpen) allowed)))
  where
    by_test : (b : Bool) → answer.Sealed end ≡ cond b (answer.Sealed s.newest) (answer.DumpRefused (DatabaseGone dump.born)) → (true && b) ≡ true
    by_test true told = refl
    by_test false told = absurd cc

-- after a seal that was taken a dump takes events
takes_sealed : (me number : ℕ) (start : Start) (before : List Entry) (end fault : ℕ) → MayAnswer (state_after start before) 0 me (DumpSeal number) (answer.Sealed end) fault
    → Takes takes_objects me number start before → Takes takes_events me number start (before ++ entry_of me (DumpSeal number) (answer.Sealed end) fault ∷ [])
takes_sealed me number start before end fault may takes =
    let s = state_after start before in
    let taken : is_taken_in (open_dump me number s.dumps) takes_objects s.catalogue ≡ true = is_sealed s me number end takes.dump may takes.opened takes.allowed in
    record {
      dump = sealed_at s.newest takes.dump;
      opened = ap (λ (p : Point). open_dump me number p.state.dumps) (point_on (point_of start) before (entry_of me (DumpSeal number) (answer.Sealed end) fault ∷ []))
          ∙ (ap (λ b. open_dump me number (cond b (with_sealed me number s.newest s.dumps) s.dumps)) taken ∙ sealed_found me number s.newest s.dumps takes.dump takes.opened);
      allowed = refl;
    }

-- after a step that leads on, the dump takes the step of the next place
pub next_takes : (from to : At) (me number begin : ℕ) (start : Start) (before : List Entry) (step : Step) (given : Answer) (fault : ℕ) → (from ≡ at.End → ⊥) → step_at number (place_of from) ≡ Some step
    → Legal start (before ++ entry_of me step given fault ∷ []) → Moves begin (place_of from) given (place_of to)
    → Takes (allows (place_of from)) me number start before → Takes (allows (place_of to)) me number start (before ++ entry_of me step given fault ∷ [])
next_takes (at.Tables cursor) to me number begin start before step given fault unlike is legal moves takes = by moves
  where
    same : DumpTable number cursor ≡ step
    same = cc

    still : Takes takes_objects me number start (before ++ entry_of me step given fault ∷ [])
    still = takes_same takes_objects me number start before step given fault (leaves_as (state_after start before) me (DumpTable number cursor) step same refl) takes

    by : walk.AfterTable given (place_of to) → Takes (allows (place_of to)) me number start (before ++ entry_of me step given fault ∷ [])
    by (inl came) = subst (λ (p : Place). Takes (allows p) me number start (before ++ entry_of me step given fault ∷ [])) (sym came.next) still
    by (inr gone) = subst (λ (p : Place). Takes (allows p) me number start (before ++ entry_of me step given fault ∷ [])) (sym gone.1) still
next_takes (at.Parts table born cursor) to me number begin start before step given fault unlike is legal moves takes =
    subst (λ (p : Place). Takes (allows p) me number start (before ++ entry_of me step given fault ∷ [])) (sym moves.next) (either moves.more)
  where
    same : DumpParts number table born cursor ≡ step
    same = cc

    still : Takes takes_objects me number start (before ++ entry_of me step given fault ∷ [])
    still = takes_same takes_objects me number start before step given fault (leaves_as (state_after start before) me (DumpParts number table born cursor) step same refl) takes

    either : (more : Bool) → Takes (allows (cond more (walk.parts table born (walk.last_values cursor moves.items)) (walk.tables (Some table)))) me number start (before ++ entry_of me step given fault ∷ [])
    either true = still
    either false = still
next_takes at.Seal to me number begin start before step given fault unlike is legal moves takes =
    subst (λ (p : Place). Takes (allows p) me number start (before ++ entry_of me step given fault ∷ [])) (sym moves.next)
    (subst (λ (st : Step). Takes takes_events me number start (before ++ entry_of me st given fault ∷ [])) same
    (subst (λ (a : Answer). Takes takes_events me number start (before ++ entry_of me (DumpSeal number) a fault ∷ [])) (sym moves.is)
    (takes_sealed me number start before moves.number fault may takes)))
  where
    same : DumpSeal number ≡ step
    same = cc

    may : MayAnswer (state_after start before) 0 me (DumpSeal number) (answer.Sealed moves.number) fault
    may = subst (λ (a : Answer). MayAnswer (state_after start before) (point_after (point_of start) (map took before)).fault me (DumpSeal number) a fault) moves.is
        (subst (λ (st : Step). MayAnswer (state_after start before) (point_after (point_of start) (map took before)).fault me st given fault) (sym same) (last_follows (point_of start) before (entry_of me step given fault) legal).1)
next_takes (at.Events cursor) to me number begin start before step given fault unlike is legal moves takes =
    subst (λ (p : Place). Takes (allows p) me number start (before ++ entry_of me step given fault ∷ [])) (sym moves.next) (either moves.more)
  where
    same : DumpEvents number cursor ≡ step
    same = cc

    still : Takes takes_events me number start (before ++ entry_of me step given fault ∷ [])
    still = takes_same takes_events me number start before step given fault (leaves_as (state_after start before) me (DumpEvents number cursor) step same refl) takes

    either : (more : Bool) → Takes (allows (cond more (walk.events (walk.last_number cursor moves.found)) walk.end)) me number start (before ++ entry_of me step given fault ∷ [])
    either true = still
    either false = any_of takes_events me number start _ still
next_takes at.End to me number begin start before step given fault unlike is legal moves takes = absurd (unlike refl)

-- the answer to the step of a place fits there
pub turn_fits : (place : At) (me number : ℕ) (start : Start) (before : List Entry) (step : Step) (given : Answer) (fault : ℕ) → (place ≡ at.End → ⊥) → step_at number (place_of place) ≡ Some step
    → Legal start (before ++ entry_of me step given fault ∷ []) → Takes (allows (place_of place)) me number start before → FitsPlace (place_of place) given
turn_fits place me number start before step given fault unlike is legal takes =
    fits_at place (state_after start before) (point_after (point_of start) (map took before)).fault me fault number step given takes.dump unlike is
    (last_follows (point_of start) before (entry_of me step given fault) legal).1 takes.opened takes.allowed
