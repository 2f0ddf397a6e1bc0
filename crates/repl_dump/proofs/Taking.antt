-- One own turn of a walk.
use Rattle.std.proofs.Common.{◌≡◌, ℕ, ◌<◌, ◌≤◌, ◌^◌, Bool, IsTrue, List, [], ◌∷◌, ◌++◌, length, Option, Some, Result, Ok, Err, refl, sym, subst}
use Rattle.std.specs.Prelude.{IfOk, MatchResult}
use Rattle.cat_types.specs.declared.steps.Answer.{Answer}
use Rattle.cat_types.specs.declared.steps.Step.{Step}
use Rattle.cat_values.specs.declared.list_of.TheConstants.{LIST_END}
use Rattle.desk.specs.Adds.{Adds}
use Rattle.desk.specs.Entries.{Others}
use Rattle.desk.specs.History.{Entry, Legal, Start}
use Rattle.desk.specs.Walks.{step_at}
use Rattle.desk.proofs.Additions.{adds_one}
use Rattle.dump_steps.specs.declared.open_dumps.DumpKind.{DumpKind}
use Rattle.repl_dump.specs.Files.{Files}
use Rattle.repl_dump.specs.Opened.{Takes, allows, any_kind}
use Rattle.repl_dump.specs.Turns.{FitsPlace, GoesOn, place_of, steps_left}
use Rattle.repl_dump.specs.Walking.{Steps}
use Rattle.repl_dump.specs.declared.failure.Failure.{Failure}
use Rattle.repl_dump.specs.declared.place.Place.{Place as At}
use Rattle.repl_dump.specs.declared.place.Place.TheVariants as at
use Rattle.repl_dump.specs.declared.writer.Writer.{Writer}
use Rattle.repl_dump.proofs.Nearing.{nearer}
use Rattle.repl_dump.proofs.Stepping.{wrote_one}
use Rattle.repl_dump.proofs.Stopping.{stopped_there, unfinished}
use Rattle.repl_dump.proofs.Turning.{any_after, entry_of, next_takes, takes_others, turn_fits}

-- the step of a place was taken, behind others' turns, and answered
pub record OwnTurn (me number : ℕ) (place : At) (start : Start) (old new : List Entry) (step : Step) (given : Answer) (fault : ℕ) : Type 0 where
  pub between : List Entry
  pub others : Others me between
  pub grew : new ≡ (old ++ between) ++ entry_of me step given fault ∷ []
  pub legal : Legal start ((old ++ between) ++ entry_of me step given fault ∷ [])
  pub before_end : place ≡ at.End → ⊥
  pub step_is : step_at number (place_of place) ≡ Some step
  pub opened : Takes (allows (place_of place)) me number start (old ++ between)

pub turn_of : (me number : ℕ) (place : At) (start later : Start) (old new : List Entry) (step : Step) (given : Answer) (fault : ℕ) → later ≡ start
    → (between : List Entry) × Others me between × (new ≡ (old ++ between) ++ entry_of me step given fault ∷ []) → Legal later new → (place ≡ at.End → ⊥) → step_at number (place_of place) ≡ Some step
    → Takes (allows (place_of place)) me number start old → OwnTurn me number place start old new step given fault
turn_of me number place start later old new step given fault same turns legal before_end step_is opened = record {
  between = turns.0;
  others = turns.1;
  grew = turns.2;
  legal = subst (λ (l : List Entry). Legal start l) turns.2 (subst (λ (s : Start). Legal s new) same legal);
  before_end = before_end;
  step_is = step_is;
  opened = takes_others (allows (place_of place)) me number start old turns.0 turns.1 opened;
}

pub fits_turn : (me number : ℕ) (place : At) (start : Start) (old new : List Entry) (step : Step) (given : Answer) (fault : ℕ) → OwnTurn me number place start old new step given fault → FitsPlace (place_of place) given
fits_turn me number place start old new step given fault t = turn_fits place me number start (old ++ t.between) step given fault t.before_end t.step_is t.legal t.opened

-- the same of equal callers, starts and histories
pub takes_moved : (allows : DumpKind → Bool) (me you number : ℕ) (start later : Start) (old new : List Entry) → you ≡ me → later ≡ start → new ≡ old → Takes allows me number start old → Takes allows you number later new
takes_moved allows me you number start later old new caller same grew takes =
    subst (λ (n : ℕ). Takes allows n number later new) (sym caller) (subst (λ (s : Start). Takes allows me number s new) (sym same) (subst (λ (l : List Entry). Takes allows me number start l) (sym grew) takes))

-- which steps the dump takes after it
pub open_after : (result : Result At Failure) (me you number begin : ℕ) (place : At) (start later : Start) (old new : List Entry) (step : Step) (given : Answer) (fault : ℕ) (before now : Writer) (was is : Option Files) → you ≡ me → later ≡ start
    → OwnTurn me number place start old new step given fault → GoesOn begin (place_of place) given result before now was is
    → MatchResult result (λ to. Takes (allows (place_of to)) you number later new) (λ _. Takes any_kind you number later new)
open_after (Ok to) me you number begin place start later old new step given fault before now was is caller same t goes =
    takes_moved (allows (place_of to)) me you number start later ((old ++ t.between) ++ entry_of me step given fault ∷ []) new caller same t.grew
    (next_takes place to me number begin start (old ++ t.between) step given fault t.before_end t.step_is t.legal goes.moves t.opened)
open_after (Err failed) me you number begin place start later old new step given fault before now was is caller same t goes =
    takes_moved any_kind me you number start later ((old ++ t.between) ++ entry_of me step given fault ∷ []) new caller same t.grew
    (any_after place me number start (old ++ t.between) step given fault t.before_end t.step_is t.opened)

-- it leads nearer to the end
pub nearer_after : (result : Result At Failure) (begin : ℕ) (place : At) (given : Answer) (before now : Writer) (was is : Option Files) → FitsPlace (place_of place) given → length now.files ≤ LIST_END → GoesOn begin (place_of place) given result before now was is
    → IfOk result (λ to. steps_left now to < steps_left before place)
nearer_after (Ok to) begin place given before now was is fits most goes = nearer before now place to begin given fits goes.moves goes.told.lines most
nearer_after (Err failed) begin place given before now was is fits most goes = tt

-- what it adds
pub steps_after : (result : Result At Failure) (alone : Bool) (me number begin : ℕ) (place : At) (start : Start) (old new : List Entry) (step : Step) (given : Answer) (fault : ℕ) (before now : Writer) (was is : Option Files) → before.items < 2 ^ 64 → before.events < 2 ^ 64
    → (IsTrue alone → new ≡ old ++ entry_of me step given fault ∷ []) → OwnTurn me number place start old new step given fault → GoesOn begin (place_of place) given result before now was is
    → Adds alone me old new (Steps number begin (place_of place) result before now was is)
steps_after (Ok to) alone me number begin place start old new step given fault before now was is fits too sole t goes =
    adds_one alone me old new t.between (entry_of me step given fault) (Steps number begin (place_of place) (Ok to) before now was is) refl t.others t.grew sole
    (wrote_one number begin (place_of place) to before now was is (entry_of me step given fault) fits too t.step_is goes)
steps_after (Err failed) alone me number begin place start old new step given fault before now was is fits too sole t goes =
    adds_one alone me old new t.between (entry_of me step given fault) (Steps number begin (place_of place) (Err failed) before now was is) refl t.others t.grew sole
    (stopped_there number begin (place_of place) failed (entry_of me step given fault) (unfinished place) t.step_is goes)
