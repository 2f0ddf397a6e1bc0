-- What the steps of an open dump are answered.
use Rattle.std.proofs.Common.{◌≡◌, ◌≢◌, ℕ, zero, suc, Bool, true, false, cond, List, [], ◌∷◌, map, take, length, Option, Some, None, refl, sym, ◌∙◌, subst, arith}
use Rattle.std.specs.Prelude.{nat_lt}
use Rattle.std.specs.List.{AllByRecursion}
use Rattle.std.proofs.lemmas.Bool.{false≢true}
use Rattle.std.proofs.lemmas.Bool.Decides.{nat_tests}
use Rattle.cat_types.specs.declared.steps.Answer.{Answer}
use Rattle.cat_types.specs.declared.steps.Answer.TheVariants as answer
use Rattle.cat_types.specs.declared.steps.DumpRefusal.TheVariants.{DatabaseGone}
use Rattle.cat_types.specs.declared.steps.Step.{Step}
use Rattle.cat_types.specs.declared.steps.Step.TheVariants.{DumpEvents, DumpParts, DumpSeal, DumpTable}
use Rattle.cat_objects.specs.Catalogue.{Catalogue, database}
use Rattle.cat_objects.specs.Changes.{is_born}
use Rattle.cat_objects.specs.Parts.{PartList}
use Rattle.cat_objects.specs.declared.held.HeldTable.{HeldTable}
use Rattle.desk.specs.State.{MayAnswer, State, due_answer, writes}
use Rattle.dump_steps.specs.Open.{open_dump, takes_events, takes_objects}
use Rattle.dump_steps.specs.Pieces.{answered_in, part_item, told_table}
use Rattle.dump_steps.specs.declared.open_dumps.DumpKind.{DumpKind}
use Rattle.dump_steps.specs.declared.open_dumps.OpenDump.{OpenDump}
use Rattle.repl_dump.specs.Turns.{FitsEvents, FitsParts, FitsSeal, FitsTable, IsPart}

-- what holds of the due answer, and of want of memory, holds of every answer to a step that writes nothing
pub of_due : (P : Answer → Type 0) (s : State) (before caller after : ℕ) (step : Step) (given : Answer) → MayAnswer s before caller step given after → writes s step ≡ false → P (due_answer s caller step) → P answer.NoMemory → P given
of_due P s before caller after step (answer.Reply reply) may still due none = subst P (sym may) due
of_due P s before caller after step (answer.Began dump source born begin end first) may still due none = subst P (sym may) due
of_due P s before caller after step (answer.Table table) may still due none = subst P (sym may) due
of_due P s before caller after step answer.NoTable may still due none = subst P (sym may) due
of_due P s before caller after step (answer.Parts parts more) may still due none = subst P (sym may) due
of_due P s before caller after step (answer.Sealed end) may still due none = subst P (sym may) due
of_due P s before caller after step (answer.Events events more) may still due none = subst P (sym may) due
of_due P s before caller after step answer.Ended may still due none = subst P (sym may) due
of_due P s before caller after step (answer.DumpRefused refusal) may still due none = subst P (sym may) due
of_due P s before caller after step (answer.Kept first) may still due none = subst P (sym may) due
of_due P s before caller after step answer.NotOpen may still due none = subst P (sym may) due
of_due P s before caller after step answer.StoreFault may still due none = absurd (false≢true (sym still ∙ may.0))
of_due P s before caller after step answer.NoMemory may still due none = none

-- what holds of a refusal, and of what a step finds, holds of the answer to a step of an open dump that takes it
in_open : (P : Answer → Type 0) (found : Option OpenDump) (dump : OpenDump) (allows : DumpKind → Bool) (cat : Catalogue) (finds : OpenDump → Answer) → found ≡ Some dump → allows dump.kind ≡ true
    → P (finds dump) → ((born : ℕ) → P (answer.DumpRefused (DatabaseGone born))) → P (answered_in found allows cat finds)
in_open P found dump allows cat finds is allowed here gone =
    subst (λ (o : Option OpenDump). P (answered_in o allows cat finds)) (sym is) (by_test (allows dump.kind) (is_born dump.born (database cat dump.db)) allowed)
  where
    by_test : (b c : Bool) → b ≡ true → P (cond b (cond c (finds dump) (answer.DumpRefused (DatabaseGone dump.born))) answer.NotOpen)
    by_test true true holds = here
    by_test true false holds = gone dump.born
    by_test false c holds = absurd (false≢true holds)

table_fits : (newest : ℕ) (found : Option (List ℕ × HeldTable)) → FitsTable (told_table newest found)
table_fits newest None = tt
table_fits newest (Some entry) = tt

are_parts : (newest : ℕ) (name : List ℕ) (born n : ℕ) (parts : PartList) → AllByRecursion IsPart (take n (map (part_item newest name born) parts))
are_parts newest name born zero parts = tt
are_parts newest name born (suc n) [] = tt
are_parts newest name born (suc n) (p ∷ ps) = (tt, are_parts newest name born n ps)

-- where more than so many are there, so many were taken
some_taken : {T : Type 0} (n : ℕ) (xs : List T) → nat_lt (suc n) (length xs) ≡ true → take (suc n) xs ≢ []
some_taken n [] more = absurd (grind (arith, nat_tests, more))
some_taken n (x ∷ xs) more = λ empty. absurd cc

pub fits_table : (s : State) (before me after number : ℕ) (cursor : Option (List ℕ)) (given : Answer) (dump : OpenDump) → MayAnswer s before me (DumpTable number cursor) given after → open_dump me number s.dumps ≡ Some dump → takes_objects dump.kind ≡ true → FitsTable given
fits_table s before me after number cursor given dump may is allowed =
    of_due FitsTable s before me after (DumpTable number cursor) given may refl (in_open FitsTable (open_dump me number s.dumps) dump takes_objects s.catalogue _ is allowed (table_fits s.newest _) (λ born. tt)) tt

pub fits_parts : (s : State) (before me after number : ℕ) (table : List ℕ) (born : ℕ) (cursor : Option (List (List ℕ))) (given : Answer) (dump : OpenDump) → MayAnswer s before me (DumpParts number table born cursor) given after → open_dump me number s.dumps ≡ Some dump → takes_objects dump.kind ≡ true → FitsParts given
fits_parts s before me after number table born cursor given dump may is allowed =
    of_due FitsParts s before me after (DumpParts number table born cursor) given may refl
    (in_open FitsParts (open_dump me number s.dumps) dump takes_objects s.catalogue _ is allowed (are_parts s.newest table born 64 _, some_taken 63 _) (λ b. tt)) tt

pub fits_seal : (s : State) (before me after number : ℕ) (given : Answer) (dump : OpenDump) → MayAnswer s before me (DumpSeal number) given after → open_dump me number s.dumps ≡ Some dump → takes_objects dump.kind ≡ true → FitsSeal given
fits_seal s before me after number given dump may is allowed =
    of_due FitsSeal s before me after (DumpSeal number) given may refl (in_open FitsSeal (open_dump me number s.dumps) dump takes_objects s.catalogue _ is allowed tt (λ born. tt)) tt

pub fits_events : (s : State) (before me after number cursor : ℕ) (given : Answer) (dump : OpenDump) → MayAnswer s before me (DumpEvents number cursor) given after → open_dump me number s.dumps ≡ Some dump → takes_events dump.kind ≡ true → FitsEvents given
fits_events s before me after number cursor given dump may is allowed =
    of_due FitsEvents s before me after (DumpEvents number cursor) given may refl
    (in_open FitsEvents (open_dump me number s.dumps) dump takes_events s.catalogue _ is allowed (some_taken 255 _) (λ born. tt)) tt
