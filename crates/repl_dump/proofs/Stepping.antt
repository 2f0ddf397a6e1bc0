-- One step of a dump: how it is answered, and what it adds to a walk.
use Rattle.std.proofs.Common.{◌≡◌, ◌⊎◌, ℕ, ◌<◌, ◌^◌, Bool, true, false, cond, List, [], ◌∷◌, ◌++◌, Option, Some, refl, sym, ◌∙◌, ap, subst, inl, inr, append_assoc}
use Rattle.std.proofs.lemmas.Bool.{false≢true}
use Rattle.std.proofs.lemmas.List.{append-nil, map-append}
use Rattle.cat_types.specs.declared.steps.Answer.{Answer}
use Rattle.cat_types.specs.declared.steps.Answer.TheVariants as answer
use Rattle.cat_types.specs.declared.steps.Step.{Step}
use Rattle.cat_types.specs.declared.steps.Step.TheVariants.{DumpEnd, DumpEvents, DumpParts, DumpSeal, DumpTable}
use Rattle.desk.specs.History.{Entry}
use Rattle.desk.specs.State.{MayAnswer, State, end_answer}
use Rattle.desk.specs.Walks.{Goes, Moves, Place, step_at}
use Rattle.desk.specs.Walks as walk
use Rattle.dump_steps.specs.Open.{open_dump}
use Rattle.dump_steps.specs.declared.open_dumps.OpenDump.{OpenDump}
use Rattle.dump_texts.specs.Texts.{event_texts, item_texts}
use Rattle.dump_texts.proofs.Told.{event_texts_both}
use Rattle.repl_dump.specs.Files.{Files}
use Rattle.repl_dump.specs.Opened.{allows}
use Rattle.repl_dump.specs.Turns.{Arrives, FitsPlace, place_of}
use Rattle.repl_dump.specs.Walking.{IsInOrder, Stands, Wrote, answers_of}
use Rattle.repl_dump.specs.declared.place.Place.{Place as At}
use Rattle.repl_dump.specs.declared.place.Place.TheVariants as at
use Rattle.repl_dump.specs.declared.writer.Writer.{Writer}
use Rattle.repl_dump.proofs.Fitting.{fits_events, fits_parts, fits_seal, fits_table}
use Rattle.repl_dump.proofs.Growing.{text_more, written_more}

-- ---- answers

-- the step of a place before the end is answered by what fits there, where a dump is open that takes it
pub fits_at : (place : At) (s : State) (before me after number : ℕ) (step : Step) (given : Answer) (dump : OpenDump) → (place ≡ at.End → ⊥) → step_at number (place_of place) ≡ Some step
    → MayAnswer s before me step given after → open_dump me number s.dumps ≡ Some dump → allows (place_of place) dump.kind ≡ true → FitsPlace (place_of place) given
fits_at (at.Tables cursor) s before me after number step given dump unlike is may opened allowed =
    let same : DumpTable number cursor ≡ step = cc in
    fits_table s before me after number cursor given dump (subst (λ (st : Step). MayAnswer s before me st given after) (sym same) may) opened allowed
fits_at (at.Parts table born cursor) s before me after number step given dump unlike is may opened allowed =
    let same : DumpParts number table born cursor ≡ step = cc in
    fits_parts s before me after number table born cursor given dump (subst (λ (st : Step). MayAnswer s before me st given after) (sym same) may) opened allowed
fits_at at.Seal s before me after number step given dump unlike is may opened allowed =
    let same : DumpSeal number ≡ step = cc in
    fits_seal s before me after number given dump (subst (λ (st : Step). MayAnswer s before me st given after) (sym same) may) opened allowed
fits_at (at.Events cursor) s before me after number step given dump unlike is may opened allowed =
    let same : DumpEvents number cursor ≡ step = cc in
    fits_events s before me after number cursor given dump (subst (λ (st : Step). MayAnswer s before me st given after) (sym same) may) opened allowed
fits_at at.End s before me after number step given dump unlike is may opened allowed = absurd (unlike refl)

-- the end of an open dump is answered so, whatever else
pub is_ended : (s : State) (before me after number : ℕ) (given : Answer) (dump : OpenDump) → MayAnswer s before me (DumpEnd number) given after → open_dump me number s.dumps ≡ Some dump → given ≡ answer.Ended
is_ended s before me after number (answer.Reply reply) dump may opened = may ∙ ap end_answer opened
is_ended s before me after number (answer.Began n source born begin end first) dump may opened = may ∙ ap end_answer opened
is_ended s before me after number (answer.Table table) dump may opened = may ∙ ap end_answer opened
is_ended s before me after number answer.NoTable dump may opened = may ∙ ap end_answer opened
is_ended s before me after number (answer.Parts parts more) dump may opened = may ∙ ap end_answer opened
is_ended s before me after number (answer.Sealed end) dump may opened = may ∙ ap end_answer opened
is_ended s before me after number (answer.Events events more) dump may opened = may ∙ ap end_answer opened
is_ended s before me after number answer.Ended dump may opened = may ∙ ap end_answer opened
is_ended s before me after number (answer.DumpRefused refusal) dump may opened = may ∙ ap end_answer opened
is_ended s before me after number (answer.Kept first) dump may opened = may ∙ ap end_answer opened
is_ended s before me after number answer.NotOpen dump may opened = may ∙ ap end_answer opened
is_ended s before me after number answer.StoreFault dump may opened = absurd (false≢true may.0)
is_ended s before me after number answer.NoMemory dump may opened = absurd (false≢true may)

-- ---- walks

pub goes_both : (dump begin : ℕ) (from mid to : Place) (xs ys : List Entry) → Goes dump begin from xs mid → Goes dump begin mid ys to → Goes dump begin from (xs ++ ys) to
goes_both dump begin from mid to [] ys a b = subst (λ (p : Place). Goes dump begin p ys to) (sym a) b
goes_both dump begin from mid to (x ∷ xs) ys a b = (a.0, (a.1.0, (a.1.1.0, goes_both dump begin a.1.0 mid to xs ys a.1.1.1 b)))

pub wrote_none : (dump begin : ℕ) (place : Place) (writer : Writer) (now : Option Files) → Wrote dump begin place place writer writer now now []
wrote_none dump begin place writer now = record {
  goes = refl;
  stands = λ dir end answers first so_far. subst (λ (l : List Answer). Stands dir end l first place writer now) (sym (append-nil answers)) so_far;
}

pub wrote_both : (dump begin : ℕ) (from mid to : Place) (a b c : Writer) (x y z : Option Files) (xs ys : List Entry) → Wrote dump begin from mid a b x y xs → Wrote dump begin mid to b c y z ys → Wrote dump begin from to a c x z (xs ++ ys)
wrote_both dump begin from mid to a b c x y z xs ys one other = record {
  goes = goes_both dump begin from mid to xs ys one.goes other.goes;
  stands = λ dir end answers first so_far. subst (λ (l : List Answer). Stands dir end l first to c z)
      (append_assoc answers (answers_of xs) (answers_of ys) ∙ ap (λ (l : List Answer). answers ++ l) (sym (map-append (λ (entry : Entry). entry.1.answer) xs ys)))
      (other.stands dir end (answers ++ answers_of xs) first (one.stands dir end answers first so_far));
}

-- an answer behind others tells no event
none_more : (answers : List Answer) (given : Answer) → event_texts answers ≡ [] → event_texts (given ∷ []) ≡ [] → event_texts (answers ++ given ∷ []) ≡ []
none_more answers given a b = event_texts_both answers (given ∷ []) ∙ (ap (λ (l : List (List ℕ)). l ++ event_texts (given ∷ [])) a ∙ b)

in_order : (begin : ℕ) (from to : Place) (given : Answer) (answers : List Answer) → Moves begin from given to → IsInOrder from answers
    → IsInOrder to (answers ++ given ∷ []) × ((item_texts (given ∷ []) ≡ []) ⊎ (event_texts answers ≡ []))
in_order begin (walk.tables after) to given answers (inl came) was =
    (subst (λ (p : Place). IsInOrder p (answers ++ given ∷ [])) (sym came.next) (none_more answers given was (ap (λ (g : Answer). event_texts (g ∷ [])) came.is)), inr was)
in_order begin (walk.tables after) to given answers (inr gone) was =
    (subst (λ (p : Place). IsInOrder p (answers ++ given ∷ [])) (sym gone.1) (none_more answers given was (ap (λ (g : Answer). event_texts (g ∷ [])) gone.0)), inr was)
in_order begin (walk.parts table born after) to given answers came was = (subst (λ (p : Place). IsInOrder p (answers ++ given ∷ [])) (sym came.next) (either came.more), inr was)
  where
    none : event_texts (answers ++ given ∷ []) ≡ []
    none = none_more answers given was (ap (λ (g : Answer). event_texts (g ∷ [])) came.is)

    either : (more : Bool) → IsInOrder (cond more (walk.parts table born (walk.last_values after came.items)) (walk.tables (Some table))) (answers ++ given ∷ [])
    either true = none
    either false = none
in_order begin walk.seal to given answers came was = (subst (λ (p : Place). IsInOrder p (answers ++ given ∷ [])) (sym came.next) tt, inr was)
in_order begin (walk.events after) to given answers came was =
    (subst (λ (p : Place). IsInOrder p (answers ++ given ∷ [])) (sym came.next) (either came.more), inl (ap (λ (g : Answer). item_texts (g ∷ [])) came.is))
  where
    either : (more : Bool) → IsInOrder (cond more (walk.events (walk.last_number after came.found)) walk.end) (answers ++ given ∷ [])
    either true = tt
    either false = tt
in_order begin walk.end to given answers came was = (subst (λ (p : Place). IsInOrder p (answers ++ given ∷ [])) (sym came.1) tt, inl (ap (λ (g : Answer). item_texts (g ∷ [])) came.0))
in_order begin walk.done to given answers came was = absurd came

-- one step that was answered and written
pub wrote_one : (dump begin : ℕ) (from : Place) (to : At) (old new : Writer) (before after : Option Files) (entry : Entry) → old.items < 2 ^ 64 → old.events < 2 ^ 64
    → step_at dump from ≡ Some entry.0.step → Arrives begin from entry.1.answer to old new before after → Wrote dump begin from (place_of to) old new before after (entry ∷ [])
wrote_one dump begin from to old new before after entry fits too step arrived = record {
  goes = (step, (place_of to, (arrived.moves, refl)));
  stands = λ dir end answers first so_far.
      let order = in_order begin from (place_of to) entry.1.answer answers arrived.moves so_far.ordered in
      record {
        written = written_more dir end answers entry.1.answer old new before after so_far.written arrived.told order.1;
        ordered = order.0;
        text = text_more dir end answers entry.1.answer old new first before after so_far.written arrived.told order.1 fits too so_far.text;
      };
}
