-- A session's dumps are open while it takes steps on them.
use Rattle.std.proofs.Common.{◌≡◌, ◌≢◌, ℕ, Bool, true, false, List, [], ◌∷◌, ◌++◌, Option, Some, None, refl, sym, ap, ◌∙◌, subst, inl, inr}
use Rattle.std.specs.Prelude.{◌⊎◌, cond}
use Rattle.std.specs.List.{AllByRecursion, flat_map}
use Rattle.cat_types.specs.declared.items.Item.{Item}
use Rattle.cat_types.specs.declared.replies.Reply.{Reply}
use Rattle.cat_types.specs.declared.steps.Answer.{Answer}
use Rattle.cat_types.specs.declared.steps.Answer.TheVariants as answer
use Rattle.cat_types.specs.declared.steps.DumpRefusal.{DumpRefusal}
use Rattle.cat_types.specs.declared.steps.Step.{Step}
use Rattle.cat_types.specs.declared.steps.Step.TheVariants.{Client, DumpEnd, DumpEvents, DumpParts, DumpSeal, DumpTable, Trim}
use Rattle.desk.specs.History.{Entry}
use Rattle.desk.specs.Walks.{Began, DumpRun, Fails, Goes, MayFail, Moves, Place, Unbegun, Walked, Wanted, began_answer, begin_step, broken, done, end, events, parts, place_begun, seal, step_at, tables, unbegun, whole}
use Rattle.ms_calls.specs.declared.request.Asked.{Asked}
use Rattle.ms_calls.specs.declared.request.Asked.TheVariants as ask
use Rattle.repl_dump.specs.Dumps.{Dumps, NoneTold}
use Rattle.repl_dump.specs.declared.dumping.DumpAnswer.{DumpAnswer}
use Rattle.repl_dump.specs.declared.dumping.DumpAnswer.TheVariants as dumped
use Rattle.ms_session.specs.DumpLaws.{AreOpened, DumpsAreOpen, IsNoDump, IsThere, OnlyDumpsChangeFiles, StepsAreOpened, begun_by, needs, opened_after, opened_by}
use Rattle.ms_session.specs.DumpReplies.{IsTrimReply}
use Rattle.ms_session.specs.Requests.{asks}
use Rattle.ms_session.specs.Turns.{Carried, Due, Files, IsReplyTo, IsTurn, Shelf, Turn}
use Rattle.ms_session.specs.declared.end.End.TheVariants as ended
use Rattle.ms_session.proofs.Dumping.{same_step}

-- ---- entries lead from one opened dump to another

-- an entry isn't answered that its dump isn't open
abbrev IsKnown : Entry → Type 0
IsKnown e = e.1.answer ≢ answer.NotOpen

-- these entries of a caller need no dump but the one that it has opened by then, which is this one before them, and that one after them
record Keeps (from to : Option ℕ) (entries : List Entry) : Type 0 where
  pub opened : AreOpened from entries
  pub told : AllByRecursion IsKnown entries
  pub after : opened_by from entries ≡ to

keeps_none : (from to : Option ℕ) → from ≡ to → Keeps from to []
keeps_none from to is = record { opened = tt; told = tt; after = is }

keeps_both : (a b c : Option ℕ) (xs ys : List Entry) → Keeps a b xs → Keeps b c ys → Keeps a c (xs ++ ys)
keeps_both a b c [] ys one two = subst (λ (o : Option ℕ). Keeps o c ys) (sym one.after) two
keeps_both a b c (x ∷ xs) ys one two =
    let rest = keeps_both (opened_after a x.0.step x.1.answer) b c xs ys (record { opened = one.opened.1; told = one.told.1; after = one.after }) two in
    record { opened = (one.opened.0, rest.opened); told = (one.told.0, rest.told); after = rest.after }

-- one entry, by its step and its answer
keeps_one : (from to : Option ℕ) (e : Entry) (s : Step) (a : Answer) → e.0.step ≡ s → e.1.answer ≡ a → IsThere from (needs s) → a ≢ answer.NotOpen → opened_after from s a ≡ to → Keeps from to (e ∷ [])
keeps_one from to e s a step given there other after = record {
  opened = (subst (λ (t : Step). IsThere from (needs t)) (sym step) there, tt);
  told = ((λ no. other (sym given ∙ no)), tt);
  after = ap (λ (t : Step). opened_after from t e.1.answer) step ∙ ap (λ (b : Answer). opened_after from s b) given ∙ after;
}

-- ---- walks

-- the dump that a walk of this one has opened at a place
abbrev held_at : ℕ → Place → Option ℕ
held_at dump (tables after) = Some dump
held_at dump (parts table born after) = Some dump
held_at dump seal = Some dump
held_at dump (events after) = Some dump
held_at dump end = Some dump
held_at dump done = None

held_by : (dump : ℕ) (b : Bool) (x y : Place) → held_at dump x ≡ Some dump → held_at dump y ≡ Some dump → held_at dump (cond b x y) ≡ Some dump
held_by dump true x y one two = one
held_by dump false x y one two = two

before_end : (dump : ℕ) (place : Place) → place ≢ done → held_at dump place ≡ Some dump
before_end dump (tables after) other = refl
before_end dump (parts table born after) other = refl
before_end dump seal other = refl
before_end dump (events after) other = refl
before_end dump end other = refl
before_end dump done other = absurd (other refl)

at_begin : (dump begin : ℕ) (first : Option Item) → held_at dump (place_begun begin first) ≡ Some dump
at_begin dump begin None = refl
at_begin dump begin (Some first) = refl

-- the step of a place
abbrev Stepped : ℕ → Place → Place → Entry → Type 0
Stepped dump from to e = Keeps (held_at dump from) (held_at dump to) (e ∷ [])

stepped : (dump begin : ℕ) (from to : Place) (e : Entry) → step_at dump from ≡ Some e.0.step → Moves begin from e.1.answer to → Stepped dump from to e
stepped dump begin (tables after) to e is (inl m) =
    keeps_one (Some dump) (held_at dump to) e (DumpTable dump after) _ (sym (same_step _ _ is)) m.is refl (λ no. absurd cc) (sym (ap (held_at dump) m.next))
stepped dump begin (tables after) to e is (inr m) =
    keeps_one (Some dump) (held_at dump to) e (DumpTable dump after) answer.NoTable (sym (same_step _ _ is)) m.0 refl (λ no. absurd cc) (sym (ap (held_at dump) m.1))
stepped dump begin (parts table born after) to e is m =
    keeps_one (Some dump) (held_at dump to) e (DumpParts dump table born after) (answer.Parts m.items m.more) (sym (same_step _ _ is)) m.is refl (λ no. absurd cc)
    (sym (ap (held_at dump) m.next ∙ held_by dump m.more _ _ refl refl))
stepped dump begin seal to e is m =
    keeps_one (Some dump) (held_at dump to) e (DumpSeal dump) (answer.Sealed m.number) (sym (same_step _ _ is)) m.is refl (λ no. absurd cc) (sym (ap (held_at dump) m.next))
stepped dump begin (events after) to e is m =
    keeps_one (Some dump) (held_at dump to) e (DumpEvents dump after) (answer.Events m.found m.more) (sym (same_step _ _ is)) m.is refl (λ no. absurd cc)
    (sym (ap (held_at dump) m.next ∙ held_by dump m.more _ _ refl refl))
stepped dump begin end to e is m =
    keeps_one (Some dump) (held_at dump to) e (DumpEnd dump) answer.Ended (sym (same_step _ _ is)) m.0 refl (λ no. absurd cc) (sym (ap (held_at dump) m.1))
stepped dump begin done to e is m = absurd m

on_way : (dump begin : ℕ) (from : Place) (entries : List Entry) (to : Place) → Goes dump begin from entries to → Keeps (held_at dump from) (held_at dump to) entries
on_way dump begin from [] to goes = keeps_none (held_at dump from) (held_at dump to) (ap (held_at dump) goes)
on_way dump begin from (e ∷ es) to goes =
    keeps_both (held_at dump from) (held_at dump goes.1.0) (held_at dump to) (e ∷ []) es (stepped dump begin from goes.1.0 e goes.0 goes.1.1.0) (on_way dump begin goes.1.0 es to goes.1.1.1)

in_walk : (wanted : Wanted) (began : Began) (entries : List Entry) (to : Place) → Walked wanted began entries to → Keeps None (held_at began.dump to) entries
in_walk wanted began entries to w =
    let way = on_way began.dump began.begin (place_begun began.begin began.first) w.others to w.goes in
    let opened : Keeps (Some began.dump) (held_at began.dump to) w.others = subst (λ (o : Option ℕ). Keeps o (held_at began.dump to) w.others) (at_begin began.dump began.begin began.first) way in
    let first : Keeps None (Some began.dump) (w.beginning ∷ []) = keeps_one None (Some began.dump) w.beginning (begin_step wanted) (began_answer began) w.step w.answer tt (λ no. absurd cc) refl in
    subst (Keeps None (held_at began.dump to)) (sym w.is) (keeps_both None (Some began.dump) (held_at began.dump to) (w.beginning ∷ []) w.others first opened)

-- ---- walks that were broken off

failed_so : (dump : ℕ) (e : Entry) (s : Step) → e.0.step ≡ s → IsThere (Some dump) (needs s) → ((refusal : DumpRefusal) → opened_after (Some dump) s (answer.DumpRefused refusal) ≡ Some dump) → opened_after (Some dump) s answer.NoMemory ≡ Some dump
    → ((refusal : DumpRefusal) × (e.1.answer ≡ answer.DumpRefused refusal)) ⊎ (e.1.answer ≡ answer.NoMemory) → Keeps (Some dump) (Some dump) (e ∷ [])
failed_so dump e s step there refusing wanting (inl told) = keeps_one (Some dump) (Some dump) e s (answer.DumpRefused told.0) step told.1 there (λ no. absurd cc) (refusing told.0)
failed_so dump e s step there refusing wanting (inr told) = keeps_one (Some dump) (Some dump) e s answer.NoMemory step told there (λ no. absurd cc) wanting

failed_at : (dump : ℕ) (place : Place) (e : Entry) → Fails dump place e → Keeps (Some dump) (Some dump) (e ∷ [])
failed_at dump (tables after) e f = failed_so dump e (DumpTable dump after) (sym (same_step _ _ f.0)) refl (λ refusal. refl) refl f.1
failed_at dump (parts table born after) e f = failed_so dump e (DumpParts dump table born after) (sym (same_step _ _ f.0)) refl (λ refusal. refl) refl f.1
failed_at dump seal e f = failed_so dump e (DumpSeal dump) (sym (same_step _ _ f.0)) refl (λ refusal. refl) refl f.1
failed_at dump (events after) e f = failed_so dump e (DumpEvents dump after) (sym (same_step _ _ f.0)) refl (λ refusal. refl) refl f.1
failed_at dump end e f = failed_so dump e (DumpEnd dump) (sym (same_step _ _ f.0)) refl (λ refusal. refl) refl f.1
failed_at dump done e f = let none = f.0 in absurd cc

at_failure : (dump : ℕ) (place : Place) (failed : List Entry) → MayFail dump place failed → Keeps (Some dump) (Some dump) failed
at_failure dump place [] may = keeps_none (Some dump) (Some dump) refl
at_failure dump place (e ∷ []) may = failed_at dump place e may
at_failure dump place (e ∷ (other ∷ more)) may = absurd may

-- ---- dumps

none_begun : (a : Answer) → ((began : Began) → a ≢ began_answer began) → begun_by None a ≡ None
none_begun (answer.Began dump source born begin upto first) other = absurd (other (record { dump = dump; source = source; born = born; begin = begin; end = upto; first = first }) refl)
none_begun (answer.Reply told) other = refl
none_begun (answer.Table item) other = refl
none_begun answer.NoTable other = refl
none_begun (answer.Parts items more) other = refl
none_begun (answer.Sealed number) other = refl
none_begun (answer.Events found more) other = refl
none_begun answer.Ended other = refl
none_begun (answer.DumpRefused refusal) other = refl
none_begun (answer.Kept first) other = refl
none_begun answer.NotOpen other = refl
none_begun answer.StoreFault other = refl
none_begun answer.NoMemory other = refl

not_begun : (wanted : Wanted) (entries : List Entry) → Unbegun wanted entries → NoneTold answer.NotOpen entries → Keeps None None entries
not_begun wanted entries u none =
    let here : NoneTold answer.NotOpen (u.beginning ∷ []) = subst (NoneTold answer.NotOpen) u.is none in
    subst (Keeps None None) (sym u.is) (keeps_one None None u.beginning (begin_step wanted) u.beginning.1.answer u.step refl tt here.0 (none_begun u.beginning.1.answer u.answer))

in_run : (wanted : Wanted) (entries : List Entry) → DumpRun wanted entries → NoneTold answer.NotOpen entries → Keeps None None entries
in_run wanted entries (unbegun u) none = not_begun wanted entries u none
in_run wanted entries (whole began w) none = in_walk wanted began entries done w
in_run wanted entries (broken began b) none =
    let walked : Keeps None (Some began.dump) b.walked = subst (λ (o : Option ℕ). Keeps None o b.walked) (before_end began.dump b.place b.before_end) (in_walk wanted began b.walked b.place b.goes) in
    let ending : Keeps (Some began.dump) None (b.ending ∷ []) = keeps_one (Some began.dump) None b.ending (DumpEnd began.dump) answer.Ended b.ends.0 b.ends.1 refl (λ no. absurd cc) refl in
    subst (Keeps None None) (sym b.is)
    (keeps_both None (Some began.dump) None b.walked (b.failed ++ b.ending ∷ []) walked
    (keeps_both (Some began.dump) (Some began.dump) None b.failed (b.ending ∷ []) (at_failure began.dump b.place b.failed b.fails) ending))

in_dump : (wanted : Wanted) (given : DumpAnswer) (old new : Option Files) (entries : List Entry) → Dumps wanted given old new entries → Keeps None None entries
in_dump wanted (dumped.Done dir last) old new entries d = in_walk wanted d.began entries done d.walk
in_dump wanted (dumped.Refused refusal) old new entries d = in_run wanted entries d.0.run d.0.stays_open
in_dump wanted dumped.FolderFault old new entries d = in_run wanted entries d.run d.stays_open
in_dump wanted dumped.StoreFault old new entries d = in_run wanted entries d.0.run d.0.stays_open
in_dump wanted dumped.NoMemory old new entries (inl none) = subst (Keeps None None) (sym none.0) (keeps_none None None refl)
in_dump wanted dumped.NoMemory old new entries (inr d) = in_run wanted entries d.run d.stays_open

-- ---- messages

no_steps : (entries : List Entry) → entries ≡ [] → Keeps None None entries
no_steps entries none = subst (Keeps None None) (sym none) (keeps_none None None refl)

one_message : (asked : Asked) (entries : List Entry) (before after : Shelf) (due : Reply) → Due asked entries before after due → Keeps None None entries
one_message (ask.Client call) entries before after due d =
    subst (Keeps None None) (sym d.2) (keeps_one None None d.0 (Client call d.1) d.0.1.answer d.3 refl tt (λ no. subst (λ (a : Answer). IsReplyTo a due) no d.4) refl)
one_message (ask.Dump db from to limit) entries before after due d = in_dump _ d.0 before.files after.files entries d.1.dumps
one_message (ask.Trim upto) entries before after due d =
    subst (Keeps None None) (sym d.1) (keeps_one None None d.0 (Trim upto) d.0.1.answer d.2 refl tt (λ no. subst (λ (a : Answer). IsTrimReply a due) no d.3) refl)
one_message (ask.Plain told) entries before after due d = no_steps entries d.0
one_message ask.Unknown entries before after due d = no_steps entries d.0
one_message (ask.BadArgument id) entries before after due d = no_steps entries d.0
one_message ask.Shutdown entries before after due d = absurd d

all_messages : (turns : List Turn) → AllByRecursion IsTurn turns → Keeps None None (flat_map (λ turn. turn.entries) turns)
all_messages [] each = keeps_none None None refl
all_messages (t ∷ ts) each =
    keeps_both None None None t.entries (flat_map (λ (turn : Turn). turn.entries) ts) (one_message (asks t.message) t.entries t.before t.after each.0.0 each.0.1) (all_messages ts each.1)

-- messages that were carried out
carried_opened : (turns : List Turn) (bytes : List ℕ) (clock clock' : Option (List ℕ)) (shelf shelf' : Shelf) (entries : List Entry) → Carried turns bytes clock clock' shelf shelf' entries → DumpsAreOpen entries
carried_opened turns bytes clock clock' shelf shelf' entries c =
    let k : Keeps None None entries = subst (Keeps None None) (sym c.own) (all_messages turns c.each) in
    record { opened = k.opened; told = k.told; ended = k.after }

-- ---- sessions

pub steps_opened : StepsAreOpened
steps_opened before after ended.Done entries s = carried_opened s.turns s.taken before.clock after.clock before.shelf after.shelf entries s.carried
steps_opened before after ended.Shutdown entries s = carried_opened s.turns s.taken before.clock after.clock before.shelf after.shelf entries s.carried
steps_opened before after (ended.Truncated place) entries s = carried_opened s.turns s.taken before.clock after.clock before.shelf after.shelf entries s.carried
steps_opened before after (ended.BadWire code place) entries s = carried_opened s.turns s.taken before.clock after.clock before.shelf after.shelf entries s.carried
steps_opened before after (ended.TooLarge place) entries s = carried_opened s.turns s.taken before.clock after.clock before.shelf after.shelf entries s.carried
steps_opened before after ended.ReadFault entries s = carried_opened s.turns s.taken before.clock after.clock before.shelf after.shelf entries s.carried
steps_opened before after ended.WriteFault entries s = carried_opened (s.turns ++ s.last ∷ []) s.taken before.clock after.clock before.shelf after.shelf entries s.carried
steps_opened before after ended.NoMemory entries (inl s) = carried_opened s.turns s.taken before.clock after.clock before.shelf after.shelf entries s.carried
steps_opened before after ended.NoMemory entries (inr s) = carried_opened (s.turns ++ s.last ∷ []) s.taken before.clock after.clock before.shelf after.shelf entries s.carried

-- ---- the folder

no_change : (asked : Asked) (entries : List Entry) (before after : Shelf) (due : Reply) → Due asked entries before after due → IsNoDump asked → after ≡ before
no_change (ask.Client call) entries before after due d free = d.5
no_change (ask.Dump db from to limit) entries before after due d free = absurd free
no_change (ask.Trim upto) entries before after due d free = d.4
no_change (ask.Plain told) entries before after due d free = d.2
no_change ask.Unknown entries before after due d free = d.2
no_change (ask.BadArgument id) entries before after due d free = d.2
no_change ask.Shutdown entries before after due d free = absurd d

each_stays : (turns : List Turn) → AllByRecursion IsTurn turns → AllByRecursion (λ (turn : Turn). IsNoDump (asks turn.message) → turn.after ≡ turn.before) turns
each_stays [] each = tt
each_stays (t ∷ ts) each = (no_change (asks t.message) t.entries t.before t.after each.0.0 each.0.1, each_stays ts each.1)

pub only_dumps : OnlyDumpsChangeFiles
only_dumps turns bytes clock clock' shelf shelf' entries carried = each_stays turns carried.each
