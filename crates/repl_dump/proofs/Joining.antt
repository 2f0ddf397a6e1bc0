-- A whole dump: its beginning, and what comes after it.
use Rattle.std.proofs.Common.{◌≡◌, ◌≢◌, ◌==◌, ℕ, ℤ, Bool, true, false, not, cond, List, [], ◌∷◌, ◌++◌, map, Option, Some, None, refl, sym, ◌∙◌, ap, subst, inl, inr, eq-eqb}
use Rattle.std.specs.Prelude.{◌&&◌}
use Rattle.cat_types.specs.declared.items.Item.{Item}
use Rattle.cat_types.specs.declared.steps.Answer.{Answer}
use Rattle.cat_types.specs.declared.steps.Answer.TheVariants as answer
use Rattle.cat_types.specs.declared.steps.DumpRefusal.{DumpRefusal}
use Rattle.cat_types.specs.declared.steps.Step.TheVariants.{DumpBegin}
use Rattle.cat_objects.specs.Catalogue.{database}
use Rattle.cat_objects.specs.declared.held.HeldDb.{HeldDb}
use Rattle.cat_values.specs.Names.{lower}
use Rattle.desk.specs.History.{Entry, Legal, Point, Start, point_after, point_of, state_after, took}
use Rattle.desk.specs.State.{Beginning, MayAnswer, State, asked_for, begin_answer, beginning, beginning_by, due_answer, dumps_begun, opens, refused_dump, unbegun}
use Rattle.desk.specs.Walks.{Began, Wanted, begin_step, began_answer, place_begun}
use Rattle.desk.specs.Walks as walk
use Rattle.dump_manifest.specs.Manifests.{dir_text}
use Rattle.dump_steps.specs.Open.{is_dump, open_dump, without_dump}
use Rattle.dump_steps.specs.Pieces.{begun, first_item, kind_of}
use Rattle.dump_steps.specs.declared.open_dumps.OpenDump.{OpenDump}
use Rattle.dump_steps.specs.declared.ranges.Asked.{Asked}
use Rattle.hms_outside.specs.Told.{Goes as Leads}
use Rattle.repl_dump.specs.Beginnings.{AnswersBegin, Unbegins}
use Rattle.repl_dump.specs.Dumps.{Dumps, IsBroken, NoneTold}
use Rattle.repl_dump.specs.Endings.{EndsBroken, EndsSo}
use Rattle.repl_dump.specs.Files.{Files, OthersStay, OutsideStays}
use Rattle.repl_dump.specs.Opened.{Takes, allows}
use Rattle.repl_dump.specs.declared.dumping.DumpAnswer.{DumpAnswer}
use Rattle.repl_dump.specs.declared.dumping.DumpAnswer.TheVariants as dumped
use Rattle.repl_dump.proofs.NotOpen.{began_apart, ends_open}
use Rattle.repl_dump.proofs.Staying.{last_follows, point_on}
use Rattle.repl_dump.proofs.Turning.{entry_of}

-- ---- how the first step is answered

begin_fits : (id : List ℕ) (b : Beginning) → AnswersBegin (begin_answer id b)
begin_fits id (unbegun refusal) = tt
begin_fits id (opens dump first) = tt

pub answers_begin : (s : State) (before me after : ℕ) (db : List ℕ) (from to limit : Option ℤ) (given : Answer) → MayAnswer s before me (DumpBegin db from to limit) given after → AnswersBegin given
answers_begin s before me after db from to limit given may = by given may
  where
    fits : AnswersBegin (due_answer s me (DumpBegin db from to limit))
    fits = begin_fits s.id (beginning s me db (asked_for from to limit))

    by : (a : Answer) → MayAnswer s before me (DumpBegin db from to limit) a after → AnswersBegin a
    by (answer.Reply reply) m = subst AnswersBegin (sym m) fits
    by (answer.Began dump source born begin end first) m = tt
    by (answer.Table table) m = subst AnswersBegin (sym m) fits
    by answer.NoTable m = subst AnswersBegin (sym m) fits
    by (answer.Parts parts more) m = subst AnswersBegin (sym m) fits
    by (answer.Sealed end) m = subst AnswersBegin (sym m) fits
    by (answer.Events events more) m = subst AnswersBegin (sym m) fits
    by answer.Ended m = subst AnswersBegin (sym m) fits
    by (answer.DumpRefused refusal) m = tt
    by (answer.Kept first) m = subst AnswersBegin (sym m) fits
    by answer.NotOpen m = subst AnswersBegin (sym m) fits
    by answer.StoreFault m = tt
    by answer.NoMemory m = tt

-- the same of the last entry of a legal history
pub begin_answered : (me : ℕ) (start : Start) (before : List Entry) (wanted : Wanted) (given : Answer) (fault : ℕ) → Legal start (before ++ entry_of me (begin_step wanted) given fault ∷ []) → AnswersBegin given
begin_answered me start before wanted given fault legal =
    answers_begin (state_after start before) (point_after (point_of start) (map took before)).fault me fault wanted.db wanted.from wanted.to wanted.limit given (last_follows (point_of start) before (entry_of me (begin_step wanted) given fault) legal).1

-- ---- the dump that was begun is open

begun_found : (me n : ℕ) (dump : OpenDump) (dumps : List OpenDump) → is_dump me n dump ≡ true → open_dump me n (without_dump me n dumps ++ dump ∷ []) ≡ Some dump
begun_found me n dump [] is = ap (λ (b : Bool). cond b (Some dump) None) is
begun_found me n dump (x ∷ xs) is = by (is_dump me n x) refl (begun_found me n dump xs is)
  where
    by : (b : Bool) → is_dump me n x ≡ b → open_dump me n (without_dump me n xs ++ dump ∷ []) ≡ Some dump
        → open_dump me n (cond (not b) (x ∷ without_dump me n xs) (without_dump me n xs) ++ dump ∷ []) ≡ Some dump
    by true its later = later
    by false its later = ap (λ (b : Bool). cond b (Some x) (open_dump me n (without_dump me n xs ++ dump ∷ []))) its ∙ later

-- the open dump, and which step it takes
abbrev Opens : ℕ → Began → List OpenDump → Type 0
Opens me began dumps = (dump : OpenDump) × (open_dump me began.dump dumps ≡ Some dump) × (allows (place_begun began.begin began.first) dump.kind ≡ true)

-- the first place takes the step of the dump's kind
first_allowed : (newest begin : ℕ) (from : Option ℤ) (held : HeldDb) (first : Option Item) → first ≡ first_item (kind_of from) newest held → allows (place_begun begin first) (kind_of from) ≡ true
first_allowed newest begin None held first is = ap (λ (f : Option Item). allows (place_begun begin f) (kind_of None)) is
first_allowed newest begin (Some n) held first is = ap (λ (f : Option Item). allows (place_begun begin f) (kind_of (Some n))) is

opened_begun : (s : State) (me : ℕ) (db : List ℕ) (asked : Asked) (began : Began) → began_answer began ≡ begin_answer s.id (beginning s me db asked) → Opens me began (dumps_begun s.dumps (beginning s me db asked))
opened_begun s me db asked began told = by (refused_dump s db asked) (database s.catalogue (lower db)) told
  where
    by : (r : Option DumpRefusal) (h : Option HeldDb) → began_answer began ≡ begin_answer s.id (beginning_by r h s me (lower db) asked) → Opens me began (dumps_begun s.dumps (beginning_by r h s me (lower db) asked))
    by (Some refusal) h is = absurd cc
    by None None is = absurd cc
    by None (Some held) is =
        let dump : OpenDump = begun me (lower db) held.born s.newest s.last_dump asked in
        let number : began.dump ≡ dump.number = cc in
        let first : began.first ≡ first_item (kind_of asked.from) s.newest held = cc in (
          dump,
          subst (λ (n : ℕ). open_dump me n (without_dump me dump.number s.dumps ++ dump ∷ []) ≡ Some dump) (sym number)
              (begun_found me dump.number dump s.dumps (ap (λ (b : Bool). b && (dump.number == dump.number)) (eq-eqb me me refl) ∙ eq-eqb dump.number dump.number refl)),
          first_allowed s.newest began.begin asked.from held began.first first,
        )

pub begun_takes : (me : ℕ) (start : Start) (before : List Entry) (wanted : Wanted) (began : Began) (given : Answer) (fault : ℕ) → given ≡ began_answer began → Legal start (before ++ entry_of me (begin_step wanted) given fault ∷ [])
    → Takes (allows (place_begun began.begin began.first)) me began.dump start (before ++ entry_of me (begin_step wanted) given fault ∷ [])
begun_takes me start before wanted began given fault is legal =
    subst (λ (a : Answer). Takes (allows (place_begun began.begin began.first)) me began.dump start (before ++ entry_of me (begin_step wanted) a fault ∷ [])) (sym is)
    (of (subst (λ (a : Answer). Legal start (before ++ entry_of me (begin_step wanted) a fault ∷ [])) is legal))
  where
    of : Legal start (before ++ entry_of me (begin_step wanted) (began_answer began) fault ∷ []) → Takes (allows (place_begun began.begin began.first)) me began.dump start (before ++ entry_of me (begin_step wanted) (began_answer began) fault ∷ [])
    of ok =
        let may = (last_follows (point_of start) before (entry_of me (begin_step wanted) (began_answer began) fault) ok).1 in
        let found = opened_begun (state_after start before) me wanted.db (asked_for wanted.from wanted.to wanted.limit) began may in
        record {
          dump = found.0;
          opened = ap (λ (p : Point). open_dump me began.dump p.state.dumps) (point_on (point_of start) before (entry_of me (begin_step wanted) (began_answer began) fault ∷ [])) ∙ found.1;
          allowed = found.2;
        }

-- ---- what the whole dump did

-- the directory of what was begun is one, however it is found
same_dir : (db : List ℕ) (began other : Began) (given : Answer) → given ≡ began_answer began → given ≡ began_answer other → dir_text began.source began.dump ≡ dir_text other.source other.dump
same_dir db began other given is its =
    let both : began_answer began ≡ began_answer other = sym is ∙ its in
    let source : began.source ≡ other.source = cc in
    let dump : began.dump ≡ other.dump = cc in
    ap (λ (s : List ℕ). dir_text s began.dump) source ∙ ap (λ (n : ℕ). dir_text other.source n) dump

broken_open : {stays : List ℕ → Files → Files → Type 0} (began : Began) (first : Entry) (own : List Entry) {old new : Option Files} → first.1.answer ≡ began_answer began → EndsBroken stays began own old new → NoneTold answer.NotOpen (first ∷ own)
broken_open began first own told ends = (λ q. began_apart began (sym told ∙ q), ends_open began.dump began.begin (place_begun began.begin began.first) ends.place own ends.walked ends.failed ends.ending ends.is ends.goes ends.fails ends.ends.1)

is_broken : (stays : List ℕ → Files → Files → Type 0) (wanted : Wanted) (began : Began) (first : Entry) (old new : Option Files) (own : List Entry) → first.0.step ≡ begin_step wanted → first.1.answer ≡ began_answer began → EndsBroken stays began own old new → IsBroken stays wanted (first ∷ own) old new
is_broken stays wanted began first old new own step told ends = record {
  run = walk.broken began (record {
    place = ends.place;
    walked = first ∷ ends.walked;
    failed = ends.failed;
    ending = ends.ending;
    is = ap (λ (l : List Entry). first ∷ l) ends.is;
    goes = record { beginning = first; others = ends.walked; is = refl; step = step; answer = told; goes = ends.goes };
    before_end = ends.before_end;
    fails = ends.fails;
    ends = ends.ends;
  });
  stays_open = broken_open began first own told ends;
  files = record {
    unbegun = λ none. absurd (none began told);
    begun = λ other its. subst (λ (d : List ℕ). Leads (stays d) old new) (same_dir (lower wanted.db) began other first.1.answer told its) ends.others;
  };
}

pub dumps_whole : (wanted : Wanted) (began : Began) (first : Entry) (result : DumpAnswer) (old new : Option Files) (own : List Entry) → first.0.step ≡ begin_step wanted → first.1.answer ≡ began_answer began
    → EndsSo (lower wanted.db) began result old new own → Dumps wanted result old new (first ∷ own)
dumps_whole wanted began first (dumped.Done dir last) old new own step told ends = record {
  began = began;
  walk = record { beginning = first; others = own; is = refl; step = step; answer = told; goes = ends.goes };
  dir_is = ends.dir_is;
  last_is = ends.last_is;
  text = ends.text;
}
dumps_whole wanted began first (dumped.Refused refusal) old new own step told ends = (is_broken OthersStay wanted began first old new own step told ends.0, inr ends.1)
dumps_whole wanted began first dumped.FolderFault old new own step told ends = is_broken OutsideStays wanted began first old new own step told ends
dumps_whole wanted began first dumped.StoreFault old new own step told ends = absurd ends
dumps_whole wanted began first dumped.NoMemory old new own step told ends = inr (is_broken OthersStay wanted began first old new own step told ends)

-- an answer that begins none
none_begun : (stays : List ℕ → Files → Files → Type 0) (wanted : Wanted) (first : Entry) (files : Option Files) → first.0.step ≡ begin_step wanted → ((began : Began) → first.1.answer ≢ began_answer began) → first.1.answer ≢ answer.NotOpen → IsBroken stays wanted (first ∷ []) files files
none_begun stays wanted first files step none opened = record {
  run = walk.unbegun (record { beginning = first; is = refl; step = step; answer = none });
  stays_open = (opened, tt);
  files = record { unbegun = λ not. refl; begun = λ began told. absurd (none began told) };
}

pub dumps_unbegun : (wanted : Wanted) (first : Entry) (result : DumpAnswer) (files : Option Files) → first.0.step ≡ begin_step wanted → Unbegins result first.1.answer → Dumps wanted result files files (first ∷ [])
dumps_unbegun wanted first (dumped.Done dir last) files step told = absurd told
dumps_unbegun wanted first (dumped.Refused refusal) files step told = (none_begun OthersStay wanted first files step (λ began is. absurd (refused_apart refusal began (sym told ∙ is))) (λ q. closed refusal (sym told ∙ q)), inl told)
  where
    refused_apart : (r : DumpRefusal) (b : Began) → answer.DumpRefused r ≡ began_answer b → ⊥
    refused_apart r b q = absurd cc

    closed : (r : DumpRefusal) → answer.DumpRefused r ≡ answer.NotOpen → ⊥
    closed r q = absurd cc
dumps_unbegun wanted first dumped.FolderFault files step told = absurd told
dumps_unbegun wanted first dumped.StoreFault files step told = (none_begun OthersStay wanted first files step (λ began is. absurd (fault_apart began (sym told ∙ is))) (λ q. closed (sym told ∙ q)), told)
  where
    fault_apart : (b : Began) → answer.StoreFault ≡ began_answer b → ⊥
    fault_apart b q = absurd cc

    closed : answer.StoreFault ≡ answer.NotOpen → ⊥
    closed q = absurd cc
dumps_unbegun wanted first dumped.NoMemory files step told = inr (none_begun OthersStay wanted first files step (λ began is. absurd (memory_apart began (sym told ∙ is))) (λ q. closed (sym told ∙ q)))
  where
    memory_apart : (b : Began) → answer.NoMemory ≡ began_answer b → ⊥
    memory_apart b q = absurd cc

    closed : answer.NoMemory ≡ answer.NotOpen → ⊥
    closed q = absurd cc
