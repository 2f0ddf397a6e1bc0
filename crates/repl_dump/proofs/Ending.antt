-- How a dump that was begun ends.
use Rattle.std.proofs.Common.{◌≡◌, ◌≢◌, ℕ, Bool, List, [], ◌∷◌, ◌++◌, map, codes, Option, Some, None, Result, Err, refl, sym, ◌∙◌, ap, subst, inl, inr, append_assoc, arith}
use Rattle.std.proofs.lemmas.List.{append-nil, append_cancel_left, map-append}
use Rattle.cat_types.specs.declared.items.Item.{Item}
use Rattle.cat_types.specs.declared.steps.Answer.{Answer}
use Rattle.cat_types.specs.declared.steps.Answer.TheVariants as answer
use Rattle.cat_types.specs.declared.steps.Step.TheVariants.{DumpEnd}
use Rattle.desk.specs.History.{Entry}
use Rattle.desk.specs.Walks.{Began, Goes, Place, began_answer, done, place_begun}
use Rattle.desk.specs.Walks as walk
use Rattle.dump_manifest.specs.Manifests.{dir_text, manifest_code}
use Rattle.dump_texts.specs.Texts.{at_path, dump_text, end_told, event_texts, files_from, files_told, item_texts, items_text, line_of, manifest_told, name_at, path_in}
use Rattle.dump_texts.specs.declared.kinds.FileKind.{FileKind}
use Rattle.dump_texts.specs.declared.kinds.FileKind.TheVariants.{EventFile, ItemFile}
use Rattle.dump_texts.proofs.Told.{event_texts_both, item_texts_both}
use Rattle.std.specs.Prelude.{is_some}
use Rattle.std.specs.BTreeMap.{insert_entry}
use Rattle.std.specs.Cmp.Lexicographic.{slice_cmp}
use Rattle.std.specs.Ordering.{nat_cmp}
use Rattle.hms_outside.specs.Folders.{Puts, file}
use Rattle.hms_outside.specs.Told.{Goes as Leads, Same}
use Rattle.hms_outside.specs.declared.outage.Outage.{Outage}
use Rattle.hms_outside.specs.declared.outage.Outage.TheVariants as outages
use Rattle.repl_dump.specs.Beginnings.{began_of, manifest_of}
use Rattle.repl_dump.specs.Dumps.{SomeTold}
use Rattle.repl_dump.specs.Endings.{EndsBroken, EndsSo, StandsBegun, StaysBy, dir_of, failed_answer}
use Rattle.repl_dump.specs.Files.{Files, Gained, HasPut, HasWritten, IsAmong, OthersStay, OutsideStays, begun_of}
use Rattle.repl_dump.specs.Turns.{IsOwn, Stopped, ToldBy}
use Rattle.repl_dump.specs.Walking.{Wrote, answers_of}
use Rattle.repl_dump.specs.declared.beginning.Beginning.{Beginning}
use Rattle.repl_dump.specs.declared.dumping.DumpAnswer.TheVariants as dumped
use Rattle.repl_dump.specs.declared.failure.Failure.{Failure}
use Rattle.repl_dump.specs.declared.failure.Failure.TheVariants as failure
use Rattle.repl_dump.specs.declared.writer.Writer.{Writer}
use Rattle.repl_dump.proofs.Growing.{end_more}
use Rattle.repl_dump.proofs.Putting.{gained_none, stays_both}
use Rattle.repl_dump.proofs.Standing.{among_files, grown}
use Rattle.repl_dump.proofs.Stepping.{goes_both}
use Rattle.repl_dump.proofs.Writing.{put_text}

-- ---- folders

pub leads_same : (dir : List ℕ) (now : Option Files) → Leads (OthersStay dir) now now
leads_same dir None = tt
leads_same dir (Some files) = λ name outside. refl

pub leads_both : (dir : List ℕ) (old mid new : Option Files) → Leads (OthersStay dir) old mid → Leads (OthersStay dir) mid new → Leads (OthersStay dir) old new
leads_both dir None mid new a b = tt
leads_both dir (Some f) None new a b = absurd a
leads_both dir (Some f) (Some g) None a b = b
leads_both dir (Some f) (Some g) (Some h) a b = stays_both dir f g h a b

-- the same of an equal directory
pub leads_as : (one dir : List ℕ) (old new : Option Files) → one ≡ dir → Leads (OthersStay one) old new → Leads (OthersStay dir) old new
leads_as one dir old new is h = subst (λ (d : List ℕ). Leads (OthersStay d) old new) is h

outside : (dir : List ℕ) (old new : Files) → OthersStay dir old new → OutsideStays dir old new
outside dir old new h = λ name apart. h name (λ kind place. apart (name_at kind place))

-- what stays while files are written stays after each failure
pub stays_by : (failed : Failure) (dir : List ℕ) (old new : Option Files) → Leads (OthersStay dir) old new → Leads (StaysBy failed dir) old new
stays_by (failure.Refused refusal) dir old new h = h
stays_by failure.FolderFault dir None new h = tt
stays_by failure.FolderFault dir (Some f) None h = h
stays_by failure.FolderFault dir (Some f) (Some g) h = outside dir f g h
stays_by failure.NoMemory dir old new h = h

-- and so it does where the manifest is written after them
pub stays_then : (failed : Failure) (dir : List ℕ) (old mid new : Option Files) → Leads (OthersStay dir) old mid → Leads (StaysBy failed dir) mid new → Leads (StaysBy failed dir) old new
stays_then (failure.Refused refusal) dir old mid new a b = leads_both dir old mid new a b
stays_then failure.FolderFault dir None mid new a b = tt
stays_then failure.FolderFault dir (Some f) None new a b = absurd a
stays_then failure.FolderFault dir (Some f) (Some g) None a b = b
stays_then failure.FolderFault dir (Some f) (Some g) (Some h) a b = λ name apart. b name apart ∙ outside dir f g a name apart
stays_then failure.NoMemory dir old mid new a b = leads_both dir old mid new a b

-- ---- the first file

-- a writer that wrote nothing
abbrev pub NewWriter : Began → Writer → Type 0
NewWriter began writer = writer ≡ record { dir = dir_text began.source began.dump; items = 0; events = 0; end = began.end; files = [] }

no_text : (now : Option Files) → Leads (Gained []) now now
no_text None = tt
no_text (Some files) = gained_none files files refl

-- without a first item nothing is written
pub stands_none : (began : Began) (writer : Writer) (now : Option Files) → began.first ≡ None → NewWriter began writer → StandsBegun began [] now (walk.events began.begin) writer now
stands_none began writer now none new = subst (λ (first : Option Item). StandsBegun (record { dump = began.dump; source = began.source; born = began.born; begin = began.begin; end = began.end; first = first }) [] now (walk.events began.begin) writer now) (sym none)
    (subst (λ (w : Writer). StandsBegun (record { dump = began.dump; source = began.source; born = began.born; begin = began.begin; end = began.end; first = None }) [] now (walk.events began.begin) w now) (sym new)
    (record { written = record { dir_is = refl; end_is = refl; lines = refl; items = refl; events = refl }; ordered = tt; text = no_text now }))

-- the first item is the first file
pub stands_some : (began : Began) (item : Item) (old new : Writer) (before after : Option Files) → began.first ≡ Some item → NewWriter began old → HasPut ItemFile (items_text (item ∷ [])) old new before after
    → StandsBegun began [] before (walk.tables None) new after
stands_some began item old new before after some is put = subst (λ (first : Option Item). StandsBegun (record { dump = began.dump; source = began.source; born = began.born; begin = began.begin; end = began.end; first = first }) [] before (walk.tables None) new after) (sym some)
    (by (subst (λ (w : Writer). HasPut ItemFile (items_text (item ∷ [])) w new before after) is put))
  where
    by : HasPut ItemFile (items_text (item ∷ [])) (record { dir = dir_text began.source began.dump; items = 0; events = 0; end = began.end; files = [] }) new before after
        → StandsBegun (record { dump = began.dump; source = began.source; born = began.born; begin = began.begin; end = began.end; first = Some item }) [] before (walk.tables None) new after
    by h = record { written = record { dir_is = h.dir_stays; end_is = h.end_stays; lines = h.lines; items = h.items; events = h.events }; ordered = refl; text = h.text }

-- ---- the files of the walk

pub begun_unfinished : (began : Began) → place_begun began.begin began.first ≢ done
begun_unfinished began = by began.first
  where
    by : (first : Option Item) → place_begun began.begin first ≢ done
    by None = λ q. absurd cc
    by (Some item) = λ q. absurd cc

-- what was written from the first place to the end
pub writes_all : (began : Began) (place : Place) (old new : Writer) (first before after : Option Files) (own : List Entry) → place ≡ place_begun began.begin began.first → StandsBegun began [] first place old before
    → Wrote began.dump began.begin place walk.end old new before after own
    → Goes began.dump began.begin (place_begun began.begin began.first) own walk.end × StandsBegun began (answers_of own) first walk.end new after
writes_all began place old new first before after own is stands wrote =
    (subst (λ (p : Place). Goes began.dump began.begin p own walk.end) is wrote.goes, wrote.stands (dir_of began) began.end (began_answer began ∷ []) first stands)

pub stopped_as : (began : Began) (place : Place) (failed : Failure) (own : List Entry) → place ≡ place_begun began.begin began.first → Stopped began.dump began.begin place failed own
    → Stopped began.dump began.begin (place_begun began.begin began.first) failed own
stopped_as began place failed own is stopped = subst (λ (p : Place). Stopped began.dump began.begin p failed own) is stopped

-- ---- the end of a dump that was broken off

-- an entry ends a dump
abbrev pub Ends : Began → Entry → Type 0
Ends began entry = (entry.0.step ≡ DumpEnd began.dump) × (entry.1.answer ≡ answer.Ended)

told_behind : (given : Answer) (xs ys : List Entry) → SomeTold given ys → SomeTold given (xs ++ ys)
told_behind given [] ys told = told
told_behind given (x ∷ xs) ys told = inr (told_behind given xs ys told)

-- it is told by the step that failed
told_there : (refusal : _) (failed more : List Entry) → ToldBy (failure.Refused refusal) failed → SomeTold (answer.DumpRefused refusal) (failed ++ more)
told_there refusal [] more told = absurd told
told_there refusal (x ∷ xs) more told = inl told

broken_off : (began : Began) (failed : Failure) (own : List Entry) (ending : Entry) (old new : Option Files) → Stopped began.dump began.begin (place_begun began.begin began.first) failed own → Ends began ending
    → Leads (StaysBy failed (dir_of began)) old new → EndsBroken (StaysBy failed) began (own ++ ending ∷ []) old new
broken_off began failed own ending old new stopped ends others = record {
  place = stopped.place;
  walked = stopped.walked;
  failed = stopped.failed;
  ending = ending;
  is = ap (λ (l : List Entry). l ++ ending ∷ []) stopped.is ∙ append_assoc stopped.walked stopped.failed (ending ∷ []);
  goes = stopped.goes;
  before_end = stopped.unfinished;
  fails = stopped.fails;
  ends = ends;
  others = others;
}

pub ends_stopped : (db : List ℕ) (began : Began) (failed : Failure) (own : List Entry) (ending : Entry) (old new : Option Files) → Stopped began.dump began.begin (place_begun began.begin began.first) failed own → Ends began ending
    → Leads (StaysBy failed (dir_of began)) old new → EndsSo db began (failed_answer failed) old new (own ++ ending ∷ [])
ends_stopped db began (failure.Refused refusal) own ending old new stopped ends others = (
  broken_off began (failure.Refused refusal) own ending old new stopped ends others,
  subst (λ (l : List Entry). SomeTold (answer.DumpRefused refusal) l) (sym (ap (λ (l : List Entry). l ++ ending ∷ []) stopped.is ∙ append_assoc stopped.walked stopped.failed (ending ∷ [])))
      (told_behind (answer.DumpRefused refusal) stopped.walked (stopped.failed ++ ending ∷ []) (told_there refusal stopped.failed (ending ∷ []) stopped.told)),
)
ends_stopped db began failure.FolderFault own ending old new stopped ends others = broken_off began failure.FolderFault own ending old new stopped ends others
ends_stopped db began failure.NoMemory own ending old new stopped ends others = broken_off began failure.NoMemory own ending old new stopped ends others

-- the manifest couldn't be written
unwritten : (began : Began) (failed : Failure) (own : List Entry) → IsOwn failed → Goes began.dump began.begin (place_begun began.begin began.first) own walk.end
    → Stopped began.dump began.begin (place_begun began.begin began.first) failed own
unwritten began failed own is goes = record { place = walk.end; walked = own; failed = []; is = sym (append-nil own); goes = goes; unfinished = λ q. absurd cc; fails = tt; told = by failed is }
  where
    by : (f : Failure) → IsOwn f → ToldBy f []
    by (failure.Refused refusal) own_one = absurd own_one
    by failure.FolderFault own_one = tt
    by failure.NoMemory own_one = tt

pub ends_unwritten : (db : List ℕ) (began : Began) (failed : Failure) (own : List Entry) (ending : Entry) (old new : Option Files) → IsOwn failed → Goes began.dump began.begin (place_begun began.begin began.first) own walk.end → Ends began ending
    → Leads (StaysBy failed (dir_of began)) old new → EndsSo db began (failed_answer failed) old new (own ++ ending ∷ [])
ends_unwritten db began failed own ending old new is goes ends others = ends_stopped db began failed own ending old new (unwritten began failed own is goes) ends others

-- ---- the end of a whole dump

-- the answers with the end behind them
with_end : (own : List Entry) (ending : Entry) → ending.1.answer ≡ answer.Ended → answers_of (own ++ ending ∷ []) ≡ answers_of own ++ answer.Ended ∷ []
with_end own ending is = map-append (λ (entry : Entry). entry.1.answer) own (ending ∷ []) ∙ ap (λ (a : Answer). answers_of own ++ a ∷ []) is

-- an end makes no file
same_files : (answers : List Answer) → files_told (answers ++ answer.Ended ∷ []) ≡ files_told answers
same_files answers =
    ap (λ (l : List (List ℕ)). files_from ItemFile 0 l ++ files_from EventFile 0 (event_texts (answers ++ answer.Ended ∷ []))) (item_texts_both answers (answer.Ended ∷ []) ∙ append-nil (item_texts answers))
    ∙ ap (λ (l : List (List ℕ)). files_from ItemFile 0 (item_texts answers) ++ files_from EventFile 0 l) (event_texts_both answers (answer.Ended ∷ []) ∙ append-nil (event_texts answers))

-- a dump's end stays
same_end : (end : ℕ) (answers : List Answer) → end_told end (answers ++ answer.Ended ∷ []) ≡ end_told end answers
same_end end answers = end_more end answers answer.Ended

-- the text of a dump whose last answer was its end
text_is : (db : List ℕ) (began : Began) (answers : List Answer) → dump_text (begun_of db began) (answers ++ answer.Ended ∷ [])
    ≡ map (at_path (dir_of began)) (files_told (began_answer began ∷ answers)) ++ (path_in (dir_of began) (codes "manifest"), manifest_code (manifest_told (begun_of db began) answers)) ∷ []
text_is db began answers =
    ap (λ (l : Files). map (at_path (dir_of began)) (l ++ (
      codes "manifest",
      manifest_code (record {
        source = began.source;
        db = db;
        dump = began.dump;
        bootstrap = (manifest_told (begun_of db began) answers).bootstrap;
        begin = began.begin;
        end = end_told began.end (answers ++ answer.Ended ∷ []);
        born = began.born;
        files = map line_of l;
      }),
    ) ∷ [])) (same_files (began_answer began ∷ answers))
    ∙ (ap (λ (n : ℕ). map (at_path (dir_of began)) (files_told (began_answer began ∷ answers) ++ (
      codes "manifest",
      manifest_code (record {
        source = began.source;
        db = db;
        dump = began.dump;
        bootstrap = (manifest_told (begun_of db began) answers).bootstrap;
        begin = began.begin;
        end = n;
        born = began.born;
        files = map line_of (files_told (began_answer began ∷ answers));
      }),
    ) ∷ [])) (same_end began.end answers)
    ∙ map-append (at_path (dir_of began)) (files_told (began_answer began ∷ answers)) ((codes "manifest", manifest_code (manifest_told (begun_of db began) answers)) ∷ []))

-- the second letter
abbrev second : List ℕ → ℕ
second (a ∷ (b ∷ l)) = b
second other = 0

-- no file of a dump is called like the manifest
no_manifest : (dir : List ℕ) (kind : FileKind) (n : ℕ) → path_in dir (codes "manifest") ≡ path_in dir (name_at kind n) → ⊥
no_manifest dir ItemFile n same = let no : 109 ≡ 105 = ap second (append_cancel_left dir (codes "/" ++ codes "manifest") (codes "/" ++ name_at ItemFile n) same) in absurd (omega (arith, no))
no_manifest dir EventFile n same = let no : 109 ≡ 101 = ap second (append_cancel_left dir (codes "/" ++ codes "manifest") (codes "/" ++ name_at EventFile n) same) in absurd (omega (arith, no))

manifest_is_new : (dir : List ℕ) (items events : List (List ℕ)) → IsAmong (path_in dir (codes "manifest")) (map (at_path dir) (files_from ItemFile 0 items ++ files_from EventFile 0 events)) → ⊥
manifest_is_new dir items events is = let found = among_files dir items events (path_in dir (codes "manifest")) is in no_manifest dir found.0 found.1 found.2

-- the manifest of what was written is the one that is told
manifest_is : (db : List ℕ) (beginning : Beginning) (answers : List Answer) (writer : Writer) → HasWritten (dir_of (began_of beginning)) beginning.end (began_answer (began_of beginning) ∷ answers) writer
    → manifest_of db beginning writer ≡ manifest_told (begun_of db (began_of beginning)) answers
manifest_is db beginning answers writer was =
    ap (λ (n : ℕ). manifest_of db beginning (record { dir = writer.dir; items = writer.items; events = writer.events; end = n; files = writer.files })) was.end_is
    ∙ ap (λ l. manifest_of db beginning (record { dir = writer.dir; items = writer.items; events = writer.events; end = end_told beginning.end answers; files = l })) was.lines

pub ends_done : (db : List ℕ) (beginning : Beginning) (own : List Entry) (ending : Entry) (writer : Writer) (first between last : Option Files) → Ends (began_of beginning) ending
    → Goes beginning.dump beginning.begin (place_begun beginning.begin beginning.first) own walk.end → StandsBegun (began_of beginning) (answers_of own) first walk.end writer between
    → Leads (Gained ((path_in writer.dir (codes "manifest"), manifest_code (manifest_of db beginning writer)) ∷ [])) between last
    → EndsSo db (began_of beginning) (dumped.Done writer.dir writer.end) first last (own ++ ending ∷ [])
ends_done db beginning own ending writer first between last ends goes stands put = record {
  goes = goes_both beginning.dump beginning.begin (place_begun beginning.begin beginning.first) walk.end done own (ending ∷ []) goes (ap Some (sym ends.0), (done, ((ends.1, refl), refl)));
  dir_is = stands.written.dir_is;
  last_is = stands.written.end_is ∙ (sym (same_end beginning.end (answers_of own)) ∙ ap (λ (l : List Answer). end_told beginning.end l) (sym (with_end own ending ends.1)));
  text = subst (λ (l : List Answer). Leads (Gained (dump_text (begun_of db began) l)) first last) (sym (with_end own ending ends.1))
      (subst (λ (l : Files). Leads (Gained l) first last) (sym (text_is db began (answers_of own)))
      (grown (map (at_path (dir_of began)) (files_told (began_answer began ∷ answers_of own))) first between last (path_in (dir_of began) (codes "manifest")) (manifest_code (manifest_told (begun_of db began) (answers_of own)))
      (manifest_is_new (dir_of began) (item_texts (began_answer began ∷ answers_of own)) (event_texts (began_answer began ∷ answers_of own))) stands.text
      (subst (λ m. Leads (Gained ((path_in (dir_of began) (codes "manifest"), manifest_code m) ∷ [])) between last) (manifest_is db beginning (answers_of own) writer stands.written)
      (subst (λ (d : List ℕ). Leads (Gained ((path_in d (codes "manifest"), manifest_code (manifest_of db beginning writer)) ∷ [])) between last) stands.written.dir_is put))));
}
  where
    began : Began
    began = began_of beginning

-- ---- the manifest is put

pub manifest_put : (dir text path bytes : List ℕ) (before after : Option Files) → path ≡ path_in dir (codes "manifest") → bytes ≡ text
    → Leads (λ files later. later ≡ insert_entry (slice_cmp nat_cmp) files path bytes) before after → Leads (Gained ((path_in dir (codes "manifest"), text) ∷ [])) before after
manifest_put dir text path bytes before after p d h = put_text dir (codes "manifest", text) path bytes before after p d h

-- it wasn't: after a fault any bytes may be there, and after want of memory nothing changed
pub manifest_stays : {T : Type 0} (result : Result T Outage) (outage : Outage) (failed : Failure) (dir path bytes : List ℕ) (before after : Option Files) → path ≡ path_in dir (codes "manifest") → IsOwn failed → (failed ≡ failure.FolderFault → outage ≡ outages.Failed)
    → (failed ≡ failure.NoMemory → outage ≡ outages.NoMemory) → result ≡ Err outage → Puts before after path bytes result → Leads (StaysBy failed dir) before after
manifest_stays {T} result outage failed dir path bytes before after p own cause memory is puts = by failed own cause memory outage (subst (λ (r : Result T Outage). Puts before after path bytes r) is puts) refl
  where
    torn : (old new : Option Files) → Leads (λ files later. (other : List ℕ) → other ≢ path → file later other ≡ file files other) old new → Leads (OutsideStays dir) old new
    torn None new h = tt
    torn (Some f) None h = h
    torn (Some f) (Some g) h = λ name apart. h name (λ q. apart (codes "manifest") (q ∙ p))

    same : (old new : Option Files) → Leads Same old new → Leads (OthersStay dir) old new
    same None new h = tt
    same (Some f) None h = h
    same (Some f) (Some g) h = λ name apart. ap (λ (files : Files). file files name) h

    apart : outages.NoMemory ≡ outages.Failed → ⊥
    apart q = absurd cc

    by : (f : Failure) → IsOwn f → (f ≡ failure.FolderFault → outage ≡ outages.Failed) → (f ≡ failure.NoMemory → outage ≡ outages.NoMemory) → (o : Outage) → Puts {T = T} before after path bytes (Err o) → o ≡ outage → Leads (StaysBy f dir) before after
    by (failure.Refused refusal) mine c m o h q = absurd mine
    by failure.FolderFault mine c m outages.Failed h q = torn before after h
    by failure.FolderFault mine c m outages.NoMemory h q = absurd (apart (q ∙ c refl))
    by failure.NoMemory mine c m outages.Failed h q = absurd (apart (sym (q ∙ m refl)))
    by failure.NoMemory mine c m outages.NoMemory h q = same before after h

-- the manifest as it is put is that of what was written
pub code_is : (db made : List ℕ) (whole : Bool) (beginning : Beginning) (writer : Writer) → made ≡ db → whole ≡ is_some beginning.first → manifest_code (record {
  source = beginning.source;
  db = made;
  dump = beginning.dump;
  bootstrap = whole;
  begin = beginning.begin;
  end = writer.end;
  born = beginning.born;
  files = writer.files;
}) ≡ manifest_code (manifest_of db beginning writer)
code_is db made whole beginning writer name kind =
    ap (λ (d : List ℕ). manifest_code (record { source = beginning.source; db = d; dump = beginning.dump; bootstrap = whole; begin = beginning.begin; end = writer.end; born = beginning.born; files = writer.files })) name
    ∙ ap (λ (b : Bool). manifest_code (record { source = beginning.source; db = db; dump = beginning.dump; bootstrap = b; begin = beginning.begin; end = writer.end; born = beginning.born; files = writer.files })) kind
