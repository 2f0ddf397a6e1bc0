-- What a dump leaves in a folder.
use Rattle.std.specs.Prelude.{◌≡◌, ◌≢◌, ◌⊎◌, ℕ, ◌+◌, List, [], ◌∷◌, ◌++◌, length, map, Option, Some}
use Rattle.std.specs.List.{AllByRecursion}
use Rattle.cat_types.specs.declared.steps.Answer.{Answer}
use Rattle.desk.specs.Walks.{Began}
use Rattle.dump_texts.specs.Texts.{Begun, at_path, end_told, event_texts, files_from, files_told, item_texts, line_of, name_at, path_in, sealed_told}
use Rattle.dump_texts.specs.declared.kinds.FileKind.{FileKind}
use Rattle.dump_texts.specs.declared.kinds.FileKind.TheVariants.{EventFile, ItemFile}
use Rattle.hms_outside.specs.Folders.{file}
use Rattle.hms_outside.specs.Told.{Goes as Leads}
use Rattle.repl_dump.specs.declared.writer.Writer.{Writer}

-- the files of a folder, by name
abbrev pub Files : Type 0
Files = List (List ℕ × List ℕ)

-- what the beginning of a dump of this database told
abbrev pub begun_of : List ℕ → Began → Begun
begun_of db began = record { db = db; dump = began.dump; source = began.source; born = began.born; begin = began.begin; end = began.end; first = began.first }

-- what a writer has written of these answers: the directory, the event up to which the dump goes, a line of the manifest for each of their files, and how many files of each kind there are
pub record HasWritten (dir : List ℕ) (end : ℕ) (answers : List Answer) (writer : Writer) : Type 0 where
  pub dir_is : writer.dir ≡ dir
  pub end_is : writer.end ≡ end_told end answers
  pub lines : writer.files ≡ map line_of (files_told answers)
  pub items : writer.items ≡ length (item_texts answers)
  pub events : writer.events ≡ length (event_texts answers)

-- how many files of a kind were written
abbrev pub written_of : FileKind → Writer → ℕ
written_of ItemFile writer = writer.items
written_of EventFile writer = writer.events

-- how many files of each kind one file of this kind is
abbrev pub items_in : FileKind → ℕ
items_in ItemFile = 1
items_in EventFile = 0

abbrev pub events_in : FileKind → ℕ
events_in ItemFile = 0
events_in EventFile = 1

-- the next file of a kind, with these bytes
abbrev pub next_file : FileKind → List ℕ → Writer → List ℕ × List ℕ
next_file kind bytes writer = (name_at kind (written_of kind writer), bytes)

-- no file changed but those with items or events in a directory; a manifest stays too
abbrev pub OthersStay : List ℕ → Files → Files → Type 0
OthersStay dir old new = (name : List ℕ) → ((kind : FileKind) (place : ℕ) → name ≢ path_in dir (name_at kind place)) → file new name ≡ file old name

-- no file outside a directory changed
abbrev pub OutsideStays : List ℕ → Files → Files → Type 0
OutsideStays dir old new = (name : List ℕ) → ((rest : List ℕ) → name ≢ path_in dir rest) → file new name ≡ file old name

-- whether a name is one of these files'
abbrev pub IsAmong : List ℕ → Files → Type 0
IsAmong name [] = ⊥
IsAmong name (entry ∷ entries) = (name ≡ entry.0) ⊎ IsAmong name entries

-- a folder has each of these files, and all others are as they were
pub record Gained (texts old new : Files) : Type 0 where
  pub each : AllByRecursion (λ entry. file new entry.0 ≡ Some entry.1) texts
  pub others : (name : List ℕ) → (IsAmong name texts → ⊥) → file new name ≡ file old name

-- a writer put the next file of a kind, with these bytes, and its line
pub record HasPut (kind : FileKind) (bytes : List ℕ) (old new : Writer) (before after : Option Files) : Type 0 where
  pub dir_stays : new.dir ≡ old.dir
  pub end_stays : new.end ≡ old.end
  pub lines : new.files ≡ old.files ++ line_of (next_file kind bytes old) ∷ []
  pub items : new.items ≡ old.items + items_in kind
  pub events : new.events ≡ old.events + events_in kind
  pub text : Leads (Gained (at_path old.dir (next_file kind bytes old) ∷ [])) before after

-- the files of an answer, numbered on from those that were written
abbrev pub files_next : Writer → Answer → Files
files_next writer given = files_from ItemFile writer.items (item_texts (given ∷ [])) ++ files_from EventFile writer.events (event_texts (given ∷ []))

-- a writer was told an answer: it wrote the files that it makes, and their lines
pub record IsTold (given : Answer) (old new : Writer) (before after : Option Files) : Type 0 where
  pub dir_stays : new.dir ≡ old.dir
  pub end_is : new.end ≡ sealed_told given old.end
  pub lines : new.files ≡ old.files ++ map line_of (files_next old given)
  pub items : new.items ≡ old.items + length (item_texts (given ∷ []))
  pub events : new.events ≡ old.events + length (event_texts (given ∷ []))
  pub text : Leads (Gained (map (at_path old.dir) (files_next old given))) before after
