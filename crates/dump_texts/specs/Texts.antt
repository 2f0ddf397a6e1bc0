-- The files of a dump, as its answers make them.
use Rattle.std.specs.Prelude.{ℕ, ◌+◌, List, [], ◌∷◌, ◌++◌, length, map, codes, Option, None, Some, is_some}
use Rattle.std.specs.Fmt.{decimal}
use Rattle.cat_types.specs.declared.changes.Event.{Event}
use Rattle.cat_types.specs.declared.items.Item.{Item}
use Rattle.cat_types.specs.declared.steps.Answer.{Answer}
use Rattle.cat_types.specs.declared.steps.Answer.TheVariants as answer
use Rattle.change_codec.specs.Forms.{list_of}
use Rattle.change_codec.specs.Records.{an_item, event, newest}
use Rattle.dump_manifest.specs.Manifests.{dir_text, manifest_code}
use Rattle.dump_manifest.specs.declared.manifest.FileLine.{FileLine}
use Rattle.dump_manifest.specs.declared.manifest.Manifest.{Manifest}
use Rattle.dump_texts.specs.declared.kinds.FileKind.{FileKind}
use Rattle.dump_texts.specs.declared.kinds.FileKind.TheVariants.{EventFile, ItemFile}
use Rattle.sha2.specs.Sha256.{sha256}

-- ---- one file

-- the letter with which the names of such files begin
abbrev pub letter : FileKind → List ℕ
letter ItemFile = codes "i"
letter EventFile = codes "e"

-- the name of a file: its letter, and its place among those of its kind, from 0
abbrev pub name_at : FileKind → ℕ → List ℕ
name_at kind place = letter kind ++ decimal place

-- the text of a file with these items
abbrev pub items_text : List Item → List ℕ
items_text items = (list_of (an_item newest)).code items

-- the text of a file with these events
abbrev pub events_text : List Event → List ℕ
events_text events = (list_of (event newest)).code events

-- the line of a manifest that a file has: its name, how many bytes it has, and their digest
abbrev pub line_of : List ℕ × List ℕ → FileLine
line_of file = record { name = file.0; length = length file.1; digest = sha256 file.1 }

-- the path of a file in a directory
abbrev pub path_in : List ℕ → List ℕ → List ℕ
path_in dir name = dir ++ (codes "/" ++ name)

-- ---- what answers tell

-- the first item, where there is one
abbrev pub first_told : Option Item → List Item
first_told None = []
first_told (Some item) = item ∷ []

-- the items that an answer tells
abbrev pub items_told : Answer → List Item
items_told (answer.Began dump source born begin end first) = first_told first
items_told (answer.Table item) = item ∷ []
items_told (answer.Parts items more) = items
items_told other = []

-- the events that an answer tells
abbrev pub events_told : Answer → List Event
events_told (answer.Events events more) = events
events_told other = []

-- a text for these, where there are any, before the others
abbrev pub text_before : {T : Type 0} → (List T → List ℕ) → List T → List (List ℕ) → List (List ℕ)
text_before text [] texts = texts
text_before text (x ∷ xs) texts = text (x ∷ xs) ∷ texts

-- the texts of the item files: one for each answer that tells items
abbrev pub item_texts : List Answer → List (List ℕ)
item_texts [] = []
item_texts (given ∷ answers) = text_before items_text (items_told given) (item_texts answers)

-- the texts of the event files: one for each answer that tells events
abbrev pub event_texts : List Answer → List (List ℕ)
event_texts [] = []
event_texts (given ∷ answers) = text_before events_text (events_told given) (event_texts answers)

-- files of one kind with these texts, the first of them at this place
abbrev pub files_from : FileKind → ℕ → List (List ℕ) → List (List ℕ × List ℕ)
files_from kind place [] = []
files_from kind place (text ∷ texts) = (name_at kind place, text) ∷ files_from kind (place + 1) texts

-- the files that answers make: those of items first
abbrev pub files_told : List Answer → List (List ℕ × List ℕ)
files_told answers = files_from ItemFile 0 (item_texts answers) ++ files_from EventFile 0 (event_texts answers)

-- the event at which a dump was sealed, where this answer says so, or else this one
abbrev pub sealed_told : Answer → ℕ → ℕ
sealed_told (answer.Sealed number) end = number
sealed_told other end = end

-- the event up to which a dump goes: the one at which it was sealed, or else this one
abbrev pub end_told : ℕ → List Answer → ℕ
end_told end [] = end
end_told end (given ∷ answers) = end_told (sealed_told given end) answers

-- ---- the whole dump

-- what the beginning of a dump told
pub record Begun : Type 0 where
  pub db : List ℕ
  pub dump : ℕ
  pub source : List ℕ
  pub born : ℕ
  pub begin : ℕ
  pub end : ℕ
  pub first : Option Item

-- how that was answered
abbrev pub begun_answer : Begun → Answer
begun_answer begun = answer.Began begun.dump begun.source begun.born begun.begin begun.end begun.first

-- the manifest of a dump that began so, after these answers
abbrev pub manifest_told : Begun → List Answer → Manifest
manifest_told begun answers = record {
  source = begun.source;
  db = begun.db;
  dump = begun.dump;
  bootstrap = is_some begun.first;
  begin = begun.begin;
  end = end_told begun.end answers;
  born = begun.born;
  files = map line_of (files_told (begun_answer begun ∷ answers));
}

-- the directory of a dump
abbrev pub dump_dir : Begun → List ℕ
dump_dir begun = dir_text begun.source begun.dump

-- a file of a dump by its path
abbrev pub at_path : List ℕ → List ℕ × List ℕ → List ℕ × List ℕ
at_path dir file = (path_in dir file.0, file.1)

-- the files of a dump that began so, after these answers, each with its path; the manifest is the last
abbrev pub dump_text : Begun → List Answer → List (List ℕ × List ℕ)
dump_text begun answers =
    map (at_path (dump_dir begun)) (files_told (begun_answer begun ∷ answers) ++ (codes "manifest", manifest_code (manifest_told begun answers)) ∷ [])
