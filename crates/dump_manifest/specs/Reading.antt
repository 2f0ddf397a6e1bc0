-- Where a text stops to be a manifest: at the first line that may not stand after those before it.
use Rattle.std.specs.Prelude.{◌≡◌, ◌≢◌, ◌⊎◌, ⊤, ◌+◌, ℕ, suc, ◌≤◌, List, [], ◌∷◌, ◌++◌, Bool, true, Option, None, Some, decimal, length}
use Rattle.hex.specs.Hex.{encode_lower}
use Rattle.dump_manifest.specs.declared.manifest.FileLine.{FileLine}
use Rattle.dump_manifest.specs.declared.manifest.ManifestFault.{ManifestFault}
use Rattle.dump_manifest.specs.declared.manifest.ManifestFault.TheVariants.{Grammar, NoMemory}
use Rattle.dump_manifest.specs.Manifests.{HasItems, IsDigest, IsFile, IsLowerName, IsWord, begin_line, born_line, db_line, dir_text, done_line, dump_line, end_line, event_name, file_line, item_name, kind_line, lines_text, source_line, version_line, with_lf}

-- ---- one value

-- a kind of text: which values it has texts for, and the text of each
pub record Kind (T : Type 0) : Type 1 where
  pub Fits : T → Type 0
  pub code : T → List ℕ

-- the value whose spelling this is; or it is the spelling of none
abbrev pub IsReadAs : {T : Type 0} → Kind T → List ℕ → Option T → Type 0
IsReadAs kind text (Some value) = kind.Fits value × (text ≡ kind.code value)
IsReadAs {T} kind text None = (value : T) → kind.Fits value → text ≢ kind.code value

-- a number is its decimal digits
abbrev pub number : Kind ℕ
number = record { Fits = IsWord; code = decimal }

-- so many bytes are their hexadecimal digits in lower case
abbrev pub hex_of : ℕ → Kind (List ℕ)
hex_of count = record { Fits = IsDigest count; code = encode_lower }

-- a word, and the digits of a number
abbrev pub number_line : List ℕ → Kind ℕ
number_line word = record { Fits = IsWord; code = λ n. word ++ decimal n }

-- the name of a dump's folder: a store's id, and the dump's number
abbrev pub dir_of : Kind (List ℕ × ℕ)
dir_of = record { Fits = λ p. IsDigest 16 p.0 × IsWord p.1; code = λ p. dir_text p.0 p.1 }

-- ---- the lines of a manifest

-- which line is next, with what the lines before tell of those that come
pub data Place : Type 0 where
  at_version : Place
  at_source : Place
  at_db : Place
  at_dump : Place
  at_kind : Place
  -- in a bootstrap dump or not
  at_begin : Bool → Place
  -- and where its events begin
  at_end : Bool → ℕ → Place
  at_born : Bool → Place
  -- and how many files of items and of events stand before
  at_file : Bool → ℕ → ℕ → Place
  -- after the last line
  at_last : Place

-- the next file is of items, where no file of events stands before; or it is of events
abbrev pub IsNextFile : Bool → ℕ → ℕ → List ℕ → Place → Type 0
IsNextFile bootstrap items events name place =
    ((bootstrap ≡ true) × (events ≡ 0) × (name ≡ item_name items) × (place ≡ at_file bootstrap (suc items) events))
    ⊎ (HasItems bootstrap items × (name ≡ event_name events) × (place ≡ at_file bootstrap items (suc events)))

-- in a manifest of this store's dump with this number: the line may stand at the first place, and the second is that after it
abbrev pub MayStand : List ℕ → ℕ → Place → List ℕ → Place → Type 0
MayStand source dump at_version line place = (line ≡ version_line) × (place ≡ at_source)
MayStand source dump at_source line place = (line ≡ source_line source) × (place ≡ at_db)
MayStand source dump at_db line place = (name : List ℕ) × IsLowerName name × (line ≡ db_line name) × (place ≡ at_dump)
MayStand source dump at_dump line place = (line ≡ dump_line dump) × (place ≡ at_kind)
MayStand source dump at_kind line place = (bootstrap : Bool) × (line ≡ kind_line bootstrap) × (place ≡ at_begin bootstrap)
MayStand source dump (at_begin bootstrap) line place = (n : ℕ) × IsWord n × (line ≡ begin_line n) × (place ≡ at_end bootstrap n)
MayStand source dump (at_end bootstrap begin) line place =
    (n : ℕ) × ((begin ≤ n) × (n ≤ 9223372036854775807)) × (line ≡ end_line n) × (place ≡ at_born bootstrap)
MayStand source dump (at_born bootstrap) line place = (n : ℕ) × IsWord n × (line ≡ born_line n) × (place ≡ at_file bootstrap 0 0)
MayStand source dump (at_file bootstrap items events) line place =
    ((f : FileLine) × IsFile f × (line ≡ file_line f) × IsNextFile bootstrap items events f.name place)
    ⊎ (HasItems bootstrap items × (line ≡ done_line) × (place ≡ at_last))
MayStand source dump at_last line place = ⊥

-- these lines may stand after one another from the first place on, and the second is that after them
abbrev pub MayFollow : List ℕ → ℕ → Place → List (List ℕ) → Place → Type 0
MayFollow source dump from [] to = from ≡ to
MayFollow source dump from (line ∷ lines) to = (next : Place) × MayStand source dump from line next × MayFollow source dump next lines to

-- no line that may stand at this place begins the text; and after the last line stands something
pub record IsStuck (source : List ℕ) (dump : ℕ) (place : Place) (text : List ℕ) : Type 0 where
  pub no_line : (line behind : List ℕ) (next : Place) → MayStand source dump place line next → text ≢ with_lf line ++ behind
  pub not_over : place ≡ at_last → text ≢ []

-- lines that may stand from this place on, and after them nothing goes on
abbrev pub HasStopped : List ℕ → ℕ → Place → List ℕ → List ℕ → Type 0
HasStopped source dump from text rest =
    (lines : List (List ℕ)) × (place : Place) × (text ≡ lines_text lines ++ rest)
    × MayFollow source dump from lines place × IsStuck source dump place rest

-- the offset of the first line that breaks a rule, or the text's length where lines are missing
abbrev pub Stops : List ℕ → ℕ → ℕ → List ℕ → Type 0
Stops source dump at text = (rest : List ℕ) × HasStopped source dump at_version text rest × (length text ≡ at + length rest)

-- why a text is not read: it stops at this offset, or memory was refused
abbrev pub IsFault : List ℕ → ℕ → List ℕ → ManifestFault → Type 0
IsFault source dump text (Grammar at) = Stops source dump at text
IsFault source dump text NoMemory = ⊤
