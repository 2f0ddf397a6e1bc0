-- The name of a dump's folder, and its manifest byte for byte.
use Rattle.std.specs.Prelude.{◌≡◌, ◌⊎◌, ℕ, zero, suc, ◌<◌, ◌≤◌, ◌^◌, List, [], ◌∷◌, ◌++◌, Bool, true, false, codes, decimal, length, map, All}
use Rattle.std.specs.Char.{IsAsciiDigit, IsAsciiLowercase}
use Rattle.std.specs.List.{flat_map}
use Rattle.hex.specs.Hex.{IsBytes, encode_lower}
use Rattle.cat_values.specs.Names.{HasNameLength}
use Rattle.dump_manifest.specs.declared.manifest.FileLine.{FileLine}
use Rattle.dump_manifest.specs.declared.manifest.Manifest.{Manifest}

-- the folder of a dump is called by its store's id in hexadecimal digits, a dash, and the dump's number
abbrev pub dir_text : List ℕ → ℕ → List ℕ
dir_text source dump = encode_lower source ++ (codes "-" ++ decimal dump)

-- ---- the lines of a manifest, without their LFs: a word, and for most a value after it

unfoldable pub version_line : List ℕ
version_line = codes "hms-dump 1"

unfoldable pub source_line : List ℕ → List ℕ
source_line source = codes "source " ++ encode_lower source

unfoldable pub db_line : List ℕ → List ℕ
db_line name = codes "db " ++ name

unfoldable pub dump_line : ℕ → List ℕ
dump_line dump = codes "dump " ++ decimal dump

unfoldable pub kind_line : Bool → List ℕ
kind_line true = codes "kind bootstrap"
kind_line false = codes "kind incremental"

unfoldable pub begin_line : ℕ → List ℕ
begin_line n = codes "begin " ++ decimal n

unfoldable pub end_line : ℕ → List ℕ
end_line n = codes "end " ++ decimal n

unfoldable pub born_line : ℕ → List ℕ
born_line n = codes "born " ++ decimal n

unfoldable pub file_line : FileLine → List ℕ
file_line f = codes "file " ++ (f.name ++ (codes " " ++ (decimal f.length ++ (codes " " ++ encode_lower f.digest))))

unfoldable pub done_line : List ℕ
done_line = codes "done"

-- each line with its LF
abbrev pub with_lf : List ℕ → List ℕ
with_lf line = line ++ 10 ∷ []

abbrev pub lines_text : List (List ℕ) → List ℕ
lines_text = flat_map with_lf

-- which dump it is, and of which database
abbrev pub origin_lines : List ℕ → List ℕ → ℕ → List (List ℕ)
origin_lines source db dump = version_line ∷ source_line source ∷ db_line db ∷ dump_line dump ∷ []

-- of which kind the dump is, where its events begin and end, and the event that made the database
abbrev pub span_lines : Bool → ℕ → ℕ → ℕ → List (List ℕ)
span_lines bootstrap begin end born = kind_line bootstrap ∷ begin_line begin ∷ end_line end ∷ born_line born ∷ []

-- the lines in their order: one for each file, and the last one
abbrev pub manifest_lines : Manifest → List (List ℕ)
manifest_lines m = origin_lines m.source m.db m.dump ++ (span_lines m.bootstrap m.begin m.end m.born ++ (map file_line m.files ++ done_line ∷ []))

-- a manifest is its lines, each with its LF
abbrev pub manifest_code : Manifest → List ℕ
manifest_code m = lines_text (manifest_lines m)

-- ---- which manifests there are

-- a small letter, a digit or an underscore
abbrev pub IsLowerByte : ℕ → Type 0
IsLowerByte byte = IsAsciiLowercase byte ⊎ IsAsciiDigit byte ⊎ (byte ≡ 95)

-- the name of an object in lower case
abbrev pub IsLowerName : List ℕ → Type 0
IsLowerName name = HasNameLength name × All IsLowerByte name

-- a number that a manifest can tell, and a digest
abbrev pub IsWord : ℕ → Type 0
IsWord n = n < 2 ^ 64

abbrev pub IsDigest : ℕ → List ℕ → Type 0
IsDigest count bytes = IsBytes bytes × (length bytes ≡ count)

-- the names of a dump's files: of items, and of events, each numbered from 0
unfoldable pub item_name : ℕ → List ℕ
item_name n = codes "i" ++ decimal n

unfoldable pub event_name : ℕ → List ℕ
event_name n = codes "e" ++ decimal n

abbrev pub names_below : (ℕ → List ℕ) → ℕ → List (List ℕ)
names_below each zero = []
names_below each (suc n) = names_below each n ++ each n ∷ []

-- a bootstrap dump has a file of items, and an incremental dump has none
abbrev pub HasItems : Bool → ℕ → Type 0
HasItems true items = 1 ≤ items
HasItems false items = items ≡ 0

-- the files of items stand first, and then those of events
abbrev pub HasNames : Bool → List FileLine → Type 0
HasNames bootstrap files = (items events : ℕ) × HasItems bootstrap items
    × (map (λ f. f.name) files ≡ names_below item_name items ++ names_below event_name events)

-- a file's length is a word, and its digest has 32 bytes
abbrev pub IsFile : FileLine → Type 0
IsFile f = IsWord f.length × IsDigest 32 f.digest

-- a manifest of this store's dump with this number
pub record Fits (source : List ℕ) (dump : ℕ) (m : Manifest) : Type 0 where
  pub its_source : m.source ≡ source
  pub its_dump : m.dump ≡ dump
  pub db : IsLowerName m.db
  pub range : (m.begin ≤ m.end) × (m.end ≤ 9223372036854775807)
  pub born : IsWord m.born
  pub files : All IsFile m.files
  pub names : HasNames m.bootstrap m.files
