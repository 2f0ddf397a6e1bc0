-- Pieces at the front of a text: a word, a line, and the line of a value.
use Rattle.std.specs.Prelude.{◌≡◌, ◌≢◌, ⊤, ℕ, suc, ◌≤◌, ◌==◌, List, [], ◌∷◌, ◌++◌, Bool, true, false, cond, Option, None, Some, codes, decimal}
use Rattle.hex.specs.Hex.{encode_lower}
use Rattle.dump_manifest.specs.Manifests.{HasItems, IsDigest, IsLowerName, IsWord, begin_line, born_line, db_line, end_line, event_name, item_name, kind_line, with_lf}
use Rattle.dump_manifest.specs.Reading.{Kind}

-- the text begins with this word, and the rest follows; or it doesn't begin so
abbrev pub Follows : List ℕ → List ℕ → Option (List ℕ) → Type 0
Follows word text (Some rest) = text ≡ word ++ rest
Follows word text None = (rest : List ℕ) → text ≢ word ++ rest

-- the text begins with the line of this value, and the rest follows; or with the line of none
abbrev pub Fronts : {T : Type 0} → Kind T → List ℕ → Option (T × List ℕ) → Type 0
Fronts kind text (Some front) = kind.Fits front.0 × (text ≡ with_lf (kind.code front.0) ++ front.1)
Fronts {T} kind text None = (value : T) (rest : List ℕ) → kind.Fits value → text ≢ with_lf (kind.code value) ++ rest

-- a lower-case object name, which is its own text
abbrev pub name_of : Kind (List ℕ)
name_of = record { Fits = IsLowerName; code = λ name. name }

-- the line of a database
abbrev pub db_of : Kind (List ℕ)
db_of = record { Fits = IsLowerName; code = db_line }

-- the line that tells whether a dump is a bootstrap dump
abbrev pub kind_of : Kind Bool
kind_of = record { Fits = λ b. ⊤; code = kind_line }

-- the line of the number after which the events begin
abbrev pub begin_of : Kind ℕ
begin_of = record { Fits = IsWord; code = begin_line }

-- the line of the number at which the events end, which is not below where they begin
abbrev pub end_of : ℕ → Kind ℕ
end_of begin = record { Fits = λ n. (begin ≤ n) × (n ≤ 9223372036854775807); code = end_line }

-- the line of the event that made the database
abbrev pub born_of : Kind ℕ
born_of = record { Fits = IsWord; code = born_line }

-- a file's length and digest, which end its line
abbrev pub tail_of : Kind (ℕ × List ℕ)
tail_of = record { Fits = λ p. IsWord p.0 × IsDigest 32 p.1; code = λ p. decimal p.0 ++ (codes " " ++ encode_lower p.1) }

-- a word, and after it the text of a value
abbrev pub prefixed : {T : Type 0} → List ℕ → Kind T → Kind T
prefixed word kind = record { Fits = kind.Fits; code = λ v. word ++ kind.code v }

-- the same after a space
abbrev pub spaced : Kind (ℕ × List ℕ)
spaced = prefixed (codes " ") tail_of

-- the line of the file with this number, after a word that ends in `i` or `e`
abbrev pub named : List ℕ → ℕ → Kind (ℕ × List ℕ)
named word n = prefixed word (prefixed (decimal n) spaced)

-- the bytes hold no LF
abbrev pub lacks_lf : List ℕ → Bool
lacks_lf [] = true
lacks_lf (b ∷ bytes) = cond (b == 10) false (lacks_lf bytes)

-- the bytes before the first LF, and those after it: a byte that is an LF, or not, before what is cut later
abbrev pub cut_by : Bool → ℕ → List ℕ → Option (List ℕ × List ℕ) → Option (List ℕ × List ℕ)
cut_by true b bytes later = Some ([], bytes)
cut_by false b bytes None = None
cut_by false b bytes (Some cut) = Some (b ∷ cut.0, cut.1)

-- the first line without its LF, and what follows
abbrev pub cut_line : List ℕ → Option (List ℕ × List ℕ)
cut_line [] = None
cut_line (b ∷ bytes) = cut_by (b == 10) b bytes (cut_line bytes)

-- ---- the next file

-- a file of items may come in a bootstrap dump, where no file of events stands before; and one of events after all those of items
abbrev pub MayCome : Bool → ℕ → ℕ → Bool → Type 0
MayCome bootstrap items events true = (bootstrap ≡ true) × (events ≡ 0)
MayCome bootstrap items events false = HasItems bootstrap items

-- its name, and how many files of items there are with it
abbrev pub next_name : Bool → ℕ → ℕ → List ℕ
next_name true items events = item_name items
next_name false items events = event_name events

abbrev pub items_after : Bool → ℕ → ℕ
items_after true items = suc items
items_after false items = items

-- the line of a file with this name
abbrev pub line_of : List ℕ → ℕ → List ℕ → List ℕ
line_of name length digest = codes "file " ++ (name ++ (codes " " ++ (decimal length ++ (codes " " ++ encode_lower digest))))

-- the line of a file of items, or of one of events, that comes next
abbrev pub came : Bool → ℕ → ℕ → Bool → Kind (ℕ × List ℕ)
came bootstrap items events is_item = record {
  Fits = λ p. MayCome bootstrap items events is_item × IsWord p.0 × IsDigest 32 p.1;
  code = λ p. line_of (next_name is_item items events) p.0 p.1;
}

-- the line of the next file, and whether it is of items
abbrev pub next_of : Bool → ℕ → ℕ → Kind (Bool × (ℕ × List ℕ))
next_of bootstrap items events = record {
  Fits = λ p. (came bootstrap items events p.0).Fits p.1;
  code = λ p. (came bootstrap items events p.0).code p.1;
}
