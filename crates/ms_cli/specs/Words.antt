-- What the words of a command line name.
use Rattle.std.specs.Prelude.{◌≡◌, ◌⊎◌, ◌<◌, ◌≤◌, ℕ, ℤ, pos, List, [], ◌∷◌, length, codes, Ok, Option, None, Some}
use Rattle.std.specs.Str.Parse.{IsNumeral, digits_value, without_leading_plus}
use Rattle.hex.specs.Hex.{decode_sized}
use Rattle.ms_cli.specs.declared.ranges.EventRange.{EventRange}
use Rattle.ms_cli.specs.declared.words.Command.{Command}
use Rattle.ms_cli.specs.declared.words.Command.TheVariants.{Pipe, Init, Dump, Trim, Wrong}
use Rattle.ms_cli.specs.declared.words.Usage.TheVariants as usage

-- ---- numbers and options

-- the word writes this number, up to 9,223,372,036,854,775,807, in digits, before which one plus may stand
abbrev pub IsNumber : List ℕ → ℤ → Type 0
IsNumber word number = IsNumeral 10 (without_leading_plus word) × (number ≡ pos (digits_value 10 (without_leading_plus word))) × (digits_value 10 (without_leading_plus word) ≤ 9223372036854775807)

-- the words begin with this one
abbrev pub BeginsWith : List ℕ → List (List ℕ) → Type 0
BeginsWith name words = (behind : List (List ℕ)) × (words ≡ name ∷ behind)

-- an option's name and its number stand here before these others; or the words don't begin with its name, and it isn't given
abbrev pub Takes : List ℕ → List (List ℕ) → Option ℤ → List (List ℕ) → Type 0
Takes name words None others = (BeginsWith name words → ⊥) × (others ≡ words)
Takes name words (Some number) others = (digits : List ℕ) × (words ≡ name ∷ digits ∷ others) × IsNumber digits number

-- the words are the options of a dump, each at most once and in this order
abbrev pub IsRange : List (List ℕ) → EventRange → Type 0
IsRange words range = (behind_from behind_to : List (List ℕ)) × Takes (codes "--from") words range.from behind_from × Takes (codes "--to") behind_from range.to behind_to × Takes (codes "--limit") behind_to range.limit []

-- ---- commands

-- the words are the command that serves a session
abbrev pub IsPipe : List (List ℕ) → Type 0
IsPipe words = words ≡ codes "pipe" ∷ []

-- the words are the command that makes a store, with its id as it was written
abbrev pub IsInit : List (List ℕ) → List ℕ → Type 0
IsInit words digits = words ≡ codes "init" ∷ digits ∷ []

-- these are 32 hexadecimal digits, two for each byte of the id
abbrev pub SpellsId : List ℕ → List ℕ → Type 0
SpellsId digits id = decode_sized digits 16 ≡ Ok id

-- the words are the command that dumps this database, all of it or this range of events
abbrev pub IsDump : List (List ℕ) → List ℕ → EventRange → Type 0
IsDump words db range = (options : List (List ℕ)) × (words ≡ codes "dump" ∷ db ∷ options) × IsRange options range

-- the words are the command that takes off the kept events up to this number
abbrev pub IsTrim : List (List ℕ) → ℤ → Type 0
IsTrim words upto = (digits : List ℕ) × (words ≡ codes "trim" ∷ digits ∷ []) × IsNumber digits upto

-- the words are none of these
pub record IsNoCommand (words : List (List ℕ)) : Type 0 where
  pub pipe : IsPipe words → ⊥
  pub init : (digits : List ℕ) → IsInit words digits → ⊥
  pub dump : (db : List ℕ) (range : EventRange) → IsDump words db range → ⊥
  pub trim : (upto : ℤ) → IsTrim words upto → ⊥

-- what the words name, however many bytes they have
abbrev pub Reads : List (List ℕ) → Command → Type 0
Reads words Pipe = IsPipe words
Reads words (Init id) = (digits : List ℕ) × IsInit words digits × SpellsId digits id
Reads words (Dump db range) = IsDump words db.now range
Reads words (Trim upto) = IsTrim words upto
Reads words (Wrong usage.Words) = IsNoCommand words
Reads words (Wrong usage.LongWord) = ⊥
Reads words (Wrong usage.Id) = (digits : List ℕ) × IsInit words digits × ((id : List ℕ) → SpellsId digits id → ⊥)

-- one of the words has more than 16,777,216 bytes
abbrev pub HasLong : List (List ℕ) → Type 0
HasLong [] = ⊥
HasLong (word ∷ words) = (16777216 < length word) ⊎ HasLong words

-- how a command is judged where one of its words is too long
abbrev pub judged : Command → Command
judged Pipe = Wrong usage.LongWord
judged (Init id) = Wrong usage.LongWord
judged (Dump db range) = Wrong usage.LongWord
judged (Trim upto) = Wrong usage.LongWord
judged (Wrong usage.Words) = Wrong usage.Words
judged (Wrong usage.LongWord) = Wrong usage.LongWord
judged (Wrong usage.Id) = Wrong usage.LongWord

-- the words name this command; of the causes for which they name none the first that holds is told: they are no command, a word has more than 16,777,216 bytes, or the id isn't 32 hexadecimal digits
abbrev pub Names : List (List ℕ) → Command → Type 0
Names words command = (Reads words command × (HasLong words → ⊥)) ⊎ (HasLong words × ((read : Command) × Reads words read × (command ≡ judged read)))
