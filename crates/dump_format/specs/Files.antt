-- Files of a folder against the lines of a manifest.
use Rattle.std.specs.Prelude.{◌≡◌, ◌≢◌, ⊤, ℕ, List, [], ◌∷◌, ◌++◌, length, Option, None, Some, Err}
use Rattle.std.specs.List.{last_or}
use Rattle.sha2.specs.Sha256.{sha256}
use Rattle.change_codec.specs.Forms.{Form, list_of}
use Rattle.change_codec.specs.Whole.{whole}
use Rattle.dump_files.specs.Files.{AreFiles, Gains, IsFile, Rule, file_of}
use Rattle.dump_files.specs.Rows.{all_of}
use Rattle.dump_manifest.specs.declared.manifest.FileLine.{FileLine}
use Rattle.dump_format.specs.Harms.{IsFound, path}
use Rattle.dump_format.specs.declared.harm.Harm.{Harm}
use Rattle.dump_format.specs.declared.harm.Harm.TheVariants.{Absent, Length, Digest, Grammar}

-- these bytes have the length and the digest that the line tells
pub record IsWhole (line : FileLine) (bytes : List ℕ) : Type 0 where
  pub long : length bytes ≡ line.length
  pub digest : sha256 bytes ≡ line.digest

-- the line's file is there and whole, and spells these elements
pub record IsThere {T : Type 0} (files : Option (List (List ℕ × List ℕ))) (dir : List ℕ) (form : Form T) (line : FileLine) (elements : List T) : Type 0 where
  pub bytes : List ℕ
  pub found : IsFound files (path dir line.name) (Some bytes)
  pub sound : IsWhole line bytes
  pub coded : (list_of form).HasCode elements
  pub spelled : bytes ≡ (list_of form).code elements

-- the files of these lines are there, and spell these elements in turn
abbrev pub AreThere : {T : Type 0} → Option (List (List ℕ × List ℕ)) → List ℕ → Form T → List FileLine → List (List T) → Type 0
AreThere files dir form [] [] = ⊤
AreThere files dir form [] (c ∷ contents) = ⊥
AreThere files dir form (line ∷ lines) [] = ⊥
AreThere files dir form (line ∷ lines) (c ∷ contents) = IsThere files dir form line c × AreThere files dir form lines contents

-- the files of these lines are there, are a row of files by the rule, and these are all their elements in order
pub record AreRead {T : Type 0} (files : Option (List (List ℕ × List ℕ))) (dir : List ℕ) (rule : Rule T) (form : Form T) (lines : List FileLine) (elements : List T) : Type 0 where
  pub contents : List (List T)
  pub there : AreThere files dir form lines contents
  pub stand : AreFiles rule None contents
  pub all : elements ≡ all_of contents

-- bytes fail this check, and none before it: their length, their digest, their grammar
abbrev pub IsHarmed : {T : Type 0} → Form (List T) → FileLine → List ℕ → Harm → Type 0
IsHarmed form line bytes Absent = ⊥
IsHarmed form line bytes Length = length bytes ≢ line.length
IsHarmed form line bytes Digest = (length bytes ≡ line.length) × (sha256 bytes ≢ line.digest)
IsHarmed form line bytes (Grammar at) = IsWhole line bytes × (whole form bytes ≡ Err at)

-- a file is absent, or its bytes fail a check
abbrev pub IsHarm : {T : Type 0} → Form (List T) → FileLine → Option (List ℕ) → Harm → Type 0
IsHarm form line None harm = harm ≡ Absent
IsHarm form line (Some bytes) harm = IsHarmed form line bytes harm

-- a line's file has this harm, where these elements stand before it
abbrev pub HasHarm : {T : Type 0} → Option (List (List ℕ × List ℕ)) → List ℕ → Rule T → Form T → FileLine → List T → Harm → Type 0
HasHarm files dir rule form line before harm =
    (found : Option (List ℕ)) × IsFound files (path dir line.name) found × IsHarm (file_of rule form (last_or None before)) line found harm

-- the first of these lines whose file is not good has this name and this harm: the files before it are good
pub record IsFirstHarm {T : Type 0} (files : Option (List (List ℕ × List ℕ))) (dir : List ℕ) (rule : Rule T) (form : Form T) (lines : List FileLine) (name : List ℕ) (harm : Harm) : Type 0 where
  pub before : List FileLine
  pub line : FileLine
  pub after : List FileLine
  pub split : lines ≡ before ++ line ∷ after
  pub elements : List T
  pub good : AreRead files dir rule form before elements
  pub named : name ≡ line.name
  pub harmed : HasHarm files dir rule form line elements harm

-- ---- what private functions say

-- a list gained the elements that the bytes spell, which are a file; or the bytes are no file from this offset on
abbrev pub IsAdded : {T : Type 0} → Rule T → Form T → List ℕ → List T → List T → Option Harm → Type 0
IsAdded rule form bytes old new None = Gains (file_of rule form (last_or None old)) bytes old new
IsAdded rule form bytes old new (Some Absent) = ⊥
IsAdded rule form bytes old new (Some Length) = ⊥
IsAdded rule form bytes old new (Some Digest) = ⊥
IsAdded rule form bytes old new (Some (Grammar at)) = whole (file_of rule form (last_or None old)) bytes ≡ Err at

-- bytes fail a check; or they are whole, and a list gained the elements that they spell
abbrev pub IsJudged : {T : Type 0} → Rule T → Form T → FileLine → List ℕ → List T → List T → Option Harm → Type 0
IsJudged rule form line bytes old new (Some harm) = IsHarmed (file_of rule form (last_or None old)) line bytes harm
IsJudged rule form line bytes old new None = IsWhole line bytes × Gains (file_of rule form (last_or None old)) bytes old new

-- a line's file has this harm; or a list gained its elements, which may stand there
abbrev pub IsTaken : {T : Type 0} → Option (List (List ℕ × List ℕ)) → List ℕ → Rule T → Form T → FileLine → List T → List T → Option Harm → Type 0
IsTaken files dir rule form line old new (Some harm) = HasHarm files dir rule form line old harm
IsTaken {T} files dir rule form line old new None =
    (more : List T) × (new ≡ old ++ more) × IsThere files dir form line more × IsFile rule (last_or None old) more
