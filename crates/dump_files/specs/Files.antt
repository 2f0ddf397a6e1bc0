-- Files of elements that are judged one behind the other, over a row of files.
use Rattle.std.specs.Prelude.{◌≡◌, ◌≢◌, ◌-◌, ◌==◌, ℕ, zero, suc, Bool, true, List, [], ◌∷◌, ◌++◌, length, Option, Some, Result, Ok, Err, OnOk, if◌then◌else◌}
use Rattle.std.specs.List.{last_or}
use Rattle.cat_values.specs.declared.list_of.TheConstants.{LIST_END}
use Rattle.change_codec.specs.Forms.{Form, Reading, ◌>>=◌, count_read, list_of}
use Rattle.change_codec.specs.Whole.{whole}
use Rattle.dump_files.specs.declared.fault.FileFault.{FileFault}
use Rattle.dump_files.specs.declared.fault.FileFault.TheVariants as fault

-- a rule: whether an element may stand behind the last one, which may be another file's, at a place in its file that is counted from 0
abbrev pub Rule : Type 0 → Type 0
Rule T = Option T → ℕ → T → Bool

-- from a place on, each element may stand where it stands
abbrev pub AllStand : {T : Type 0} → Rule T → Option T → ℕ → List T → Type 0
AllStand rule last place [] = Unit {0}
AllStand rule last place (element ∷ elements) = (rule last place element ≡ true) × AllStand rule (Some element) (suc place) elements

-- a file has an element at least, and each may stand where it stands
abbrev pub IsFile : {T : Type 0} → Rule T → Option T → List T → Type 0
IsFile rule last elements = (elements ≢ []) × AllStand rule last 0 elements

-- a row of files: each is a file behind those before it
abbrev pub AreFiles : {T : Type 0} → Rule T → Option T → List (List T) → Type 0
AreFiles rule last [] = Unit {0}
AreFiles rule last (file ∷ files) = IsFile rule last file × AreFiles rule (last_or last file) files

-- an element that may stand there; where it may not, reading stops where it begins
unfoldable pub element_read : {T : Type 0} → (T → Bool) → (List ℕ → Reading T) → List ℕ → Reading T
element_read stands read bytes = do
  element ← read bytes
  if stands element.0 then Ok element else Err (length bytes)

-- so many elements, one behind the other, each of which may stand where it stands
unfoldable pub elements_read : {T : Type 0} → Rule T → (List ℕ → Reading T) → ℕ → Option T → ℕ → List ℕ → Reading (List T)
elements_read rule read zero last place bytes = Ok ([], bytes)
elements_read rule read (suc count) last place bytes = do
  element ← element_read (rule last place) read bytes
  others ← elements_read rule read count (Some element.0) (suc place) element.1
  Ok (element.0 ∷ others.0, others.1)

-- a count and so many elements; behind a count of 0 an element is missing
unfoldable pub file_read : {T : Type 0} → Rule T → Option T → (List ℕ → Reading T) → List ℕ → Reading (List T)
file_read rule last read bytes = do
  count ← count_read (LIST_END - 1) bytes
  if count.0 == 0 then Err (length count.1) else elements_read rule read count.0 last 0 count.1

-- the form of a file behind the last element: that of a list, for files alone
abbrev pub file_of : {T : Type 0} → Rule T → Form T → Option T → Form (List T)
file_of rule form last = record {
  HasCode = λ elements. IsFile rule last elements × (list_of form).HasCode elements;
  code = (list_of form).code;
  read = file_read rule last form.read;
}

-- a list begins with what it held
abbrev pub BeginsWith : {T : Type 0} → List T → List T → Type 0
BeginsWith {T} old new = (more : List T) × (new ≡ old ++ more)

-- a list gained the elements that these bytes spell, which are a file
abbrev pub Gains : {T : Type 0} → Form (List T) → List ℕ → List T → List T → Type 0
Gains {T} form bytes old new = (file : List T) × (new ≡ old ++ file) × form.HasCode file × (bytes ≡ form.code file)

-- a list gained what was read, or the fault tells the offset of the refusal, unless memory was refused
abbrev pub Judges : {T : Type 0} → Result (List T) ℕ → List T → List T → Result (Unit {0}) FileFault → Type 0
Judges {T} judged old new (Ok done) = (file : List T) × (judged ≡ Ok file) × (new ≡ old ++ file)
Judges judged old new (Err (fault.Grammar offset)) = judged ≡ Err offset
Judges judged old new (Err fault.NoMemory) = Unit {0}

-- all that a call answers about a file that these bytes are to spell, and that a list is to gain
pub record ReadsFile {T : Type 0} (form : Form (List T)) (bytes : List ℕ) (old new : List T) (result : Result (Unit {0}) FileFault) : Type 0 where
  -- what the list held stays in front
  pub kept : BeginsWith old new
  -- what is answered Ok is gained, and spelled so
  pub found : OnOk result (Gains form bytes old new)
  -- a file that is spelled so is gained
  pub only : (file : List T) → form.HasCode file → bytes ≡ form.code file → Judges (Ok file) old new result
  -- which fault it is
  pub exact : Judges (whole form bytes) old new result
