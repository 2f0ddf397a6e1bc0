-- A row of files, and one file more.
use Rattle.std.proofs.Common.{◌≡◌, List, [], ◌∷◌, ◌++◌, Option, sym, ap, subst, ◌∙◌, append-nil, append_assoc}
use Rattle.std.specs.List.{last_or}
use Rattle.dump_files.specs.Files.{AreFiles, IsFile, Rule}
use Rattle.dump_files.specs.Rows.{all_of}
use Rattle.dump_files.proofs.Turns.{last_of_both}

pub all_of-more : {T : Type 0} (files : List (List T)) (file : List T) → all_of (files ++ file ∷ []) ≡ all_of files ++ file
all_of-more [] file = append-nil file
all_of-more (first ∷ files) file = ap (λ (l : List _). first ++ l) (all_of-more files file) ∙ sym (append_assoc first (all_of files) file)

pub AreFiles-more : {T : Type 0} (rule : Rule T) (last : Option T) (files : List (List T)) (file : List T) → AreFiles rule last files → IsFile rule (last_or last (all_of files)) file → AreFiles rule last (files ++ file ∷ [])
AreFiles-more rule last [] file s f = (f, tt)
AreFiles-more rule last (first ∷ files) file s f = (s.0, AreFiles-more rule (last_or last first) files file s.1 (subst (λ (o : Option _). IsFile rule o file) (last_of_both last first (all_of files)) f))
