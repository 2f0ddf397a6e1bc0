-- How what was written grows by one answer more.
use Rattle.std.proofs.Common.{◌≡◌, ◌⊎◌, ℕ, ◌+◌, ◌<◌, ◌^◌, List, [], ◌∷◌, ◌++◌, length, map, Option, Some, None, sym, subst, inl, inr, arith}
use Rattle.std.proofs.lemmas.List.{map-append}
use Rattle.dump_texts.specs.Texts.{at_path, files_from, name_at, path_in}
use Rattle.dump_texts.specs.declared.kinds.FileKind.{FileKind}
use Rattle.dump_texts.specs.declared.kinds.FileKind.TheVariants.{EventFile, ItemFile}
use Rattle.dump_texts.proofs.Told.{kinds_differ, names_differ}
use Rattle.hms_outside.specs.Told.{Goes}
use Rattle.repl_dump.specs.Files.{Files, Gained, IsAmong}
use Rattle.repl_dump.proofs.Putting.{gained_more}

-- a name among files of one kind has a lower number than the next one
among_from : (dir : List ℕ) (kind : FileKind) (place : ℕ) (texts : List (List ℕ)) (name : List ℕ) → IsAmong name (map (at_path dir) (files_from kind place texts))
    → (m : ℕ) × (m < place + length texts) × (name ≡ path_in dir (name_at kind m))
among_from dir kind place [] name is = absurd is
among_from dir kind place (t ∷ ts) name (inl here) = (place, omega arith, here)
among_from dir kind place (t ∷ ts) name (inr later) = let found = among_from dir kind (place + 1) ts name later in (found.0, omega (arith, found.1), found.2)

among_split : (name : List ℕ) (xs ys : Files) → IsAmong name (xs ++ ys) → IsAmong name xs ⊎ IsAmong name ys
among_split name [] ys is = inr is
among_split name (x ∷ xs) ys (inl here) = inl (inl here)
among_split name (x ∷ xs) ys (inr later) = by (among_split name xs ys later)
  where
    by : IsAmong name xs ⊎ IsAmong name ys → IsAmong name (x ∷ xs) ⊎ IsAmong name ys
    by (inl is) = inl (inr is)
    by (inr is) = inr is

-- the texts of items and events, as files of a directory
abbrev pub files_of : List ℕ → List (List ℕ) → List (List ℕ) → Files
files_of dir items events = map (at_path dir) (files_from ItemFile 0 items ++ files_from EventFile 0 events)

in_parts : (dir : List ℕ) (items events : List (List ℕ)) (name : List ℕ) → IsAmong name (files_of dir items events)
    → IsAmong name (map (at_path dir) (files_from ItemFile 0 items)) ⊎ IsAmong name (map (at_path dir) (files_from EventFile 0 events))
in_parts dir items events name is =
    among_split name (map (at_path dir) (files_from ItemFile 0 items)) (map (at_path dir) (files_from EventFile 0 events))
    (subst (λ (files : Files). IsAmong name files) (map-append (at_path dir) (files_from ItemFile 0 items) (files_from EventFile 0 events)) is)

pub item_is_new : (dir : List ℕ) (items events : List (List ℕ)) (n : ℕ) → n ≡ length items → n < 2 ^ 64 → IsAmong (path_in dir (name_at ItemFile n)) (files_of dir items events) → ⊥
item_is_new dir items events n count fits is = by (in_parts dir items events (path_in dir (name_at ItemFile n)) is)
  where
    by : IsAmong (path_in dir (name_at ItemFile n)) (map (at_path dir) (files_from ItemFile 0 items)) ⊎ IsAmong (path_in dir (name_at ItemFile n)) (map (at_path dir) (files_from EventFile 0 events)) → ⊥
    by (inl one) =
        let found = among_from dir ItemFile 0 items (path_in dir (name_at ItemFile n)) one in
        let lower : found.0 < n = omega (arith, found.1, count) in
        let same : n ≡ found.0 = names_differ dir ItemFile n found.0 fits (omega (arith, lower, fits)) found.2 in
        absurd (omega (arith, lower, same))
    by (inr one) =
        let found = among_from dir EventFile 0 events (path_in dir (name_at ItemFile n)) one in
        kinds_differ dir n found.0 found.2

pub event_is_new : (dir : List ℕ) (items events : List (List ℕ)) (n : ℕ) → n ≡ length events → n < 2 ^ 64 → IsAmong (path_in dir (name_at EventFile n)) (files_of dir items events) → ⊥
event_is_new dir items events n count fits is = by (in_parts dir items events (path_in dir (name_at EventFile n)) is)
  where
    by : IsAmong (path_in dir (name_at EventFile n)) (map (at_path dir) (files_from ItemFile 0 items)) ⊎ IsAmong (path_in dir (name_at EventFile n)) (map (at_path dir) (files_from EventFile 0 events)) → ⊥
    by (inl one) =
        let found = among_from dir ItemFile 0 items (path_in dir (name_at EventFile n)) one in
        kinds_differ dir found.0 n (sym found.2)
    by (inr one) =
        let found = among_from dir EventFile 0 events (path_in dir (name_at EventFile n)) one in
        let lower : found.0 < n = omega (arith, found.1, count) in
        let same : n ≡ found.0 = names_differ dir EventFile n found.0 fits (omega (arith, lower, fits)) found.2 in
        absurd (omega (arith, lower, same))

-- one file more of another name, where the folder tells its files
pub grown : (texts : Files) (first before after : Option Files) (name bytes : List ℕ) → (IsAmong name texts → ⊥) → Goes (Gained texts) first before → Goes (Gained ((name, bytes) ∷ [])) before after
    → Goes (Gained (texts ++ (name, bytes) ∷ [])) first after
grown texts None before after name bytes new a b = tt
grown texts (Some f) None after name bytes new a b = absurd a
grown texts (Some f) (Some g) None name bytes new a b = b
grown texts (Some f) (Some g) (Some h) name bytes new a b = gained_more texts f g h name bytes a b new

-- a name among the files of a directory is one of a kind and a number
pub among_files : (dir : List ℕ) (items events : List (List ℕ)) (name : List ℕ) → IsAmong name (files_of dir items events) → (kind : FileKind) × (n : ℕ) × (name ≡ path_in dir (name_at kind n))
among_files dir items events name is = by (in_parts dir items events name is)
  where
    by : IsAmong name (map (at_path dir) (files_from ItemFile 0 items)) ⊎ IsAmong name (map (at_path dir) (files_from EventFile 0 events)) → (kind : FileKind) × (n : ℕ) × (name ≡ path_in dir (name_at kind n))
    by (inl one) = let found = among_from dir ItemFile 0 items name one in (ItemFile, found.0, found.2)
    by (inr one) = let found = among_from dir EventFile 0 events name one in (EventFile, found.0, found.2)
