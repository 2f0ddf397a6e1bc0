-- What calls of a folder do to its files.
use Rattle.std.specs.Prelude.{◌≡◌, ◌≢◌, ℕ, ⊤, List, Option, Result, MatchResult}
use Rattle.std.specs.BTreeMap.{insert_entry, is_at}
use Rattle.std.specs.Map.{lookup}
use Rattle.std.specs.Cmp.Lexicographic.{slice_cmp}
use Rattle.std.specs.Ordering.{nat_cmp}
use Rattle.hms_outside.specs.Told.{Goes, Same}
use Rattle.hms_outside.specs.declared.outage.Outage.{Outage}
use Rattle.hms_outside.specs.declared.outage.Outage.TheVariants.{Failed, NoMemory}

-- the bytes of the file with this name, where it is there; files stand in rising order of their names
abbrev pub file : List (List ℕ × List ℕ) → List ℕ → Option (List ℕ)
file files name = lookup (is_at (slice_cmp nat_cmp name)) files

-- the file was put; after a fault it has any bytes or is absent, and after want of memory nothing changed
abbrev pub Puts : {T : Type 0} → Option (List (List ℕ × List ℕ)) → Option (List (List ℕ × List ℕ)) → List ℕ → List ℕ → Result T Outage → Type 0
Puts old new name bytes result = MatchResult result
    (λ _. Goes (λ files after. after ≡ insert_entry (slice_cmp nat_cmp) files name bytes) old new)
    (λ fault. elim fault [
      | Failed ↦ Goes (λ files after. (other : List ℕ) → other ≢ name → file after other ≡ file files other) old new
      | NoMemory ↦ Goes Same old new
    ])

-- the files stayed, and the answer is the one with this name
abbrev pub Gets : Option (List (List ℕ × List ℕ)) → Option (List (List ℕ × List ℕ)) → List ℕ → Result (Option (List ℕ)) Outage → Type 0
Gets old new name result = Goes (λ files after. Same files after × MatchResult result (λ found. found ≡ file files name) (λ _. ⊤)) old new
