-- A folder that stays, and lines one after the other.
use Rattle.std.proofs.Common.{◌≡◌, sym, ap, ◌∙◌, arith, ℕ, zero, suc, ◌≤◌, ◌<◌, ◌+◌, length, take, drop, slice_index_or, List, [], ◌∷◌, ◌++◌, Option, None, Some}
use Rattle.hms_outside.specs.Told.{Goes, Same}
use Rattle.hms_outside.specs.Causes.{Rose}
use Rattle.hms_outside.specs.Folders.{file}
use Rattle.dump_format.specs.declared.harm.Harm.{Harm}
use Rattle.dump_format.specs.declared.harm.ReadDumpFault.{ReadDumpFault}
use Rattle.dump_format.specs.declared.harm.ReadDumpFault.TheVariants as fault
use Rattle.dump_format.specs.Harms.{FaultIs, IsFound}

pub goes_on : {X : Type 0} (a b c : Option X) → Goes Same a b → Goes Same b c → Goes Same a c
goes_on None b c ab bc = tt
goes_on (Some x) None c ab bc = absurd ab
goes_on (Some x) (Some y) None ab bc = absurd bc
goes_on (Some x) (Some y) (Some z) ab bc = bc ∙ ab

pub found_before : (a b : Option (List (List ℕ × List ℕ))) (name : List ℕ) (found : Option (List ℕ)) → Goes Same a b → IsFound b name found → IsFound a name found
found_before None b name found ab there = tt
found_before (Some x) None name found ab there = absurd ab
found_before (Some x) (Some y) name found ab there = there ∙ ap (λ files. file files name) ab

rose_before : (a b c : ℕ) → a ≤ b → Rose b c → Rose a c
rose_before a b c ab bc = omega arith

-- a fault told from a later count on, and of less, is one
pub fault_weaker : (a b c : ℕ) (P Q : List ℕ → Harm → Type 0) (f : ReadDumpFault) → a ≤ b → ((name : List ℕ) (harm : Harm) → P name harm → Q name harm) → FaultIs b c P f → FaultIs a c Q f
fault_weaker a b c P Q (fault.Damaged name harm) ab gives bad = gives name harm bad
fault_weaker a b c P Q fault.FolderFault ab gives bad = rose_before a b c ab bad
fault_weaker a b c P Q fault.NoMemory ab gives bad = tt

-- the line at a place, between those before it and those after it
pub split_at : {T : Type 0} (lines : List T) (i : ℕ) (l : T) → i < length lines → l ≡ slice_index_or lines i l → lines ≡ take i lines ++ l ∷ drop (suc i) lines
split_at [] i l some at = absurd (omega (arith, some))
split_at (x ∷ xs) zero l some at = ap (λ y. y ∷ xs) (sym at)
split_at (x ∷ xs) (suc i) l some at = ap (λ ys. x ∷ ys) (split_at xs i l (omega (arith, some)) at)

one_more : {T : Type 0} (lines : List T) (i : ℕ) (l : T) → i < length lines → l ≡ slice_index_or lines i l → take (suc i) lines ≡ take i lines ++ l ∷ []
one_more [] i l some at = absurd (omega (arith, some))
one_more (x ∷ xs) zero l some at = ap (λ y. y ∷ []) (sym at)
one_more (x ∷ xs) (suc i) l some at = ap (λ ys. x ∷ ys) (one_more xs i l (omega (arith, some)) at)

pub one_line_more : {T : Type 0} (lines : List T) (i : ℕ) (l : T) → i < length lines → l ≡ slice_index_or lines i l → take (i + 1) lines ≡ take i lines ++ l ∷ []
one_line_more lines i l some at =
    let next : i + 1 ≡ suc i = omega arith in
    ap (λ n. take n lines) next ∙ one_more lines i l some at
