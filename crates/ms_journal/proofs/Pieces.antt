-- Reading a disk piece by piece.
use Rattle.std.proofs.Common.{◌≡◌, ℕ, ◌+◌, ◌≤◌, Bool, true, false, List, [], ◌∷◌, ◌++◌, length, take, drop, Option, Some, None, refl, sym, ◌∙◌, ap, arith, append_assoc, length-append, take-append-drop}
use Rattle.std.specs.Prelude.{IfSome}
use Rattle.std.proofs.lemmas.List.{append-nil, drop_at}
use Rattle.hms_outside.specs.Disks.{Lies}
use Rattle.ms_journal.specs.Parsed.{ReadsOn}

-- these bytes are the first of those that are held
abbrev pub IsFirstOf : List ℕ → List ℕ → Type 0
IsFirstOf read held = read ++ drop (length read) held ≡ held

pub nothing_first : (o : Option Lies) (read : List ℕ) → read ≡ [] → IfSome o (λ d. IsFirstOf read d.held)
nothing_first None read is = tt
nothing_first (Some d) read is = ap (λ (l : List ℕ). l ++ drop (length l) d.held) is

first_then : (read rest held : List ℕ) → held ≡ read ++ rest → IsFirstOf read held
first_then read rest held is = ap (λ (l : List ℕ). read ++ drop (length read) l) is ∙ ap (λ (l : List ℕ). read ++ l) (drop_at read rest (length read) refl) ∙ sym is

-- a piece more was read
pub piece_first : (o : Option Lies) (old new : List ℕ) (more : Bool) → IfSome o (λ d. IsFirstOf old d.held) → IfSome o (λ d. ReadsOn more old new d.held) → IfSome o (λ d. IsFirstOf new d.held)
piece_first None old new more first on = tt
piece_first (Some d) old new more first on =
    let rest = drop (length old) d.held in
    first_then new (drop on.count rest) d.held
    (sym first ∙ ap (λ (l : List ℕ). old ++ l) (sym (take-append-drop on.count rest)) ∙ sym (append_assoc old (take on.count rest) (drop on.count rest)) ∙ ap (λ (l : List ℕ). l ++ drop on.count rest) (sym on.added))

all_there : (old rest held : List ℕ) → old ++ rest ≡ held → length held ≤ length old → old ≡ held
all_there old [] held is le = sym (append-nil old) ∙ is
all_there old (x ∷ rest) held is le = absurd (omega (arith, ap length is, length-append old (x ∷ rest)))

-- nothing more was there to be read
pub all_read : (o : Option Lies) (old new : List ℕ) → IfSome o (λ d. IsFirstOf old d.held) → IfSome o (λ d. ReadsOn false old new d.held) → IfSome o (λ d. new ≡ d.held)
all_read None old new first on = tt
all_read (Some d) old new first on = let end = on.all refl in end.1 ∙ all_there old (drop (length old) d.held) d.held first end.0
