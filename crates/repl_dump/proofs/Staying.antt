-- An open dump stays open while others take their turns.
use Rattle.std.proofs.Common.{◌≡◌, ℕ, ◌+◌, Bool, true, false, not, cond, List, [], ◌∷◌, ◌++◌, map, Option, Some, None, refl, ◌∙◌, ap, arith}
use Rattle.std.specs.List.{find}
use Rattle.std.specs.Option.{option_or}
use Rattle.std.proofs.lemmas.Bool.Decides.{nat_tests}
use Rattle.std.proofs.lemmas.List.Folds.{find-append}
use Rattle.cat_types.specs.declared.steps.DumpRefusal.{DumpRefusal}
use Rattle.cat_types.specs.declared.steps.Step.{Step}
use Rattle.cat_types.specs.declared.steps.Step.TheVariants.{Client, DumpBegin, DumpEnd, DumpEvents, DumpParts, DumpSeal, DumpTable, Trim}
use Rattle.cat_objects.specs.Catalogue.{database}
use Rattle.cat_objects.specs.declared.held.HeldDb.{HeldDb}
use Rattle.cat_values.specs.Names.{lower}
use Rattle.desk.specs.Entries.{Others}
use Rattle.desk.specs.History.{Entry, IsLegal, MayFollow, Point, next, point_after, took}
use Rattle.desk.specs.State.{State, asked_for, beginning_by, due, due_dumps, dumps_begun, is_refused, refused_dump}
use Rattle.dump_steps.specs.Open.{is_dump, open_dump, sealed_at, takes_objects, with_sealed, without_dump}
use Rattle.dump_steps.specs.Pieces.{is_taken_in}
use Rattle.dump_steps.specs.declared.open_dumps.OpenDump.{OpenDump}
use Rattle.dump_steps.specs.declared.ranges.Asked.{Asked}

-- a dump of one caller isn't another's
apart : (me you n m : ℕ) (dump : OpenDump) → (you ≡ me → ⊥) → is_dump me n dump ≡ true → is_dump you m dump ≡ true → ⊥
apart me you n m dump other mine its = grind (arith, nat_tests, other, mine, its)

-- others' dumps were added
appended : (me n : ℕ) (dumps more : List OpenDump) (dump : OpenDump) → open_dump me n dumps ≡ Some dump → open_dump me n (dumps ++ more) ≡ Some dump
appended me n dumps more dump is = find-append (is_dump me n) dumps more ∙ ap (λ (o : Option OpenDump). option_or o (find (is_dump me n) more)) is

-- another's dump was ended
ended : (me you n m : ℕ) (dumps : List OpenDump) (dump : OpenDump) → (you ≡ me → ⊥) → open_dump me n dumps ≡ Some dump → open_dump me n (without_dump you m dumps) ≡ Some dump
ended me you n m [] dump other is = absurd cc
ended me you n m (x ∷ xs) dump other is = by_tests (is_dump me n x) (is_dump you m x) refl refl is (ended me you n m xs dump other)
  where
    by_tests : (b c : Bool) → is_dump me n x ≡ b → is_dump you m x ≡ c → cond b (Some x) (find (is_dump me n) xs) ≡ Some dump
        → (open_dump me n xs ≡ Some dump → open_dump me n (without_dump you m xs) ≡ Some dump)
        → open_dump me n (cond (not c) (x ∷ without_dump you m xs) (without_dump you m xs)) ≡ Some dump
    by_tests true true mine its is later = absurd (apart me you n m x other mine its)
    by_tests true false mine its is later = ap (λ (b : Bool). cond b (Some x) (find (is_dump me n) (without_dump you m xs))) mine ∙ is
    by_tests false true mine its is later = later is
    by_tests false false mine its is later = ap (λ (b : Bool). cond b (Some x) (find (is_dump me n) (without_dump you m xs))) mine ∙ later is

-- another's dump was sealed
sealed : (me you n m end : ℕ) (dumps : List OpenDump) (dump : OpenDump) → (you ≡ me → ⊥) → open_dump me n dumps ≡ Some dump → open_dump me n (with_sealed you m end dumps) ≡ Some dump
sealed me you n m end [] dump other is = absurd cc
sealed me you n m end (x ∷ xs) dump other is = by_tests (is_dump me n x) (is_dump you m x) refl refl is (sealed me you n m end xs dump other)
  where
    by_tests : (b c : Bool) → is_dump me n x ≡ b → is_dump you m x ≡ c → cond b (Some x) (find (is_dump me n) xs) ≡ Some dump
        → (open_dump me n xs ≡ Some dump → open_dump me n (with_sealed you m end xs) ≡ Some dump)
        → open_dump me n (cond c (sealed_at end x) x ∷ with_sealed you m end xs) ≡ Some dump
    by_tests true true mine its is later = absurd (apart me you n m x other mine its)
    by_tests true false mine its is later = ap (λ (b : Bool). cond b (Some x) (find (is_dump me n) (with_sealed you m end xs))) mine ∙ is
    by_tests false true mine its is later = ap (λ (b : Bool). cond b (Some (sealed_at end x)) (find (is_dump me n) (with_sealed you m end xs))) mine ∙ later is
    by_tests false false mine its is later = ap (λ (b : Bool). cond b (Some x) (find (is_dump me n) (with_sealed you m end xs))) mine ∙ later is

-- another's dump was begun, or refused
begun : (me you n : ℕ) (s : State) (db : List ℕ) (asked : Asked) (refusal : Option DumpRefusal) (held : Option HeldDb) (dump : OpenDump) → (you ≡ me → ⊥) → open_dump me n s.dumps ≡ Some dump
    → open_dump me n (dumps_begun s.dumps (beginning_by refusal held s you db asked)) ≡ Some dump
begun me you n s db asked (Some refusal) held dump other is = is
begun me you n s db asked None None dump other is = is
begun me you n s db asked None (Some held) dump other is = appended me n (without_dump you (s.last_dump + 1) s.dumps) _ dump (ended me you n (s.last_dump + 1) s.dumps dump other is)

-- another took a step that was answered as is due
due_stays : (me you n : ℕ) (s : State) (step : Step) (dump : OpenDump) → (you ≡ me → ⊥) → open_dump me n s.dumps ≡ Some dump → open_dump me n (due_dumps s you step) ≡ Some dump
due_stays me you n s (Client call moment) dump other is = is
due_stays me you n s (DumpBegin db from to limit) dump other is =
    begun me you n s (lower db) (asked_for from to limit) (refused_dump s db (asked_for from to limit)) (database s.catalogue (lower db)) dump other is
due_stays me you n s (DumpTable m after) dump other is = is
due_stays me you n s (DumpParts m table born after) dump other is = is
due_stays me you n s (DumpSeal m) dump other is = by_test (is_taken_in (open_dump you m s.dumps) takes_objects s.catalogue)
  where
    by_test : (b : Bool) → open_dump me n (cond b (with_sealed you m s.newest s.dumps) s.dumps) ≡ Some dump
    by_test true = sealed me you n m s.newest s.dumps dump other is
    by_test false = is
due_stays me you n s (DumpEvents m after) dump other is = is
due_stays me you n s (DumpEnd m) dump other is = ended me you n m s.dumps dump other is
due_stays me you n s (Trim upto) dump other is = is

-- another took a step, whatever it was answered
one_stays : (me n : ℕ) (p : Point) (e : Entry) (dump : OpenDump) → (e.0.caller ≡ me → ⊥) → open_dump me n p.state.dumps ≡ Some dump → open_dump me n (next p (took e)).state.dumps ≡ Some dump
one_stays me n p e dump other is = by_test (is_refused e.1.answer)
  where
    by_test : (b : Bool) → open_dump me n (cond {A = State} b p.state (due p.state e.0.caller e.0.step).state).dumps ≡ Some dump
    by_test true = is
    by_test false = due_stays me e.0.caller n p.state e.0.step dump other is

-- others took their turns
pub others_stay : (me n : ℕ) (p : Point) (es : List Entry) (dump : OpenDump) → Others me es → open_dump me n p.state.dumps ≡ Some dump → open_dump me n (point_after p (map took es)).state.dumps ≡ Some dump
others_stay me n p [] dump others is = is
others_stay me n p (e ∷ es) dump others is = others_stay me n (next p (took e)) es dump others.1 (one_stays me n p e dump others.0 is)

-- the last entry of a legal history follows where those before it lead
pub last_follows : (p : Point) (es : List Entry) (e : Entry) → IsLegal p (map took (es ++ e ∷ [])) → MayFollow (point_after p (map took es)) (took e)
last_follows p [] e legal = legal.0
last_follows p (x ∷ xs) e legal = last_follows (next p (took x)) xs e legal.1

pub point_on : (p : Point) (xs ys : List Entry) → point_after p (map took (xs ++ ys)) ≡ point_after (point_after p (map took xs)) (map took ys)
point_on p [] ys = refl
point_on p (x ∷ xs) ys = point_on (next p (took x)) xs ys
