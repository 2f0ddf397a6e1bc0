-- A dump's first turn, and its last one.
use Rattle.std.proofs.Common.{◌≡◌, ℕ, ℤ, Bool, IsTrue, List, [], ◌∷◌, ◌++◌, map, Option, refl, sym, ap, subst}
use Rattle.cat_types.specs.declared.steps.Answer.{Answer}
use Rattle.cat_types.specs.declared.steps.Answer.TheVariants as answer
use Rattle.cat_types.specs.declared.steps.Step.TheVariants.{DumpBegin, DumpEnd}
use Rattle.cat_values.specs.Names.{lower}
use Rattle.desk.specs.Adds.{Adds}
use Rattle.desk.specs.Entries.{Others}
use Rattle.desk.specs.History.{Entry, Legal, Start, point_after, point_of, state_after, took}
use Rattle.desk.specs.Walks.{Began, begin_step, began_answer, place_begun}
use Rattle.desk.proofs.Additions.{adds_as, adds_both, adds_one}
use Rattle.repl_dump.specs.Beginnings.{AnswersBegin, Unbegins}
use Rattle.repl_dump.specs.Dumps.{Dumps}
use Rattle.repl_dump.specs.Endings.{EndsSo}
use Rattle.repl_dump.specs.Files.{Files}
use Rattle.repl_dump.specs.Opened.{Takes, allows, any_kind}
use Rattle.repl_dump.specs.declared.dumping.DumpAnswer.{DumpAnswer}
use Rattle.repl_dump.proofs.Joining.{begin_answered, begun_takes, dumps_unbegun, dumps_whole}
use Rattle.repl_dump.proofs.Staying.{last_follows}
use Rattle.repl_dump.proofs.Stepping.{is_ended}
use Rattle.repl_dump.proofs.Taking.{takes_moved}
use Rattle.repl_dump.proofs.Turning.{entry_of, takes_others}

-- a turn behind those of others
abbrev pub Turns : ℕ → List Entry → List Entry → Entry → Type 0
Turns me old new entry = (between : List Entry) × Others me between × (new ≡ (old ++ between) ++ entry ∷ [])

-- ---- the end

-- an entry ends the dump with this number
abbrev pub EndsDump : ℕ → Entry → Type 0
EndsDump number entry = (entry.0.step ≡ DumpEnd number) × (entry.1.answer ≡ answer.Ended)

ended_so : (me number : ℕ) (start : Start) (before : List Entry) (given : Answer) (fault : ℕ) → Legal start (before ++ entry_of me (DumpEnd number) given fault ∷ []) → Takes any_kind me number start before → given ≡ answer.Ended
ended_so me number start before given fault legal takes =
    is_ended (state_after start before) (point_after (point_of start) (map took before)).fault me fault number given takes.dump (last_follows (point_of start) before (entry_of me (DumpEnd number) given fault) legal).1 takes.opened

-- what was done, and then the end of the dump
pub adds_ended : (P R : List Entry → Type 0) (alone : Bool) (me you number : ℕ) (start later : Start) (old mid new : List Entry) (given : Answer) (fault : ℕ) → you ≡ me → later ≡ start → Adds alone me old mid P
    → Turns you mid new (entry_of you (DumpEnd number) given fault) → (IsTrue alone → new ≡ mid ++ entry_of you (DumpEnd number) given fault ∷ []) → Legal later new → Takes any_kind you number start mid
    → ((own : List Entry) (ending : Entry) → P own → EndsDump number ending → R (own ++ ending ∷ [])) → Adds alone me old new R
adds_ended P R alone me you number start later old mid new given fault caller same first turns sole legal takes join =
    adds_both alone me old mid new P Q R first (adds_as alone you me mid new Q caller (adds_one alone you mid new turns.0 ending Q refl turns.1 turns.2 sole (refl, (refl, ended))))
    (λ xs ys did end. subst (λ (l : List Entry). R (xs ++ l)) (sym end.0) (join xs ending did end.1))
  where
    ending : Entry
    ending = entry_of you (DumpEnd number) given fault

    Q : List Entry → Type 0
    Q xs = (xs ≡ ending ∷ []) × EndsDump number ending

    ended : given ≡ answer.Ended
    ended = ended_so you number start (mid ++ turns.0) given fault (subst (λ (l : List Entry). Legal start l) turns.2 (subst (λ (s : Start). Legal s new) same legal)) (takes_others any_kind you number start mid turns.0 turns.1 takes)

-- ---- the beginning

-- the step that begins a dump of this database
abbrev pub first_entry : ℕ → List ℕ → Option ℤ → Option ℤ → Option ℤ → Answer → ℕ → Entry
first_entry me db from to limit given fault = entry_of me (DumpBegin db from to limit) given fault

pub first_fits : (me : ℕ) (later : Start) (old new : List Entry) (db : List ℕ) (from to limit : Option ℤ) (given : Answer) (fault : ℕ) → Turns me old new (first_entry me db from to limit given fault) → Legal later new → AnswersBegin given
first_fits me later old new db from to limit given fault turns legal =
    begin_answered me later (old ++ turns.0) (record { db = db; from = from; to = to; limit = limit }) given fault (subst (λ (l : List Entry). Legal later l) turns.2 legal)

pub first_takes : (me you : ℕ) (later : Start) (old new : List Entry) (db : List ℕ) (from to limit : Option ℤ) (began : Began) (given : Answer) (fault : ℕ) → you ≡ me → Turns me old new (first_entry me db from to limit given fault) → Legal later new
    → given ≡ began_answer began → Takes (allows (place_begun began.begin began.first)) you began.dump later new
first_takes me you later old new db from to limit began given fault caller turns legal told =
    takes_moved (allows (place_begun began.begin began.first)) me you began.dump later later ((old ++ turns.0) ++ first_entry me db from to limit given fault ∷ []) new caller refl turns.2
    (begun_takes me later (old ++ turns.0) (record { db = db; from = from; to = to; limit = limit }) began given fault told (subst (λ (l : List Entry). Legal later l) turns.2 legal))

-- the step that was taken is the one that is wanted
same_step : (db asked : List ℕ) (from to limit : Option ℤ) → asked ≡ db → DumpBegin asked from to limit ≡ begin_step (record { db = db; from = from; to = to; limit = limit })
same_step db asked from to limit is = ap (λ (d : List ℕ). DumpBegin d from to limit) is

-- ---- the whole dump

pub adds_dump : (alone : Bool) (me you : ℕ) (old mid new : List Entry) (db asked name : List ℕ) (from to limit : Option ℤ) (began : Began) (given : Answer) (fault : ℕ) (result : DumpAnswer) (before after : Option Files) → asked ≡ db → name ≡ lower db → you ≡ me
    → Turns me old mid (first_entry me asked from to limit given fault) → (IsTrue alone → mid ≡ old ++ first_entry me asked from to limit given fault ∷ []) → given ≡ began_answer began
    → Adds alone you mid new (EndsSo name began result before after) → Adds alone me old new (Dumps (record { db = db; from = from; to = to; limit = limit }) result before after)
adds_dump alone me you old mid new db asked name from to limit began given fault result before after is named caller turns sole told ends =
    adds_both alone me old mid new Only (EndsSo name began result before after) (Dumps (record { db = db; from = from; to = to; limit = limit }) result before after)
    (adds_one alone me old mid turns.0 first Only refl turns.1 turns.2 sole refl) (adds_as alone you me mid new (EndsSo name began result before after) caller ends)
    (λ xs ys one rest. subst (λ (l : List Entry). Dumps (record { db = db; from = from; to = to; limit = limit }) result before after (l ++ ys)) (sym one)
    (dumps_whole (record { db = db; from = from; to = to; limit = limit }) began first result before after ys (same_step db asked from to limit is) told (subst (λ (n : List ℕ). EndsSo n began result before after ys) named rest)))
  where
    first : Entry
    first = first_entry me asked from to limit given fault

    Only : List Entry → Type 0
    Only xs = xs ≡ first ∷ []

-- no dump was begun
pub adds_unbegun : (alone : Bool) (me : ℕ) (old new : List Entry) (db asked : List ℕ) (from to limit : Option ℤ) (given : Answer) (fault : ℕ) (result : DumpAnswer) (files : Option Files) → asked ≡ db
    → Turns me old new (first_entry me asked from to limit given fault) → (IsTrue alone → new ≡ old ++ first_entry me asked from to limit given fault ∷ []) → Unbegins result given
    → Adds alone me old new (Dumps (record { db = db; from = from; to = to; limit = limit }) result files files)
adds_unbegun alone me old new db asked from to limit given fault result files is turns sole told =
    adds_one alone me old new turns.0 (first_entry me asked from to limit given fault) (Dumps (record { db = db; from = from; to = to; limit = limit }) result files files) refl turns.1 turns.2 sole
    (dumps_unbegun (record { db = db; from = from; to = to; limit = limit }) (first_entry me asked from to limit given fault) result files (same_step db asked from to limit is) told)
