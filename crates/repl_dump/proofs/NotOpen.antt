-- No step of a dump is answered that no dump is open.
use Rattle.std.proofs.Common.{◌≡◌, ◌≢◌, ◌⊎◌, ℕ, List, [], ◌∷◌, ◌++◌, Option, sym, ◌∙◌, subst, inl, inr}
use Rattle.cat_types.specs.declared.steps.Answer.{Answer}
use Rattle.cat_types.specs.declared.steps.Answer.TheVariants as answer
use Rattle.cat_types.specs.declared.steps.DumpRefusal.{DumpRefusal}
use Rattle.cat_types.specs.declared.items.Item.TheVariants as item
use Rattle.cat_values.specs.declared.records.TableRec.{TableRec}
use Rattle.desk.specs.History.{Entry}
use Rattle.desk.specs.Walks.{Began, Fails, Goes, MayFail, Moves, Place, Wanted, began_answer, place_begun, step_at}
use Rattle.desk.specs.Walks as walk
use Rattle.repl_dump.specs.Dumps.{Dumps, NoneTold}
use Rattle.repl_dump.specs.Files.{Files}
use Rattle.repl_dump.specs.declared.dumping.DumpAnswer.{DumpAnswer}
use Rattle.repl_dump.specs.declared.dumping.DumpAnswer.TheVariants as dumped

pub began_apart : (began : Began) → began_answer began ≡ answer.NotOpen → ⊥
began_apart began q = absurd cc

-- an answer that leads on
moves_apart : (begin : ℕ) (from to : Place) (given : Answer) → Moves begin from given to → given ≢ answer.NotOpen
moves_apart begin (walk.tables after) to given (inl came) = λ q. by came.at came.table came.born came.rec (sym came.is ∙ q)
  where
    by : (at : ℕ) (table : List ℕ) (born : ℕ) (rec : TableRec) → answer.Table (item.Table at table born rec) ≡ answer.NotOpen → ⊥
    by at table born rec q = absurd cc
moves_apart begin (walk.tables after) to given (inr gone) = λ q. by (sym gone.0 ∙ q)
  where
    by : answer.NoTable ≡ answer.NotOpen → ⊥
    by q = absurd cc
moves_apart begin (walk.parts table born after) to given came = λ q. by (sym came.is ∙ q)
  where
    by : answer.Parts came.items came.more ≡ answer.NotOpen → ⊥
    by q = absurd cc
moves_apart begin walk.seal to given came = λ q. by (sym came.is ∙ q)
  where
    by : answer.Sealed came.number ≡ answer.NotOpen → ⊥
    by q = absurd cc
moves_apart begin (walk.events after) to given came = λ q. by (sym came.is ∙ q)
  where
    by : answer.Events came.found came.more ≡ answer.NotOpen → ⊥
    by q = absurd cc
moves_apart begin walk.end to given came = λ q. by (sym came.0 ∙ q)
  where
    by : answer.Ended ≡ answer.NotOpen → ⊥
    by q = absurd cc
moves_apart begin walk.done to given came = absurd came

pub goes_open : (dump begin : ℕ) (from to : Place) (own : List Entry) → Goes dump begin from own to → NoneTold answer.NotOpen own
goes_open dump begin from to [] goes = tt
goes_open dump begin from to (x ∷ xs) goes = (moves_apart begin from goes.1.0 x.1.answer goes.1.1.0, goes_open dump begin goes.1.0 to xs goes.1.1.1)

open_both : (xs ys : List Entry) → NoneTold answer.NotOpen xs → NoneTold answer.NotOpen ys → NoneTold answer.NotOpen (xs ++ ys)
open_both [] ys a b = b
open_both (x ∷ xs) ys a b = (a.0, open_both xs ys a.1 b)

-- an answer with which a walk fails
fails_apart : (dump : ℕ) (place : Place) (entry : Entry) → Fails dump place entry → entry.1.answer ≢ answer.NotOpen
fails_apart dump place entry fails = by fails.1
  where
    by : ((refusal : DumpRefusal) × (entry.1.answer ≡ answer.DumpRefused refusal)) ⊎ (entry.1.answer ≡ answer.NoMemory) → entry.1.answer ≢ answer.NotOpen
    by (inl refused) = λ q. apart refused.0 (sym refused.1 ∙ q)
      where
        apart : (r : DumpRefusal) → answer.DumpRefused r ≡ answer.NotOpen → ⊥
        apart r p = absurd cc
    by (inr memory) = λ q. apart (sym memory ∙ q)
      where
        apart : answer.NoMemory ≡ answer.NotOpen → ⊥
        apart p = absurd cc

may_fail_open : (dump : ℕ) (place : Place) (failed : List Entry) → MayFail dump place failed → NoneTold answer.NotOpen failed
may_fail_open dump place [] fails = tt
may_fail_open dump place (x ∷ []) fails = (fails_apart dump place x fails, tt)
may_fail_open dump place (x ∷ (y ∷ more)) fails = absurd fails

ended_apart : (given : Answer) → given ≡ answer.Ended → given ≢ answer.NotOpen
ended_apart given is = λ q. by (sym is ∙ q)
  where
    by : answer.Ended ≡ answer.NotOpen → ⊥
    by q = absurd cc

pub ends_open : (dump begin : ℕ) (from place : Place) (own walked failed : List Entry) (ending : Entry) → own ≡ walked ++ (failed ++ ending ∷ []) → Goes dump begin from walked place → MayFail dump place failed → ending.1.answer ≡ answer.Ended
    → NoneTold answer.NotOpen own
ends_open dump begin from place own walked failed ending is goes fails ended =
    subst (λ (l : List Entry). NoneTold answer.NotOpen l) (sym is)
    (open_both walked (failed ++ ending ∷ []) (goes_open dump begin from place walked goes) (open_both failed (ending ∷ []) (may_fail_open dump place failed fails) (ended_apart ending.1.answer ended, tt)))

-- however a dump ends
pub dumps_open : (wanted : Wanted) (result : DumpAnswer) (old new : Option Files) (own : List Entry) → Dumps wanted result old new own → NoneTold answer.NotOpen own
dumps_open wanted (dumped.Done dir last) old new own done =
    subst (λ (l : List Entry). NoneTold answer.NotOpen l) (sym done.walk.is)
    (λ q. began_apart done.began (sym done.walk.answer ∙ q), goes_open done.began.dump done.began.begin (place_begun done.began.begin done.began.first) walk.done done.walk.others done.walk.goes)
dumps_open wanted (dumped.Refused refusal) old new own done = done.0.stays_open
dumps_open wanted dumped.FolderFault old new own done = done.stays_open
dumps_open wanted dumped.StoreFault old new own done = done.0.stays_open
dumps_open wanted dumped.NoMemory old new own (inl none) = subst (λ (l : List Entry). NoneTold answer.NotOpen l) (sym none.0) tt
dumps_open wanted dumped.NoMemory old new own (inr broken) = broken.stays_open
