-- What the command that takes off kept events does.
use Rattle.std.specs.Prelude.{◌≡◌, ℕ, ℤ, List, [], ◌∷◌, codes, Option}
use Rattle.cat_types.specs.declared.steps.Answer.{Answer}
use Rattle.cat_types.specs.declared.steps.Answer.TheVariants as answer
use Rattle.cat_types.specs.declared.steps.Step.TheVariants.{Trim}
use Rattle.desk.specs.History.{Entry}
use Rattle.hms_outside.specs.Told.{Held}
use Rattle.ms_cli.specs.Opened.{Outside}
use Rattle.ms_cli.specs.Telling.{Errors, Says, Fails, kept_line}

-- how an answer to a trim is told: the number of the first kept event by its line on the output, a fault of the store or want of memory by its line on the sink of errors, and its status
abbrev pub TellsTrim : Answer → Option Held → Option Held → Errors → Errors → ℕ → Type 0
TellsTrim (answer.Kept first) old new errors errors' status = Says (kept_line first) old new errors errors' status
TellsTrim answer.StoreFault old new errors errors' status = Fails (codes "store fault\n") 5 old new errors errors' status
TellsTrim answer.NoMemory old new errors errors' status = Fails (codes "out of memory\n") 10 old new errors errors' status
TellsTrim other old new errors errors' status = ⊥

-- one step of a caller alone took off the kept events up to this number, and its answer was told; nothing else was used
pub record Trims (upto : ℤ) (old new : Outside) (status : ℕ) (entries : List Entry) : Type 0 where
  pub entry : Entry
  pub is : entries ≡ entry ∷ []
  pub step : entry.0.step ≡ Trim upto
  pub told : TellsTrim entry.1.answer old.met.held new.met.held old.errors new.errors status
  pub source_stays : new.met.left ≡ old.met.left
  pub clock_stays : new.met.clock ≡ old.met.clock
  pub shelf_stays : new.met.shelf ≡ old.met.shelf
