-- Where no disk counts a fault, no step is answered by one.
use Rattle.std.proofs.Common.{◌≢◌, ℕ, ◌<◌, ◌≤◌, ◌^◌, ◌-◌, List, [], ◌∷◌, map, subst, arith}
use Rattle.hms_outside.specs.Causes.{Rose}
use Rattle.cat_types.specs.declared.steps.Answer.{Answer}
use Rattle.cat_types.specs.declared.steps.Answer.TheVariants.{StoreFault}
use Rattle.cat_types.specs.declared.steps.Step.{Step}
use Rattle.desk.specs.History.{Entry, IsLegal, NoneAbove, NoStoreFault, Point, Start, next, point_of, took}
use Rattle.desk.specs.State.{MayAnswer, State}
use Rattle.ms_cli.specs.Opened.{Closed, Outside, fault_of}

-- a fault of the store would have raised the fault number
not_told : (s : State) (before caller after : ℕ) (step : Step) (given : Answer) → MayAnswer s before caller step given after → after ≤ before → before < 2 ^ 64 - 1 → given ≢ StoreFault
not_told s before caller after step given may stays low = λ is.
    let told : MayAnswer s before caller step StoreFault after = subst (λ (a : Answer). MayAnswer s before caller step a after) is may in
    omega (arith, told.1, stays, low)

-- where no fault number is above that of the start, none was told
pub none_told : (p : Point) (es : List Entry) (n : ℕ) → IsLegal p (map took es) → NoneAbove n es → n ≤ p.fault → n < 2 ^ 64 - 1 → NoStoreFault es
none_told p [] n legal none stays low = tt
none_told p (e ∷ es) n legal none stays low = (
  not_told p.state p.fault e.0.caller e.1.fault e.0.step e.1.answer legal.0.1 (omega (arith, none.0, stays)) (omega (arith, legal.0.0, none.0, low, stays)),
  none_told (next p (took e)) es n legal.1 none.1 (omega (arith, legal.0.0, stays)) low,
)

-- a count that didn't rise stays, and is below the last value
pub did_not_rise : (before now : ℕ) → (Rose before now → ⊥) → (now ≤ before) × (now < 2 ^ 64 - 1)
did_not_rise before now quiet = (omega (arith, quiet), omega (arith, quiet))

pub counted : (start : Start) (entries : List Entry) (old new : Outside) → fault_of old ≤ start.fault → Closed start entries new.disk_a new.disk_b → (Rose (fault_of old) (fault_of new) → ⊥) → NoStoreFault entries
counted start entries old new later closed quiet =
    let d = did_not_rise (fault_of old) (fault_of new) quiet in
    none_told (point_of start) entries (fault_of new) closed.legal closed.none_above (omega (arith, d.0, later)) d.1
