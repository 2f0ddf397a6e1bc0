-- How a legal history goes on.
use Rattle.std.proofs.Common.{◌≡◌, ◌≢◌, ◌≤◌, ℕ, List, [], ◌∷◌, ◌++◌, map, refl, subst, arith}
use Rattle.desk.specs.State.{State, MayAnswer}
use Rattle.desk.specs.History.{Transition, took, Point, next, point_after, IsLegal, NoneAbove, NoStoreFault, Entry}
use Rattle.cat_types.specs.declared.steps.Answer.{Answer}
use Rattle.cat_types.specs.declared.steps.Step.{Step}
use Rattle.cat_types.specs.declared.steps.Answer.TheVariants.{StoreFault}

pub point_after-append : (p : Point) (xs ys : List Transition) → point_after p (xs ++ ys) ≡ point_after (point_after p xs) ys
point_after-append p [] ys = refl
point_after-append p (x ∷ xs) ys = point_after-append (next p x) xs ys

pub IsLegal-append : (p : Point) (xs ys : List Transition) → IsLegal p xs → IsLegal (point_after p xs) ys → IsLegal p (xs ++ ys)
IsLegal-append p [] ys l r = r
IsLegal-append p (x ∷ xs) ys l r = (l.0, IsLegal-append (next p x) xs ys l.1 r)

-- a fault of the store would have raised the fault number above 0
not_told : (s : State) (before caller after : ℕ) (step : Step) (given : Answer) → MayAnswer s before caller step given after → after ≤ 0 → given ≢ StoreFault
not_told s before caller after step given may none is =
    let told : MayAnswer s before caller step StoreFault after = subst (λ (a : Answer). MayAnswer s before caller step a after) is may in
    omega (arith, told.1, none)

-- where no fault was counted none was told
pub no_store_fault : (p : Point) (es : List Entry) → IsLegal p (map took es) → NoneAbove 0 es → NoStoreFault es
no_store_fault p [] legal none = tt
no_store_fault p (e ∷ es) legal none = (not_told p.state p.fault e.0.caller e.1.fault e.0.step e.1.answer legal.0.1 none.0, no_store_fault (next p (took e)) es legal.1 none.1)
