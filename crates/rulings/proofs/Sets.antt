-- Sets with one element more.
use Rattle.std.proofs.Common.{◌≡◌, Bool, true, false, ◌||◌, cond, refl, ap}
use Rattle.std.specs.Ordering.{is_eq, ordering_reverse}
use Rattle.std.specs.declared.cmp.Ordering.{Ordering}
use Rattle.std.specs.declared.cmp.Ordering.TheVariants.{Less, Equal, Greater}

-- whether two keys are one stays where they are compared the other way round
pub turned_eq : (o p : Ordering) → o ≡ ordering_reverse p → is_eq o ≡ is_eq p
turned_eq o Less is = ap is_eq is
turned_eq o Equal is = ap is_eq is
turned_eq o Greater is = ap is_eq is

-- the one that was added is found, or one that was there
pub found_or : (b c : Bool) → cond b true c ≡ (b || c)
found_or true c = refl
found_or false c = refl
