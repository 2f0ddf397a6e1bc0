-- The rules of a call, of which the first broken one refuses it.
use Rattle.std.specs.Prelude.{Bool, List, [], ◌∷◌, Option, None, Some, if◌then◌else◌}
use Rattle.rulings.specs.declared.refusal.Refusal.{Refusal}

-- a rule of a call: whether it is broken, and what the call is refused for then
abbrev pub Rule : Type 0
Rule = Bool × Refusal

-- the refusal of the first of these rules that is broken
abbrev pub first_broken : List Rule → Option Refusal
first_broken [] = None
first_broken (rule ∷ rules) = if rule.0 then Some rule.1 else first_broken rules
