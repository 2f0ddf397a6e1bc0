-- Which callers' turns a value stands for.
use Rattle.std.specs.Prelude.{ℕ, List, [], ◌∷◌, ◌++◌}
use Rattle.bench.specs.declared.counter.Log.{Log, Empty, Turn'}

-- the callers whose turns a log holds, the earliest first
abbrev pub turns_in : Log → List ℕ
turns_in Empty = []
turns_in (Turn' caller marker before) = turns_in before ++ caller ∷ []
