-- What holds of all filters.
use Rattle.std.specs.Prelude.{◌≡◌, ◌≢◌, ℕ, List, Option}
use Rattle.cat_values.specs.declared.storage.Column.{Column}
use Rattle.filter_expr.specs.Reading.{IsFault, Reads}
use Rattle.filter_expr.specs.Trees.{Any}
use Rattle.filter_expr.specs.declared.expr.Comparison.{Comparison}
use Rattle.filter_expr.specs.declared.fault.FilterFault.TheVariants.{NoMemory}
use Rattle.filter_expr.specs.declared.fault.FilterFault.{FilterFault}
use Rattle.filter_rules.specs.Filters.{filter_of, is_refused, refusal_by, spells}

-- a text that spells a tree is taken for it, and one that has a fault is refused by it
abbrev pub FiltersAreRead : Type 0
FiltersAreRead =
    ((text : List ℕ) (keys : List Column) (tree : Option (Any Comparison)) → Reads text keys tree → filter_of text keys ≡ spells tree)
    × ((text : List ℕ) (keys : List Column) (fault : FilterFault) (due : fault ≢ NoMemory) → IsFault text keys fault → filter_of text keys ≡ is_refused (refusal_by fault due))
