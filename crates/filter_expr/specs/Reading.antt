-- What a text is as a filter, against the keys of a table.
use Rattle.std.specs.Prelude.{◌≡◌, ℕ, List, Option, None, Some}
use Rattle.cat_values.specs.declared.storage.Column.{Column}
use Rattle.filter_expr.specs.declared.expr.Comparison.{Comparison}
use Rattle.filter_expr.specs.declared.expr.Expr.{Expr}
use Rattle.filter_expr.specs.declared.fault.FilterFault.{FilterFault}
use Rattle.filter_expr.specs.declared.fault.FilterFault.TheVariants.{Syntax, TooDeep, UnknownKey, WrongType, NoMemory}
use Rattle.filter_expr.specs.declared.tree.Written.{Written}
use Rattle.filter_expr.specs.Grammar.{IsFilter, StopsFilter}
use Rattle.filter_expr.specs.Keys.{bound, first_unknown, first_wrong}
use Rattle.filter_expr.specs.Tokens.{tokens}
use Rattle.filter_expr.specs.Trees.{Any, comparisons, tree_map, tree_steps}

-- an Expr stands for a tree
abbrev pub IsTreeOf : Option (Any Comparison) → Expr → Type 0
IsTreeOf tree expr = expr.steps.items ≡ tree_steps tree

-- a text spells a filter whose keys there are, and which compares each with literals of its kind; in its tree each comparison has its
-- key's place, the first of equal names, and its kind
abbrev pub Reads : List ℕ → List Column → Option (Any Comparison) → Type 0
Reads text keys tree =
    (written : Option (Any Written)) × IsFilter written (tokens text)
    × (first_unknown keys (comparisons written) ≡ None) × (first_wrong keys (comparisons written) ≡ None)
    × (tree ≡ tree_map (bound keys) written)

-- why a text is refused: its tokens stop to be a filter; else a key of it isn't there; else one is compared with a literal of another
-- kind
abbrev pub IsFault : List ℕ → List Column → FilterFault → Type 0
IsFault text keys (Syntax place) = StopsFilter (Syntax place) (tokens text)
IsFault text keys TooDeep = StopsFilter TooDeep (tokens text)
IsFault text keys (UnknownKey key) = (written : Option (Any Written)) × IsFilter written (tokens text) × (first_unknown keys (comparisons written) ≡ Some key)
IsFault text keys (WrongType key) =
    (written : Option (Any Written)) × IsFilter written (tokens text)
    × (first_unknown keys (comparisons written) ≡ None) × (first_wrong keys (comparisons written) ≡ Some key)
IsFault text keys NoMemory = Unit {0}
