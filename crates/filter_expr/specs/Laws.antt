-- What holds of all texts.
use Rattle.std.specs.Prelude.{◌≡◌, ◌≢◌, ◌⊎◌, ℕ, List, ◌∷◌, ◌++◌, Option}
use Rattle.cat_values.specs.declared.storage.Column.{Column}
use Rattle.filter_expr.specs.declared.expr.Comparison.{Comparison}
use Rattle.filter_expr.specs.declared.fault.FilterFault.{FilterFault}
use Rattle.filter_expr.specs.declared.fault.FilterFault.TheVariants.{Syntax, TooDeep, NoMemory}
use Rattle.filter_expr.specs.declared.token.Token.{Token}
use Rattle.filter_expr.specs.declared.tree.Written.{Written}
use Rattle.filter_expr.specs.Grammar.{IsFilter, StopsFilter}
use Rattle.filter_expr.specs.Reading.{IsFault, Reads}
use Rattle.filter_expr.specs.Trees.{Any}

-- a text has one tree at most
abbrev pub TextsReadOneWay : Type 0
TextsReadOneWay = (text : List ℕ) (keys : List Column) (tree other : Option (Any Comparison)) → Reads text keys tree → Reads text keys other → tree ≡ other

-- a text is refused for one reason at most, want of memory apart
abbrev pub TextsRefusedOneWay : Type 0
TextsRefusedOneWay = (text : List ℕ) (keys : List Column) (fault other : FilterFault) → fault ≢ NoMemory → other ≢ NoMemory → IsFault text keys fault → IsFault text keys other → fault ≡ other

-- no text that has a tree is refused, want of memory apart
abbrev pub ReadTextsNotRefused : Type 0
ReadTextsNotRefused = (text : List ℕ) (keys : List Column) (tree : Option (Any Comparison)) (fault : FilterFault) → fault ≢ NoMemory → Reads text keys tree → IsFault text keys fault → ⊥

-- where tokens stop to be a filter, no filter begins with the tokens up to that place and the one at it, whatever stands behind them
abbrev pub NoFilterGoesOn : Type 0
NoFilterGoesOn = (fault : FilterFault) (xs : List (ℕ × Token)) → StopsFilter fault xs →
    (front : List (ℕ × Token)) × (token : ℕ × Token) × (rest : List (ℕ × Token)) × (xs ≡ front ++ token ∷ rest)
    × ((fault ≡ Syntax token.0) ⊎ (fault ≡ TooDeep))
    × ((tree : Option (Any Written)) (others : List (ℕ × Token)) → IsFilter tree (front ++ token ∷ others) → ⊥)

-- a text has a tree, or it is refused for another reason than want of memory
abbrev pub TextsAreReadOrRefused : Type 0
TextsAreReadOrRefused = (text : List ℕ) (keys : List Column) → ((tree : Option (Any Comparison)) × Reads text keys tree) ⊎ ((fault : FilterFault) × (fault ≢ NoMemory) × IsFault text keys fault)
