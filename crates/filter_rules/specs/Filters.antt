-- What a text is as a filter of partitions, and the calls that ask for partitions by one.
use Rattle.std.specs.Prelude.{◌≡◌, ◌≢◌, ◌⊎◌, refl, ℕ, ℤ, pos, min, true, not, List, [], ◌∷◌, filter, length, Option}
use Rattle.std.proofs.Common.{inl, inr}
use Rattle.cat_objects.specs.Catalogue.{Catalogue, has_table, parts_of, table}
use Rattle.cat_objects.specs.Parts.{PartList}
use Rattle.cat_types.specs.declared.replies.Reply.TheVariants.{Number, Parts}
use Rattle.cat_types.specs.declared.replies.Reply.{Reply}
use Rattle.cat_values.specs.declared.storage.Column.{Column}
use Rattle.filter_expr.proofs.Descending.{read_or_refused}
use Rattle.filter_expr.specs.Reading.{IsFault, IsTreeOf, Reads}
use Rattle.filter_expr.specs.Trees.{Any}
use Rattle.filter_expr.specs.Truth.{holds}
use Rattle.filter_expr.specs.declared.expr.Comparison.{Comparison}
use Rattle.filter_expr.specs.declared.expr.Expr.{Expr}
use Rattle.filter_expr.specs.declared.fault.FilterFault.TheVariants.{NoMemory, Syntax, TooDeep, UnknownKey, WrongType}
use Rattle.filter_expr.specs.declared.fault.FilterFault.{FilterFault}
use Rattle.rulings.specs.Listed.{all_named, first_of}
use Rattle.rulings.specs.Meant.{table_keys}
use Rattle.rulings.specs.Rules.{Rule}
use Rattle.rulings.specs.declared.barred.Barred.TheVariants as bar
use Rattle.rulings.specs.declared.barred.Barred.{Barred}
use Rattle.rulings.specs.declared.refusal.Refusal.TheVariants.{FilterSyntax, FilterTooDeep, FilterUnknownKey, FilterWrongType, NoSuchObject}
use Rattle.rulings.specs.declared.refusal.Refusal.{Refusal}

-- ---- what a text is as a filter

-- a text is taken for a tree, which none is where the filter is empty, or a call with it is refused
pub data Filter : Type 0 where
  spells : Option (Any Comparison) → Filter
  is_refused : Refusal → Filter

-- what a fault of a filter bars its call by
abbrev pub bar_of : FilterFault → Barred
bar_of (Syntax place) = bar.Refused (FilterSyntax place)
bar_of TooDeep = bar.Refused FilterTooDeep
bar_of (UnknownKey key) = bar.Refused (FilterUnknownKey key)
bar_of (WrongType key) = bar.Refused (FilterWrongType key)
bar_of NoMemory = bar.NoMemory

-- what a call is refused for by a fault of its filter other than want of memory
abbrev pub refusal_by : (fault : FilterFault) → fault ≢ NoMemory → Refusal
refusal_by (Syntax place) due = FilterSyntax place
refusal_by TooDeep due = FilterTooDeep
refusal_by (UnknownKey key) due = FilterUnknownKey key
refusal_by (WrongType key) due = FilterWrongType key
refusal_by NoMemory due = absurd (due refl)

-- what a text that has a tree, or is refused, is taken for
abbrev pub taken_for : (text : List ℕ) (keys : List Column) → ((tree : Option (Any Comparison)) × Reads text keys tree) ⊎ ((fault : FilterFault) × (fault ≢ NoMemory) × IsFault text keys fault) → Filter
taken_for text keys (inl read) = spells read.0
taken_for text keys (inr refused) = is_refused (refusal_by refused.0 refused.1)

-- what a text is taken for against some keys: its one tree, or what its one fault is told by, of which each text has one or the other
unfoldable pub filter_of : List ℕ → List Column → Filter
filter_of text keys = taken_for text keys (read_or_refused text keys)

-- a filter that was read stands for its tree
abbrev pub IsRead : Filter → Expr → Type 0
IsRead filter expr = (tree : Option (Any Comparison)) × IsTreeOf tree expr × (filter ≡ spells tree)

-- the filter of a call on a table
abbrev pub filter_on : Catalogue → List ℕ → List ℕ → List ℕ → Filter
filter_on cat db name text = filter_of text (table_keys (table cat db name))

-- ---- which partitions fit

-- the partitions that a tree holds for, in the order of their values
abbrev pub fitting : Option (Any Comparison) → PartList → PartList
fitting tree parts = filter (λ part. holds tree part.0) parts

-- those that fit a filter, and none where it is refused
abbrev pub fitting_filter : Filter → PartList → PartList
fitting_filter (spells tree) parts = fitting tree parts
fitting_filter (is_refused refusal) parts = []

-- the partitions of a table that fit a filter
abbrev pub fitting_on : Catalogue → List ℕ → List ℕ → List ℕ → PartList
fitting_on cat db name text = fitting_filter (filter_on cat db name text) (parts_of (table cat db name))

-- ---- the calls

-- a filter can be read
abbrev pub read_rules : Filter → List Rule
read_rules (spells tree) = []
read_rules (is_refused refusal) = (true, refusal) ∷ []

-- a table that is asked by a filter is there, and then the filter can be read
abbrev pub by_filter_rules : Catalogue → List ℕ → List ℕ → List ℕ → List Rule
by_filter_rules cat db name text = (not (has_table cat db name), NoSuchObject) ∷ read_rules (filter_on cat db name text)

-- the first `max` partitions that fit
abbrev pub parts_fitting : Catalogue → List ℕ → List ℕ → List ℕ → ℤ → Reply
parts_fitting cat db name text max = Parts (all_named db name (first_of max (fitting_on cat db name text)))

-- how many partitions these are, cut to 2,147,483,647
abbrev pub counted : PartList → ℤ
counted parts = pos (min (length parts) 2147483647)

-- how many partitions fit
abbrev pub parts_counted : Catalogue → List ℕ → List ℕ → List ℕ → Reply
parts_counted cat db name text = Number (counted (fitting_on cat db name text))
