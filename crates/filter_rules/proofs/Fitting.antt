-- A listing of the partitions that fit a filter.
use Rattle.std.proofs.Common.{◌≡◌, ℕ, ℤ, true, false, List, [], ◌∷◌, ◌++◌, length, Option, sym, ap, ◌∙◌}
use Rattle.cat_objects.specs.Parts.{PartList}
use Rattle.cat_types.specs.declared.named.NamedPart.{NamedPart}
use Rattle.cat_values.specs.declared.records.PartRec.{PartRec}
use Rattle.filter_expr.specs.Trees.{Any}
use Rattle.filter_expr.specs.Truth.{holds}
use Rattle.filter_expr.specs.declared.expr.Comparison.{Comparison}
use Rattle.filter_rules.specs.Filters.{fitting}
use Rattle.rulings.proofs.Listing.{first_behind, told_one}
use Rattle.rulings.specs.Listed.{all_named, has_reached, named_part}

abbrev pub named_behind : List ℕ → List ℕ → ℕ → ℤ → Option (Any Comparison) → PartList → List NamedPart
named_behind db name count max tree parts = all_named db name (first_behind count max (fitting tree parts))

-- a partition that fits is told; `max'` is the number as the code has it
pub told_fitting : (db name : List ℕ) (tree : Option (Any Comparison)) (max max' : ℤ) (told next whole : List NamedPart) (values : List (List ℕ)) (rec : PartRec) (left rest : PartList) → max' ≡ max → told ++ named_behind db name (length told) max' tree left ≡ whole
    → left ≡ (values, rec) ∷ rest → has_reached max (length told) ≡ false → holds tree values ≡ true → next ≡ told ++ named_part db name values rec ∷ [] → next ++ named_behind db name (length next) max' tree rest ≡ whole
told_fitting db name tree max max' told next whole values rec left rest same so_far front not_yet passes pushed =
    told_one (λ p. named_part db name p.0 p.1) (λ p. holds tree p.0) max' told next whole (values, rec) rest
    (ap (λ ps. told ++ named_behind db name (length told) max' tree ps) (sym front) ∙ so_far) (ap (λ (m : ℤ). has_reached m (length told)) same ∙ not_yet) passes pushed
