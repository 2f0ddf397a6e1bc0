-- The tree of a filter: a constructor for each production of its grammar, over comparisons of some kind.
use Rattle.std.specs.Prelude.{true, false, List, [], ◌∷◌, ◌++◌, length, Option, None, Some}
use Rattle.filter_expr.specs.declared.tree.Step.{Step}
use Rattle.filter_expr.specs.declared.tree.Step.TheVariants.{Check, Skip}

mutual
  pub data Any (C : Type 0) : Type 0 where
    lone : All C → Any C
    or_else : Any C → All C → Any C

  pub data All (C : Type 0) : Type 0 where
    one : Term C → All C
    and_also : All C → Term C → All C

  pub data Term (C : Type 0) : Type 0 where
    compare : C → Term C
    group : Any C → Term C

-- the steps that stand for a tree: those of the operands, and between two of them a step that leaves the second out where the first
-- decides
abbrev mutual
  pub any_steps : {C : Type 0} → Any C → List (Step C)
  any_steps (lone all) = all_steps all
  any_steps (or_else any all) = any_steps any ++ Skip true (length (all_steps all)) ∷ all_steps all

  pub all_steps : {C : Type 0} → All C → List (Step C)
  all_steps (one term) = term_steps term
  all_steps (and_also all term) = all_steps all ++ Skip false (length (term_steps term)) ∷ term_steps term

  pub term_steps : {C : Type 0} → Term C → List (Step C)
  term_steps (compare c) = Check c ∷ []
  term_steps (group any) = any_steps any

-- a tree with another comparison in the place of each
abbrev mutual
  pub any_map : {C D : Type 0} → (C → D) → Any C → Any D
  any_map f (lone all) = lone (all_map f all)
  any_map f (or_else any all) = or_else (any_map f any) (all_map f all)

  pub all_map : {C D : Type 0} → (C → D) → All C → All D
  all_map f (one term) = one (term_map f term)
  all_map f (and_also all term) = and_also (all_map f all) (term_map f term)

  pub term_map : {C D : Type 0} → (C → D) → Term C → Term D
  term_map f (compare c) = compare (f c)
  term_map f (group any) = group (any_map f any)

-- the comparisons of a tree, as they stand in the text
abbrev mutual
  pub any_comparisons : {C : Type 0} → Any C → List C
  any_comparisons (lone all) = all_comparisons all
  any_comparisons (or_else any all) = any_comparisons any ++ all_comparisons all

  pub all_comparisons : {C : Type 0} → All C → List C
  all_comparisons (one term) = term_comparisons term
  all_comparisons (and_also all term) = all_comparisons all ++ term_comparisons term

  pub term_comparisons : {C : Type 0} → Term C → List C
  term_comparisons (compare c) = c ∷ []
  term_comparisons (group any) = any_comparisons any

-- an empty filter has no tree
abbrev pub tree_steps : {C : Type 0} → Option (Any C) → List (Step C)
tree_steps None = []
tree_steps (Some any) = any_steps any

abbrev pub tree_map : {C D : Type 0} → (C → D) → Option (Any C) → Option (Any D)
tree_map f None = None
tree_map f (Some any) = Some (any_map f any)

abbrev pub comparisons : {C : Type 0} → Option (Any C) → List C
comparisons None = []
comparisons (Some any) = any_comparisons any

-- the comparisons of steps
abbrev pub checks : {C : Type 0} → List (Step C) → List C
checks [] = []
checks (Check c ∷ steps) = c ∷ checks steps
checks (Skip on count ∷ steps) = checks steps
