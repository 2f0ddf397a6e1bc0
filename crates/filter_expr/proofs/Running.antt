-- Steps that are run one by one.
use Rattle.std.proofs.Common.{◌≡◌, ℕ, Bool, true, false, List, [], ◌∷◌, ◌++◌, length, drop, refl, sym, ap, ◌∙◌, append_assoc, append-nil, ◌≤◌, Option, None, Some, suc, zero}
use Rattle.std.specs.Prelude.{◌&&◌, ◌||◌}
use Rattle.filter_expr.specs.declared.tree.Step.{Step}
use Rattle.filter_expr.specs.declared.tree.Step.TheVariants.{Skip}
use Rattle.filter_expr.specs.Trees.{Any, All, Term, lone, or_else, one, and_also, compare, group, any_steps, all_steps, term_steps, tree_steps}
use Rattle.std.proofs.lemmas.List.{drop_all}
use Rattle.filter_expr.specs.declared.expr.Comparison.{Comparison}
use Rattle.filter_expr.specs.Truth.{comparison_holds, holds, after, any_holds, all_holds, term_holds}

-- what is found by steps, of which the first ones are left out
abbrev pub run : {C : Type 0} → (C → Bool) → Bool → ℕ → List (Step C) → Bool
run f found left_out [] = found
run f found (suc n) (step ∷ steps) = run f found n steps
run f found zero (step ∷ steps) = run f (after f found step).0 (after f found step).1 steps

-- steps that are left out
run_past : {C : Type 0} (f : C → Bool) (found : Bool) (part rest : List (Step C)) → run f found (length part) (part ++ rest) ≡ run f found 0 rest
run_past f found [] rest = refl
run_past f found (step ∷ part) rest = run_past f found part rest

or_step : {C : Type 0} (f : C → Bool) (first second : Bool) (part rest : List (Step C)) → ((found : Bool) → run f found 0 (part ++ rest) ≡ run f second 0 rest) → run f first 0 (Skip true (length part) ∷ (part ++ rest)) ≡ run f (first || second) 0 rest
or_step f true second part rest h = run_past f true part rest
or_step f false second part rest h = h false

and_step : {C : Type 0} (f : C → Bool) (first second : Bool) (part rest : List (Step C)) → ((found : Bool) → run f found 0 (part ++ rest) ≡ run f second 0 rest) → run f first 0 (Skip false (length part) ∷ (part ++ rest)) ≡ run f (first && second) 0 rest
and_step f false second part rest h = run_past f false part rest
and_step f true second part rest h = h true

-- the steps of a tree find whether it holds, whatever was found before
mutual
  any_run : {C : Type 0} (any : Any C) (f : C → Bool) (found : Bool) (rest : List (Step C)) → run f found 0 (any_steps any ++ rest) ≡ run f (any_holds f any) 0 rest
  any_run (lone all) f found rest = all_run all f found rest
  any_run (or_else any all) f found rest =
      ap (run f found 0) (append_assoc (any_steps any) (Skip true (length (all_steps all)) ∷ all_steps all) rest)
      ∙ any_run any f found (Skip true (length (all_steps all)) ∷ (all_steps all ++ rest))
      ∙ or_step f (any_holds f any) (all_holds f all) (all_steps all) rest (λ b. all_run all f b rest)

  all_run : {C : Type 0} (all : All C) (f : C → Bool) (found : Bool) (rest : List (Step C)) → run f found 0 (all_steps all ++ rest) ≡ run f (all_holds f all) 0 rest
  all_run (one term) f found rest = term_run term f found rest
  all_run (and_also all term) f found rest =
      ap (run f found 0) (append_assoc (all_steps all) (Skip false (length (term_steps term)) ∷ term_steps term) rest)
      ∙ all_run all f found (Skip false (length (term_steps term)) ∷ (term_steps term ++ rest))
      ∙ and_step f (all_holds f all) (term_holds f term) (term_steps term) rest (λ b. term_run term f b rest)

  term_run : {C : Type 0} (term : Term C) (f : C → Bool) (found : Bool) (rest : List (Step C)) → run f found 0 (term_steps term ++ rest) ≡ run f (term_holds f term) 0 rest
  term_run (compare c) f found rest = refl
  term_run (group any) f found rest = any_run any f found rest

-- the same of a whole filter
pub tree_run : (tree : Option (Any Comparison)) (values : List (List ℕ)) → run (comparison_holds values) true 0 (tree_steps tree) ≡ holds tree values
tree_run None values = refl
tree_run (Some any) values =
    ap (run (comparison_holds values) true 0) (sym (append-nil (any_steps any))) ∙ any_run any (comparison_holds values) true []

pub found_at_end : (tree : Option (Any Comparison)) (values : List (List ℕ)) (steps : List (Step Comparison)) (found : Bool) (left_out i : ℕ) → steps ≡ tree_steps tree → length steps ≤ i → run (comparison_holds values) found left_out (drop i steps) ≡ run (comparison_holds values) true 0 steps → found ≡ holds tree values
found_at_end tree values steps found left_out i e end h =
    sym (ap (run (comparison_holds values) found left_out) (drop_all i steps end)) ∙ h ∙ ap (run (comparison_holds values) true 0) e ∙ tree_run tree values
