-- Trees, and the steps that stand for them.
use Rattle.std.proofs.Common.{◌≡◌, ℕ, true, false, List, [], ◌∷◌, ◌++◌, length, map, refl, sym, ap, ◌∙◌, subst, Option, None, Some, Err}
use Rattle.std.proofs.lemmas.List.{map-append, length-map}
use Rattle.cat_values.specs.declared.storage.Column.{Column}
use Rattle.filter_expr.specs.declared.expr.Comparison.{Comparison}
use Rattle.filter_expr.specs.declared.fault.FilterFault.{FilterFault}
use Rattle.filter_expr.specs.declared.fault.FilterFault.TheVariants.{Syntax, TooDeep, UnknownKey, WrongType, NoMemory}
use Rattle.filter_expr.specs.declared.token.Token.{Token}
use Rattle.filter_expr.specs.declared.tree.Step.{Step}
use Rattle.filter_expr.specs.declared.tree.Step.TheVariants.{Check, Skip}
use Rattle.filter_expr.specs.declared.tree.Written.{Written}
use Rattle.filter_expr.specs.Grammar.{IsFilter, Parsed, StopsFilter}
use Rattle.filter_expr.specs.Keys.{IsKeyFault, bound, bound_step, first_unknown, first_wrong}
use Rattle.filter_expr.specs.Reading.{IsFault, Reads}
use Rattle.filter_expr.specs.Tokens.{tokens}
use Rattle.filter_expr.specs.Trees.{Any, All, Term, lone, or_else, one, and_also, compare, group, any_steps, all_steps, term_steps, tree_steps, any_comparisons, all_comparisons, term_comparisons, comparisons, checks, any_map, all_map, term_map, tree_map}

checks_append : {C : Type 0} (first second : List (Step C)) → checks (first ++ second) ≡ checks first ++ checks second
checks_append [] second = refl
checks_append {C = C} (Check c ∷ first) second = ap (λ (cs : List C). c ∷ cs) (checks_append first second)
checks_append (Skip on count ∷ first) second = checks_append first second

-- the comparisons of a tree are those of its steps
mutual
  any_checks : {C : Type 0} (any : Any C) → checks (any_steps any) ≡ any_comparisons any
  any_checks (lone all) = all_checks all
  any_checks (or_else any all) = checks_append (any_steps any) (Skip true (length (all_steps all)) ∷ all_steps all) ∙ rw (any_checks any, all_checks all) refl

  all_checks : {C : Type 0} (all : All C) → checks (all_steps all) ≡ all_comparisons all
  all_checks (one term) = term_checks term
  all_checks (and_also all term) = checks_append (all_steps all) (Skip false (length (term_steps term)) ∷ term_steps term) ∙ rw (all_checks all, term_checks term) refl

  term_checks : {C : Type 0} (term : Term C) → checks (term_steps term) ≡ term_comparisons term
  term_checks (compare c) = refl
  term_checks (group any) = any_checks any

tree_checks : {C : Type 0} (tree : Option (Any C)) → checks (tree_steps tree) ≡ comparisons tree
tree_checks None = refl
tree_checks (Some any) = any_checks any

-- the steps of a tree of other comparisons
module _ (keys : List Column) where
  mutual
    any_bound : (any : Any Written) → map (bound_step keys) (any_steps any) ≡ any_steps (any_map (bound keys) any)
    any_bound (lone all) = all_bound all
    any_bound (or_else any all) =
        let count : length (all_steps all) ≡ length (all_steps (all_map (bound keys) all)) = sym (length-map (all_steps all) (bound_step keys)) ∙ ap (λ (ss : List (Step Comparison)). length ss) (all_bound all) in
        map-append (bound_step keys) (any_steps any) (Skip true (length (all_steps all)) ∷ all_steps all)
        ∙ rw (any_bound any, all_bound all, count) refl

    all_bound : (all : All Written) → map (bound_step keys) (all_steps all) ≡ all_steps (all_map (bound keys) all)
    all_bound (one term) = term_bound term
    all_bound (and_also all term) =
        let count : length (term_steps term) ≡ length (term_steps (term_map (bound keys) term)) = sym (length-map (term_steps term) (bound_step keys)) ∙ ap (λ (ss : List (Step Comparison)). length ss) (term_bound term) in
        map-append (bound_step keys) (all_steps all) (Skip false (length (term_steps term)) ∷ term_steps term)
        ∙ rw (all_bound all, term_bound term, count) refl

    term_bound : (term : Term Written) → map (bound_step keys) (term_steps term) ≡ term_steps (term_map (bound keys) term)
    term_bound (compare c) = refl
    term_bound (group any) = any_bound any

tree_bound : (keys : List Column) (tree : Option (Any Written)) → map (bound_step keys) (tree_steps tree) ≡ tree_steps (tree_map (bound keys) tree)
tree_bound keys None = refl
tree_bound keys (Some any) = any_bound keys any

-- ---- what a call of `parse` answers

abbrev pub Read : List ℕ → List (Step Written) → Type 0
Read text steps = (written : Option (Any Written)) × IsFilter written (tokens text) × (steps ≡ tree_steps written)

pub stop_is_fault : {T : Type 0} (P : T → List (ℕ × Token) → List (ℕ × Token) → Type 0) (text : List ℕ) (keys : List Column) (fault : FilterFault) → Parsed (tokens text) (tokens text) (Err fault) P StopsFilter → IsFault text keys fault
stop_is_fault P text keys (Syntax place) h = h
stop_is_fault P text keys TooDeep h = h
stop_is_fault P text keys (UnknownKey key) h = absurd h
stop_is_fault P text keys (WrongType key) h = absurd h
stop_is_fault P text keys NoMemory h = tt

checks_of : (text : List ℕ) (steps : List (Step Written)) (read : Read text steps) → checks steps ≡ comparisons read.0
checks_of text steps read = ap (λ (ss : List (Step Written)). checks ss) read.2 ∙ tree_checks read.0

pub key_is_fault : (text : List ℕ) (keys ks : List Column) (steps ss : List (Step Written)) (fault : FilterFault) → Read text steps → ks ≡ keys → ss ≡ steps → IsKeyFault ks (checks ss) fault → IsFault text keys fault
key_is_fault text keys ks steps ss fault read k s h = go fault (subst (λ (ws : List Written). IsKeyFault keys ws fault) (checks_of text steps read) (subst (λ (xs : List (Step Written)). IsKeyFault keys (checks xs) fault) s (subst (λ (cs : List Column). IsKeyFault cs (checks ss) fault) k h)))
  where
    go : (f : FilterFault) → IsKeyFault keys (comparisons read.0) f → IsFault text keys f
    go (Syntax place) h = absurd h
    go TooDeep h = absurd h
    go (UnknownKey key) h = (read.0, read.1, h)
    go (WrongType key) h = (read.0, read.1, h.0, h.1)
    go NoMemory h = tt

pub is_read : (text : List ℕ) (keys ks cs : List Column) (steps ss : List (Step Written)) (new : List (Step Comparison)) → Read text steps → ks ≡ keys → cs ≡ keys → ss ≡ steps → first_unknown ks (checks ss) ≡ None → first_wrong ks (checks ss) ≡ None → new ≡ map (bound_step cs) steps → (tree : Option (Any Comparison)) × (new ≡ tree_steps tree) × Reads text keys tree
is_read text keys ks cs steps ss new read k c s known right e =
    let all : checks ss ≡ comparisons read.0 = ap (λ (xs : List (Step Written)). checks xs) s ∙ checks_of text steps read in (
      tree_map (bound keys) read.0,
      e ∙ ap (λ (cols : List Column). map (bound_step cols) steps) c ∙ ap (map (bound_step keys)) read.2 ∙ tree_bound keys read.0,
      (
        read.0,
        read.1,
        ap (λ (cols : List Column). first_unknown cols (comparisons read.0)) (sym k) ∙ ap (first_unknown ks) (sym all) ∙ known,
        ap (λ (cols : List Column). first_wrong cols (comparisons read.0)) (sym k) ∙ ap (first_wrong ks) (sym all) ∙ right,
        refl,
      ),
    )
