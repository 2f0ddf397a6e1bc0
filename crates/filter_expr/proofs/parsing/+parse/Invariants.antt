use Rattle.std.proofs.Common.{◌≡◌, ◌++◌, ◌+◌, ◌*◌, length}
use Rattle.filter_expr.specs.declared.tree.Written.{Written}
use Rattle.filter_expr.specs.declared.token.Mark.TheVariants.{And}
use Rattle.filter_expr.specs.Trees.{Any, All, any_steps, all_steps}
use Rattle.filter_expr.specs.Grammar.{IsAny, IsAll, IsMarked, IsNotFirst}
use Rattle.filter_expr.proofs.parsing.+parse.Given as goal

abbrev pub decreases-any : goal.decreases-any
decreases-any l = 5 * l.depth + 4

abbrev pub decreases-later_all : goal.decreases-later_all
decreases-later_all l = 5 * l.depth + 3

abbrev pub decreases-all : goal.decreases-all
decreases-all l = 5 * l.depth + 2

abbrev pub decreases-later_term : goal.decreases-later_term
decreases-later_term l = 5 * l.depth + 1

abbrev pub decreases-term : goal.decreases-term
decreases-term l = 5 * l.depth

abbrev pub invariant-any-loop-alloc : goal.invariant-any-loop-alloc
invariant-any-loop-alloc l = record {
  so_far : (any : Any Written) × IsAny l.depth any l.fn.lexer l.lexer × (l.steps.items ≡ l.fn.steps.items ++ any_steps any);
  end : IsNotFirst (IsMarked And) l.lexer;
}

abbrev pub decreases-any-loop-alloc : goal.decreases-any-loop-alloc
decreases-any-loop-alloc l = length l.lexer

abbrev pub invariant-all-loop-alloc : goal.invariant-all-loop-alloc
invariant-all-loop-alloc l = (all : All Written) × IsAll l.depth all l.fn.lexer l.lexer × (l.steps.items ≡ l.fn.steps.items ++ all_steps all)

abbrev pub decreases-all-loop-alloc : goal.decreases-all-loop-alloc
decreases-all-loop-alloc l = length l.lexer
