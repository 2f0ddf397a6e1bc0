use Rattle.std.proofs.Common.{◌≡◌, ◌++◌, List, length}
use Rattle.filter_expr.specs.declared.token.Literal.{Literal}
use Rattle.filter_expr.specs.Grammar.{AreMore}
use Rattle.filter_expr.proofs.comparing.more_literals.Given as goal

abbrev pub invariant-loop-lexer : goal.invariant-loop-lexer
invariant-loop-lexer l = (more : List Literal) × AreMore more l.initial.lexer l.lexer × (l.literals ≡ l.initial.literals ++ more)

abbrev pub decreases-loop-lexer : goal.decreases-loop-lexer
decreases-loop-lexer l = length l.lexer
