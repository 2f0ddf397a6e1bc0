use Rattle.std.proofs.Common.{◌≡◌, ◌+◌, length}
use Rattle.filter_expr.specs.Tokens.{tokens_behind}
use Rattle.filter_expr.proofs.lexer.behind_spaces.Given as goal

abbrev pub invariant-loop-left : goal.invariant-loop-left
invariant-loop-left l = record {
  tokens : tokens_behind 0 l.at l.left ≡ tokens_behind 0 l.place l.text;
  end : l.at + length l.left ≡ l.place + length l.text;
}

abbrev pub decreases-loop-left : goal.decreases-loop-left
decreases-loop-left l = length l.left
