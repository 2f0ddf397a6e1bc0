use Rattle.std.proofs.Common.{◌≡◌, drop, false}
use Rattle.filter_expr.specs.Tokens.{behind_quote}
use Rattle.filter_expr.proofs.Quotes.{with_front}
use Rattle.filter_expr.proofs.words.behind_quote.Given as goal

abbrev pub invariant-loop-before : goal.invariant-loop-before
invariant-loop-before l = with_front l.body l.before (behind_quote l.quote l.escaped (drop l.before l.rest)) ≡ behind_quote l.quote false l.rest
