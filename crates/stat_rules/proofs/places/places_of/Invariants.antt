use Rattle.stat_rules.proofs.Finding.{LeadFirst}
use Rattle.stat_rules.proofs.places.places_of.Given as goal

abbrev pub invariant-loop-at : goal.invariant-loop-at
invariant-loop-at l = LeadFirst l.at l.places.entries l.cols
