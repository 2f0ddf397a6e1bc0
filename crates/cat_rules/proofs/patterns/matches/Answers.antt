use Rattle.std.proofs.Common.{rules, ◌↔◌, ◌∙◌, lit<, tests}
use Rattle.std.specs.Str.{chars}
use Rattle.std.proofs.lemmas.Iterator.{cases_from_any}
use Rattle.std.proofs.lemmas.Iterator.Splits.{YieldsList-from_str_split}
use Rattle.std.specs.Bool.{IsTrue}
use Rattle.std.proofs.lemmas.Bool.Decides.{same_from_decides}
use Rattle.cat_rules.specs.Patterns.{MatchesSigns, Matches}
use Rattle.cat_rules.proofs.Deciding.{match-Decides}
use Rattle.cat_rules.proofs.Alternatives.{matches_from_cases}
use Rattle.cat_rules.proofs.patterns.matches.Goals as goal

matches_by_rule : (c : goal.After-any) → IsTrue c.any.result ↔ Matches c.args.pattern.now c.args.name.now
matches_by_rule c =
    matches_from_cases c.any.result c.args.pattern.now c.args.name.now c.as_str-name.result.now c.as_str-name.ensures.bytes
    (cases_from_any _ _ c.any.result (λ a. MatchesSigns (chars a) (chars c.as_str-name.result.now)) (λ a. MatchesSigns (chars a) (chars c.as_str-name.result.now) → ⊥) c.any.ensures.ran
    (YieldsList-from_str_split 124 c.args.pattern.now (lit< tt) (c.split.ensures.text ∙ c.as_str.ensures.bytes) c.split.ensures.has_more c.split.ensures.pattern)
    (λ x q k. search (rules, tests)) (λ x q k. search (rules, tests)))

pub returns-clause-rule : goal.returns-clause-rule
returns-clause-rule c = matches_by_rule c

pub returns-clause-test : goal.returns-clause-test
returns-clause-test c = same_from_decides _ _ (matches_by_rule c) (match-Decides c.args.pattern.now c.args.name.now)
