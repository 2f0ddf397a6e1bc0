use Rattle.std.proofs.Common.{rules, codes, ◌∙◌, sym}
use Rattle.ms_cli.proofs.Reading.{alone}
use Rattle.ms_cli.proofs.words.argued.Goals as goal

pub returns-then-eq-2 : goal.returns-then-eq-2
returns-then-eq-2 c = alone _ (codes "init") _ c.args.options.now _ (sym c.if-not-is_empty.false ∙ c.is_empty.ensures) (search rules) c.init_of.ensures

pub returns-then-eq-3 : goal.returns-then-eq-3
returns-then-eq-3 c = alone _ (codes "trim") _ c.args.options.now _ (sym c.if-not-is_empty.false ∙ c.is_empty.ensures) (search rules) c.trim_of.ensures
