use Rattle.std.proofs.Common.{sym, ◌∙◌}
use Rattle.repl_dump.proofs.Lasts.{values_found}
use Rattle.repl_dump.proofs.arriving.last_values.Goals as goal

pub returns-in-Some : goal.returns-in-Some
returns-in-Some c = values_found _ _ _ c.in-Some.item _ (sym c.in-Some.ensures.items ∙ c.into_vec.ensures) c.part_values.ensures
