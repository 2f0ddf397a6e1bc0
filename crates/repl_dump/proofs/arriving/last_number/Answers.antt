use Rattle.repl_dump.proofs.Lasts.{number_found}
use Rattle.repl_dump.proofs.arriving.last_number.Goals as goal

pub returns-in-Some : goal.returns-in-Some
returns-in-Some c = number_found _ _ _ _ c.as_slice.ensures.items c.in-Some.ensures.value
