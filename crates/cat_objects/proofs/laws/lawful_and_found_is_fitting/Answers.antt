use Rattle.cat_objects.proofs.Fitting.{fitting_finds, fitting_is_lawful, lawful_that_finds_fits}
use Rattle.cat_objects.proofs.Lawfully.{fitting_keeps}
use Rattle.cat_objects.proofs.laws.lawful_and_found_is_fitting.Goals as goal

pub returns : goal.returns
returns c = record { lawful = fitting_is_lawful; found = fitting_finds; fits = lawful_that_finds_fits; keeps = fitting_keeps }
