use Rattle.std.proofs.Common.{refl}
use Rattle.cat_rules.proofs.Following.{fits_to_run, fits_from_run, fits_whole}
use Rattle.cat_rules.proofs.patterns.fits.Goals as goal

pub returns-in-Run : goal.returns-in-Run
returns-in-Run c = (λ h. fits_from_run _ _ _ _ c.in-Run.ensures (c.fits_behind_run.ensures.0 h), λ h. c.fits_behind_run.ensures.1 (fits_to_run _ _ _ _ c.in-Run.ensures h))

pub returns-in-Whole : goal.returns-in-Whole
returns-in-Whole c = (λ _. fits_whole _ _ c.in-Whole.ensures, λ _. refl)
