use Rattle.std.proofs.Common.{rules, [], refl}
use Rattle.std.proofs.lemmas.Bool.{false≢true}
use Rattle.std.specs.Str.{chars}
use Rattle.cat_rules.proofs.Following.{behind_to_run, behind_from_run, fits_whole, behind_next, behind_from_next, behind_none, run_shorter}
use Rattle.cat_rules.proofs.patterns.fits_behind_run.Goals as goal

pub loop-later-smaller-in-Run : goal.loop-later-smaller-in-Run
loop-later-smaller-in-Run c = run_shorter _ _ _ _ c.in-Run.ensures

pub loop-later-preserved-in-Run : goal.loop-later-preserved-in-Run
loop-later-preserved-in-Run c = (search rules, search rules, (λ h. behind_to_run _ _ _ _ c.in-Run.ensures (c.loop-later.invariant.2.0 h), λ h. c.loop-later.invariant.2.1 (behind_from_run _ _ _ _ c.in-Run.ensures h)))

pub returns-in-Whole : goal.returns-in-Whole
returns-in-Whole c = (λ _. c.loop-later.invariant.2.1 ([], chars c.loop-later.name.now, refl, fits_whole _ _ c.in-Whole.ensures), λ _. refl)

pub loop-later-preserved : goal.loop-later-preserved
loop-later-preserved c = (search rules, search rules, (λ h. behind_next _ _ c.in-Some.field-0-0 _ c.in-Some.ensures c.in-Nowhere.ensures (c.loop-later.invariant.2.0 h), λ h. c.loop-later.invariant.2.1 (behind_from_next _ _ c.in-Some.field-0-0 _ c.in-Some.ensures h)))

pub returns-in-None : goal.returns-in-None
returns-in-None c = (λ h. absurd (false≢true h), λ h. absurd (behind_none _ _ c.in-None.ensures c.in-Nowhere.ensures (c.loop-later.invariant.2.0 h)))
