use Rattle.std.proofs.Common.{◌≡◌, ◌∙◌, sym}
use Rattle.filter_rules.proofs.Told.{barred_as, filter_spells}
use Rattle.rulings.specs.declared.barred.Barred.TheVariants.{Refused}
use Rattle.filter_rules.proofs.reading.read_filter.Goals as goal

pub returns-in-Ok-clause-ok : goal.returns-in-Ok-clause-ok
returns-in-Ok-clause-ok c =
    let read = c.in-Ok.ensures.read in
    (read.0, read.1, filter_spells c.args.text.now c.args.keys.now read.0 read.2)

pub returns-in-Err-clause-err : goal.returns-in-Err-clause-err
returns-in-Err-clause-err c = λ refusal told.
    let same : c.bar_of.result ≡ Refused refusal = cc in
    barred_as c.args.text.now c.args.keys.now c.in-Err.fault refusal c.in-Err.ensures.refused (sym c.bar_of.ensures ∙ same)
