use Rattle.dump_manifest.proofs.Words.{behind_word, no_word}
use Rattle.dump_manifest.proofs.values.read_number.Goals as goal

pub returns-in-Some : goal.returns-in-Some
returns-in-Some c = behind_word _ _ c.in-Some.digits.now _ c.in-Some.ensures.cases.0 c.in-Some.ensures.cases.1 c.number_of.ensures

pub returns-in-None : goal.returns-in-None
returns-in-None c = no_word _ _ c.in-None.ensures.cases
