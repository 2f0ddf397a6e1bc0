use Rattle.ms_session.proofs.WholeTexts.{served}
use Rattle.ms_session.proofs.laws.whole_texts_are_served.Goals as goal

pub returns : goal.returns
returns c = served
