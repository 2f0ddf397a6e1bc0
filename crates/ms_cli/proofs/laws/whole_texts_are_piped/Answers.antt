use Rattle.ms_cli.proofs.laws.whole_texts_are_piped.Goals as goal

pub returns : goal.returns
returns c old new status text messages ending piped is spells = c.whole_texts_are_served.ensures old.met new.met piped.worked.entries piped.worked.does.ended text messages ending is spells piped.worked.does.session
