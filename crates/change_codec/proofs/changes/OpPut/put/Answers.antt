use Rattle.change_codec.proofs.changes.OpPut.put.Goals as goal

pub returns-in-MovePart-clause-fits : goal.returns-in-MovePart-clause-fits
returns-in-MovePart-clause-fits c = rw c.in-MovePart.is c.put_tagged-in-MovePart.ensures.fits
