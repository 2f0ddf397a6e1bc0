use Rattle.std.proofs.Common.{subst}
use Rattle.std.proofs.lemmas.Result.{err_from_is_err_and}
use Rattle.thrift_binary.specs.Wire.{IsText}
use Rattle.thrift_binary.proofs.Reading.{Took-weaker}
use Rattle.ms_structs.proofs.Getting.{fails_again}
use Rattle.ms_structs.proofs.Plain.{text_read, bad_text_read, stops_text}
use Rattle.ms_structs.proofs.from_wire.TextFromWire.read.Goals as goal

pub returns-in_err-text-clause-reads : goal.returns-in_err-text-clause-reads
returns-in_err-text-clause-reads g c =
    let p = err_from_is_err_and c.from_residual.result c.from_residual.ensures.1 in
    rw (p.1, p.2) (fails_again _ _ _ _ c.in_err-text.field-0.0 _ _ _ (stops_text c.args.reader.now.progress.room) c.in_err-text.ensures.reads)

pub returns-in-Some-clause-reads : goal.returns-in-Some-clause-reads
returns-in-Some-clause-reads g c = Took-weaker _ _ _ _ _ _ (λ bytes h. text_read c.args.reader.now.progress.room c.in-Some.text bytes (subst (λ t. IsText t bytes) c.in-Some.is h)) c.in_ok-text.ensures.reads

pub returns-in-None-clause-reads : goal.returns-in-None-clause-reads
returns-in-None-clause-reads g c = Took-weaker _ _ _ _ _ _ (λ bytes h. bad_text_read c.args.reader.now.progress.room bytes (subst (λ t. IsText t bytes) c.in-None.is h)) c.in_ok-text.ensures.reads
