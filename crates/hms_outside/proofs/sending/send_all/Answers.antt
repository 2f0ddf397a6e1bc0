use Rattle.hms_outside.proofs.SinkLemmas.{Grew-nothing, whole-front}
use Rattle.hms_outside.proofs.sending.send_all.Goals as goal

pub returns-in-Err-Failed-clause-err : goal.returns-in-Err-Failed-clause-err
returns-in-Err-Failed-clause-err g c = whole-front _ _ c.args.bytes.now (Grew-nothing _ _ _ c.args.bytes.now c.in_ok-write_all.ensures.ok c.in-Err-Failed.ensures.flushes)

pub returns-in-Err-NoMemory-clause-err : goal.returns-in-Err-NoMemory-clause-err
returns-in-Err-NoMemory-clause-err g c = whole-front _ _ c.args.bytes.now (Grew-nothing _ _ _ c.args.bytes.now c.in_ok-write_all.ensures.ok c.in-Err-NoMemory.ensures.flushes)
