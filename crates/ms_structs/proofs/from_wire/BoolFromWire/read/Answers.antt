use Rattle.std.proofs.lemmas.Result.{err_from_is_err_and}
use Rattle.thrift_binary.proofs.Reading.{Took-weaker}
use Rattle.ms_structs.proofs.Getting.{fails_again}
use Rattle.ms_structs.proofs.Plain.{flag_read, stops_flag}
use Rattle.ms_structs.proofs.from_wire.BoolFromWire.read.Goals as goal

pub returns-in_err-flag-clause-reads : goal.returns-in_err-flag-clause-reads
returns-in_err-flag-clause-reads g c =
    let p = err_from_is_err_and c.from_residual.result c.from_residual.ensures.1 in
    rw (p.1, p.2) (fails_again _ _ _ _ c.in_err-flag.field-0.0 _ _ _ (stops_flag c.args.reader.now.progress.room) c.in_err-flag.ensures.reads)

pub returns-clause-reads : goal.returns-clause-reads
returns-clause-reads g c = Took-weaker _ _ _ _ _ _ (flag_read c.args.reader.now.progress.room c.in_ok-flag.field-0) c.in_ok-flag.ensures.reads
