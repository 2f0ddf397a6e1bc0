use Rattle.std.proofs.lemmas.Result.{err_from_is_err_and}
use Rattle.thrift_binary.proofs.Reading.{Took-weaker}
use Rattle.ms_structs.proofs.Getting.{fails_again}
use Rattle.stat_structs.proofs.Eights.{eight_read, stops_eight}
use Rattle.stat_structs.proofs.doubles.DoubleFromWire.read.Goals as goal

pub returns-in_err-eight-clause-reads : goal.returns-in_err-eight-clause-reads
returns-in_err-eight-clause-reads g c =
    let p = err_from_is_err_and c.from_residual.result c.from_residual.ensures.1 in
    rw (p.1, p.2) (fails_again _ _ _ _ c.in_err-eight.field-0.0 _ _ _ (stops_eight c.args.reader.now.progress.room) c.in_err-eight.ensures.reads)

pub returns-clause-reads : goal.returns-clause-reads
returns-clause-reads g c = Took-weaker _ _ _ _ _ _ (λ bytes. eight_read c.args.reader.now.progress.room c.in_ok-eight.field-0 bytes) c.in_ok-eight.ensures.reads
