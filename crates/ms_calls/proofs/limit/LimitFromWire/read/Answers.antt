use Rattle.std.proofs.Common.{w16, rules}
use mir.Val.{SFits}
use Rattle.std.proofs.lemmas.Int.{to_z-of_z}
use Rattle.std.proofs.lemmas.Result.{err_from_is_err_and}
use Rattle.thrift_binary.proofs.Reading.{Took-weaker}
use Rattle.ms_structs.proofs.Getting.{fails_again}
use Rattle.ms_calls.proofs.Shorts.{short_read, stops_short}
use Rattle.ms_calls.proofs.limit.LimitFromWire.read.Goals as goal

pub returns-in_err-short-clause-reads : goal.returns-in_err-short-clause-reads
returns-in_err-short-clause-reads g c =
    let p = err_from_is_err_and c.from_residual.result c.from_residual.ensures.1 in
    rw (p.1, p.2) (fails_again _ _ _ _ c.in_err-short.field-0.0 _ _ _ (stops_short c.args.reader.now.progress.room) c.in_err-short.ensures.reads)

pub returns-clause-reads : goal.returns-clause-reads
returns-clause-reads g c =
    let fits : SFits w16 c.in_ok-short.field-0 = search rules in
    Took-weaker _ _ _ _ _ _ (λ bytes. short_read c.args.reader.now.progress.room c.in_ok-short.field-0 _ bytes (to_z-of_z w16 c.in_ok-short.field-0 fits)) c.in_ok-short.ensures.reads
