use Rattle.stat_structs.specs.Requests.{result_written, statistics_result}
use Rattle.ms_structs.proofs.PiecesWritten.{struct_written, then_end, then_field}
use Rattle.stat_structs.proofs.requests.write_table_stats_result.Goals as goal

pub returns : goal.returns
unfolding statistics_result
returns c =
    struct_written c.stop.result (result_written c.args.stats.now) _ _
    (then_field c.in_ok-put_field.ensures
    (then_end c.stop.ensures))
