use Rattle.stat_structs.specs.Statistics.{statistics_tree, statistics_written}
use Rattle.ms_structs.proofs.PiecesWritten.{struct_written, then_end, then_field}
use Rattle.stat_structs.proofs.statistics.write_column_statistics.Goals as goal

pub returns : goal.returns
unfolding statistics_tree
returns c =
    struct_written c.stop.result (statistics_written c.args.desc.now c.args.stats.now) _ _
    (then_field c.in_ok-put_field.ensures
    (then_field c.in_ok-put_field-2.ensures
    (then_end c.stop.ensures)))
