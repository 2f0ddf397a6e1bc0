use Rattle.std.proofs.Common.{[]}
use Rattle.cat_values.specs.declared.statistics.StatValue.TheVariants.{Long}
use Rattle.stat_structs.specs.Longs.{long_tree, long_written}
use Rattle.ms_structs.proofs.PiecesWritten.{struct_written, then_end, then_field}
use Rattle.stat_structs.proofs.longs.LongFieldsToWire.write.Goals as goal

pub returns-in_ok-put_field-in-Long-2 : goal.returns-in_ok-put_field-in-Long-2
unfolding long_tree
returns-in_ok-put_field-in-Long-2 c =
    rw c.in-Long.is (
    struct_written c.stop.result (long_written (Long c.in-Long.low c.in-Long.high c.in-Long.nulls c.in-Long.distinct)) _ _
    (then_field c.in_ok-put_optional-in-Long.ensures
    (then_field c.in_ok-put_optional-in-Long-2.ensures
    (then_field c.in_ok-put_field-in-Long.ensures
    (then_field c.in_ok-put_field-in-Long-2.ensures
    (then_end c.stop.ensures))))))

-- a value of another kind
pub returns-in-Flags : goal.returns-in-Flags
unfolding long_tree
returns-in-Flags c = rw c.in-Flags.is (struct_written c.stop-in-Flags.result [] _ _ (then_end c.stop-in-Flags.ensures))

pub returns-in-Str : goal.returns-in-Str
unfolding long_tree
returns-in-Str c = rw c.in-Str.is (struct_written c.stop-in-Str.result [] _ _ (then_end c.stop-in-Str.ensures))
