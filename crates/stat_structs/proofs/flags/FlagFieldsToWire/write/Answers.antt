use Rattle.std.proofs.Common.{[]}
use Rattle.cat_values.specs.declared.statistics.StatValue.TheVariants.{Flags}
use Rattle.stat_structs.specs.Flags.{flags_tree, flags_written}
use Rattle.ms_structs.proofs.PiecesWritten.{struct_written, then_end, then_field}
use Rattle.stat_structs.proofs.flags.FlagFieldsToWire.write.Goals as goal

pub returns-in_ok-put_field-in-Flags-3 : goal.returns-in_ok-put_field-in-Flags-3
unfolding flags_tree
returns-in_ok-put_field-in-Flags-3 c =
    rw c.in-Flags.is (
    struct_written c.stop.result (flags_written (Flags c.in-Flags.trues c.in-Flags.falses c.in-Flags.nulls)) _ _
    (then_field c.in_ok-put_field-in-Flags.ensures
    (then_field c.in_ok-put_field-in-Flags-2.ensures
    (then_field c.in_ok-put_field-in-Flags-3.ensures
    (then_end c.stop.ensures)))))

-- a value of another kind
pub returns-in-Long : goal.returns-in-Long
unfolding flags_tree
returns-in-Long c = rw c.in-Long.is (struct_written c.stop-in-Long.result [] _ _ (then_end c.stop-in-Long.ensures))

pub returns-in-Str : goal.returns-in-Str
unfolding flags_tree
returns-in-Str c = rw c.in-Str.is (struct_written c.stop-in-Str.result [] _ _ (then_end c.stop-in-Str.ensures))
