use Rattle.std.proofs.Common.{[]}
use Rattle.cat_values.specs.declared.statistics.StatValue.TheVariants.{Str}
use Rattle.stat_structs.specs.Strings.{string_tree, string_written}
use Rattle.ms_structs.proofs.PiecesWritten.{struct_written, then_end, then_field}
use Rattle.stat_structs.proofs.strings.StringFieldsToWire.write.Goals as goal

pub returns-in_ok-put_field-in-Str-4 : goal.returns-in_ok-put_field-in-Str-4
unfolding string_tree
returns-in_ok-put_field-in-Str-4 c =
    rw c.in-Str.is (
    struct_written c.stop.result (string_written (Str c.in-Str.longest c.in-Str.average c.in-Str.nulls c.in-Str.distinct)) _ _
    (then_field c.in_ok-put_field-in-Str.ensures
    (then_field c.in_ok-put_field-in-Str-2.ensures
    (then_field c.in_ok-put_field-in-Str-3.ensures
    (then_field c.in_ok-put_field-in-Str-4.ensures
    (then_end c.stop.ensures))))))

-- a value of another kind
pub returns-in-Flags : goal.returns-in-Flags
unfolding string_tree
returns-in-Flags c = rw c.in-Flags.is (struct_written c.stop-in-Flags.result [] _ _ (then_end c.stop-in-Flags.ensures))

pub returns-in-Long : goal.returns-in-Long
unfolding string_tree
returns-in-Long c = rw c.in-Long.is (struct_written c.stop-in-Long.result [] _ _ (then_end c.stop-in-Long.ensures))
