use Rattle.std.proofs.Common.{[], ◌∷◌}
use Rattle.stat_structs.specs.Members.{member_tree, member_written}
use Rattle.ms_structs.proofs.PiecesWritten.{struct_written, then_end, then_field}
use Rattle.stat_structs.proofs.members.MemberFieldsToWire.write.Goals as goal

pub returns : goal.returns
unfolding member_tree
returns c = struct_written c.stop.result (member_written c.args.value.now ∷ []) _ _ (then_field c.in_ok-put_member.ensures (then_end c.stop.ensures))
