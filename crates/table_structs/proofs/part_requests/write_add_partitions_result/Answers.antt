use Rattle.std.proofs.Common.{[], ◌∷◌}
use Rattle.std.specs.Option.{option_copied}
use Rattle.table_structs.specs.PartRequests.{partitions_field}
use Rattle.ms_structs.proofs.PiecesWritten.{struct_written, then_end, then_field}
use Rattle.table_structs.proofs.part_requests.write_add_partitions_result.Goals as goal

pub returns : goal.returns
returns c = struct_written c.stop.result (partitions_field (option_copied c.args.parts) ∷ []) _ _ (then_field c.in_ok-put_partitions.ensures (then_end c.stop.ensures))
