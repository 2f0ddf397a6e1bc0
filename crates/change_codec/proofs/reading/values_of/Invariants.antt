use Rattle.std.proofs.Common.{◌≡◌, ◌-◌}
use Rattle.change_codec.specs.Forms.{values_read}
use Rattle.change_codec.proofs.Loops.{with_front}
use Rattle.change_codec.proofs.reading.values_of.Given as goal

abbrev pub invariant-loop : goal.invariant-loop
invariant-loop g l = with_front l.values (values_read (g.T.Get.read l.version) (l.count - l.counter) l.rest) ≡ values_read (g.T.Get.read l.version) l.count l.bytes
