use Rattle.std.proofs.Common.{◌≡◌, ◌<◌, ◌≤◌, ◌-◌, ◌^◌, length}
use Rattle.std.specs.Prelude.{IfSome}
use Rattle.ms_journal.proofs.Pieces.{IsFirstOf}
use Rattle.ms_journal.proofs.opening.read_all.Given as goal

abbrev pub invariant-loop-bytes : goal.invariant-loop-bytes
invariant-loop-bytes g l = record {
  lies : g.D.Disk.lies l.disk ≡ g.D.Disk.lies l.fn.disk;
  past : g.D.Disk.past l.disk ≡ g.D.Disk.past l.fn.disk;
  faults : g.D.Disk.faults l.fn.disk ≤ g.D.Disk.faults l.disk;
  room : 0 < length l.room;
  so_far : IfSome (g.D.Disk.lies l.fn.disk) (λ d. IsFirstOf l.bytes.items d.held);
}

abbrev pub decreases-loop-bytes : goal.decreases-loop-bytes
decreases-loop-bytes g l = 2 ^ 63 - length l.bytes.items
