use Rattle.std.proofs.Common.{◌≤◌, length, ◌≡◌}
use Rattle.hms_outside.proofs.file_disk.fill.Given as goal

abbrev pub invariant-loop : goal.invariant-loop
invariant-loop l = record { within : l.filled ≤ length l.buf; size : length l.buf ≡ length l.fn.buf }
