use Rattle.std.proofs.Common.{None, drop}
use Rattle.std.specs.List.{last_or}
use Rattle.dump_files.specs.Files.{elements_read}
use Rattle.dump_files.proofs.Turns.{SoFar}
use Rattle.dump_files.proofs.reading.read_elements.Given as goal

abbrev pub invariant-loop-place : goal.invariant-loop-place
invariant-loop-place g l =
    SoFar (g.T.Judged.rule l.fn.bounds) (g.T.Judged.read) l.count l.bytes l.fn.elements (elements_read (g.T.Judged.rule l.fn.bounds) (g.T.Judged.read) l.count (last_or None l.fn.elements) 0 (drop l.first l.bytes)) l.elements l.at l.place
