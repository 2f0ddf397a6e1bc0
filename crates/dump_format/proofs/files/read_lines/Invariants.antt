use Rattle.std.proofs.Common.{◌≤◌, take}
use Rattle.hms_outside.specs.Told.{Goes, Same}
use Rattle.dump_format.specs.Files.{AreRead}
use Rattle.dump_format.proofs.files.read_lines.Given as goal

abbrev pub invariant-loop-line : goal.invariant-loop-line
invariant-loop-line g l =
    Goes Same (g.F.Folder.files l.fn.folder) (g.F.Folder.files l.folder)
    × (g.F.Folder.faults l.fn.folder ≤ g.F.Folder.faults l.folder)
    × AreRead (g.F.Folder.files l.fn.folder) l.dir (g.T.Filed.rule l.bounds) g.T.Filed.form (take l.line-index l.lines) l.elements
