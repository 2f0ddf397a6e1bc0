use Rattle.std.proofs.Common.{◌≡◌, ◌≤◌}
use Rattle.desk.specs.Adds.{Adds}
use Rattle.desk.specs.History.{Legal, NoneAbove}
use Rattle.hms_outside.specs.Told.{Goes}
use Rattle.repl_dump.specs.Files.{OthersStay}
use Rattle.repl_dump.specs.Opened.{Takes, allows}
use Rattle.repl_dump.specs.Turns.{place_of, steps_left}
use Rattle.repl_dump.specs.Walking.{Wrote}
use Rattle.repl_dump.proofs.walking.walk.Given as goal

abbrev pub invariant-loop-alloc : goal.invariant-loop-alloc
invariant-loop-alloc g l = record {
  caller : g.K.Desk.caller l.desk ≡ g.K.Desk.caller l.initial.desk;
  start : g.K.Desk.start l.desk ≡ g.K.Desk.start l.initial.desk;
  legal : Legal (g.K.Desk.start l.desk) (g.K.Desk.history l.desk);
  counted : NoneAbove (g.K.Desk.faults l.initial.desk) (g.K.Desk.history l.initial.desk) → NoneAbove (g.K.Desk.faults l.desk) (g.K.Desk.history l.desk);
  opened : Takes (allows (place_of l.place)) (g.K.Desk.caller l.desk) l.number (g.K.Desk.start l.desk) (g.K.Desk.history l.desk);
  later : g.F.Folder.faults l.initial.folder ≤ g.F.Folder.faults l.folder;
  dir : l.writer.dir ≡ l.initial.writer.dir;
  stays : Goes (OthersStay l.initial.writer.dir) (g.F.Folder.files l.initial.folder) (g.F.Folder.files l.folder);
  walked : Adds g.K.Desk.alone (g.K.Desk.caller l.initial.desk) (g.K.Desk.history l.initial.desk) (g.K.Desk.history l.desk)
      (Wrote l.number l.begin (place_of l.initial.place) (place_of l.place) l.initial.writer l.writer (g.F.Folder.files l.initial.folder) (g.F.Folder.files l.folder));
}

abbrev pub decreases-loop-alloc : goal.decreases-loop-alloc
decreases-loop-alloc g l = steps_left l.writer l.place
