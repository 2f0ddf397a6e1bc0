use Rattle.std.proofs.Common.{◌≡◌}
use Rattle.desk.specs.Adds.{Adds}
use Rattle.ms_server.specs.Visits.{ServedSome, around}
use Rattle.ms_server.proofs.serving.serve_many.Given as goal

abbrev pub invariant-loop : goal.invariant-loop
invariant-loop g l =
    record {
      caller : g.D.Desk.caller l.desk ≡ g.D.Desk.caller l.fn.desk;
      run : Adds g.D.Desk.alone (g.D.Desk.caller l.fn.desk) (g.D.Desk.history l.fn.desk) (g.D.Desk.history l.desk) (ServedSome l.counter (around g.L.Listener.inputs g.L.Listener.returned g.L.Listener.faults g.F.Folder.files g.F.Folder.faults g.K.Clock.moments l.fn.post) (around g.L.Listener.inputs g.L.Listener.returned g.L.Listener.faults g.F.Folder.files g.F.Folder.faults g.K.Clock.moments l.post));
    }
