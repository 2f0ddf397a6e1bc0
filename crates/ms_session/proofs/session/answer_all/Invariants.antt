use Rattle.std.proofs.Common.{◌≡◌, ◌-◌, ◌≤◌, [], None}
use Rattle.desk.specs.Adds.{Adds}
use Rattle.desk.specs.History.{Legal, NoneAbove}
use Rattle.thrift_binary.specs.declared.limits.TheConstants.{SESSION_END}
use Rattle.ms_session.specs.Turns.{shelf_of}
use Rattle.ms_session.proofs.Sessions.{SoFar}
use Rattle.ms_session.proofs.session.answer_all.Given as goal

abbrev pub invariant-loop-request : goal.invariant-loop-request
invariant-loop-request g l = record {
  same_source : l.reader.source.ghost_name ≡ l.initial.reader.source.ghost_name;
  read : g.S.Source.faults l.reader.source.now ≡ g.S.Source.faults l.initial.reader.source.now;
  write : g.K.Sink.faults l.sink ≡ g.K.Sink.faults l.initial.sink;
  clock : g.C.Clock.faults l.initial.clock ≤ g.C.Clock.faults l.clock;
  folder : g.F.Folder.faults l.initial.folder ≤ g.F.Folder.faults l.folder;
  empty : l.writer ≡ [];
  unspent : l.reader.progress.fault ≡ None;
  caller : g.D.Desk.caller l.desk ≡ g.D.Desk.caller l.initial.desk;
  start : g.D.Desk.start l.desk ≡ g.D.Desk.start l.initial.desk;
  legal : Legal (g.D.Desk.start l.initial.desk) (g.D.Desk.history l.initial.desk) → Legal (g.D.Desk.start l.desk) (g.D.Desk.history l.desk);
  counted : NoneAbove (g.D.Desk.faults l.initial.desk) (g.D.Desk.history l.initial.desk) → NoneAbove (g.D.Desk.faults l.desk) (g.D.Desk.history l.desk);
  so_far : Adds g.D.Desk.alone (g.D.Desk.caller l.initial.desk) (g.D.Desk.history l.initial.desk) (g.D.Desk.history l.desk) (λ own.
      SoFar (record { left = g.S.Source.left l.initial.reader.source.now; held = g.K.Sink.held l.initial.sink; clock = g.C.Clock.moments l.initial.clock; shelf = shelf_of (g.F.Folder.files l.initial.folder) (g.F.Folder.faults l.initial.folder) })
      (record { left = g.S.Source.left l.reader.source.now; held = g.K.Sink.held l.sink; clock = g.C.Clock.moments l.clock; shelf = shelf_of (g.F.Folder.files l.folder) (g.F.Folder.faults l.folder) }) l.reader.progress.place own);
}

abbrev pub decreases-loop-request : goal.decreases-loop-request
decreases-loop-request g l = SESSION_END - l.reader.progress.place
