use Rattle.std.proofs.Common.{rules}
use Rattle.desk.proofs.Additions.{adds_weaker}
use Rattle.ms_server.proofs.Chains.{visited}
use Rattle.ms_server.specs.Visits.{around}
use Rattle.ms_server.proofs.serving.serve_one.Goals as goal

pub returns-clause-visits : goal.returns-clause-visits
returns-clause-visits g c =
    let s = c.serve_session.ensures in
    let old = around g.L.Listener.inputs g.L.Listener.returned g.L.Listener.faults g.F.Folder.files g.F.Folder.faults g.K.Clock.moments c.args.post.now in
    let new = around g.L.Listener.inputs g.L.Listener.returned g.L.Listener.faults g.F.Folder.files g.F.Folder.faults g.K.Clock.moments record { listener = c.hand_back.new.self; folder = c.serve_session.new.folder; clock = c.serve_session.new.clock } in
    adds_weaker g.D.Desk.alone _ _ _ _ _
    (λ xs is. visited old new _ _ xs c.serve_session.result (g.L.Rx.Source.faults c.serve_session.new.source) (g.L.Tx.Sink.faults c.serve_session.new.sink)
    (search rules) (search rules) (search rules) (search rules) (search rules) (search rules) (search rules) (search rules) (search rules) (search rules) is)
    s.session
