use Rattle.std.proofs.Common.{subst, sym}
use Rattle.turn_lock.specs.Passes.{caller_of, seen_of}
use Rattle.ms_server.specs.Crews.{Placed, Ran}
use Rattle.ms_server.specs.Visits.{around}
use Rattle.ms_server.proofs.crew.run_posts.Goals as goal

pub gather-requires-clause-ran : goal.gather-requires-clause-ran
gather-requires-clause-ran g c =
    subst (λ ws. Placed (λ k w. Ran (around g.L.Listener.inputs g.L.Listener.returned g.L.Listener.faults g.F.Folder.files g.F.Folder.faults g.K.Clock.moments) c.args.sessions c.of-all.result.value.items k (caller_of w.desk.pass) w.post w.status (seen_of w.desk.pass)) ws) (sym c.from-2.ensures.0) c.run_all.ensures.ran
