use Rattle.std.proofs.Common.{◌∙◌, ap}
use Rattle.turn_lock.specs.Passes.{past_of, joined_of, splits_of}
use Rattle.ms_server.specs.Visits.{around}
use Rattle.ms_server.proofs.Joining.{closed_all, closed_nobody, closed_steps, closed_unused}
use Rattle.ms_server.proofs.crew.run_workers.Goals as goal

pub returns-in-Ok-crew-clause-did : goal.returns-in-Ok-crew-clause-did
returns-in-Ok-crew-clause-did g c =
    let first = c.run_posts-crew.new.first in
    closed_all (around g.L.Listener.inputs g.L.Listener.returned g.L.Listener.faults g.F.Folder.files g.F.Folder.faults g.K.Clock.moments) c.args.sessions _ _ (past_of first) c.args.posts.items (joined_of first) c.in-Ok-crew.crew.done.items
    (ap g.C.Core.history c.into_core-core.ensures.core) c.close.ensures.fits c.in-Ok-crew.ensures.joined

pub returns-in-Ok-crew-clause-nobody : goal.returns-in-Ok-crew-clause-nobody
returns-in-Ok-crew-clause-nobody g c =
    let first = c.run_posts-crew.new.first in
    closed_nobody _ _ (past_of first) (joined_of first) (splits_of first) _
    (ap g.C.Core.history c.into_core-core.ensures.core) (c.run_posts-crew.ensures.past ∙ c.in-Ok.ensures.newcomer.past_is) c.in-Ok-crew.ensures.splits c.close.ensures.nobody c.close.ensures.fits

pub returns-in-Ok-crew-clause-steps : goal.returns-in-Ok-crew-clause-steps
returns-in-Ok-crew-clause-steps g c =
    let first = c.run_posts-crew.new.first in
    closed_steps (around g.L.Listener.inputs g.L.Listener.returned g.L.Listener.faults g.F.Folder.files g.F.Folder.faults g.K.Clock.moments) c.args.sessions _ _ (past_of first) c.args.posts.items (joined_of first) c.in-Ok-crew.crew.done.items (splits_of first) c.in-Ok-crew.crew.steps
    (ap g.C.Core.history c.into_core-core.ensures.core) (c.run_posts-crew.ensures.past ∙ c.in-Ok.ensures.newcomer.past_is) c.in-Ok-crew.ensures.splits c.close.ensures.nobody c.close.ensures.fits c.in-Ok-crew.ensures.joined c.in-Ok-crew.ensures.steps

pub returns-in-Err-crew-clause-unused : goal.returns-in-Err-crew-clause-unused
returns-in-Err-crew-clause-unused g c =
    let first = c.run_posts-crew.new.first in
    closed_unused _ _ (past_of first) (joined_of first) (splits_of first)
    (ap g.C.Core.history c.into_core-core.ensures.core) (c.run_posts-crew.ensures.past ∙ c.in-Ok.ensures.newcomer.past_is) c.in-Err-crew.ensures.splits c.close.ensures.nobody c.close.ensures.fits
