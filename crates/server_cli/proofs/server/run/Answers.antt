use Rattle.std.proofs.Common.{◌≡◌, ◌∙◌, ap, sym, map, vec_len}
use Rattle.ms_server.specs.Visits.{around}
use Rattle.server_cli.specs.Server.{first_fault}
use Rattle.server_cli.proofs.Workers.{did_length, manned, unmanned}
use Rattle.server_cli.proofs.server.run.Goals as goal

pub take_done-requires : goal.take_done-requires
take_done-requires g c =
    let same : vec_len c.in-Ok.crew.done ≡ vec_len c.args.posts = c.in-Ok.crew.done.ok.0 ∙ did_length (around g.L.Listener.inputs g.L.Listener.returned g.L.Listener.faults g.F.Folder.files g.F.Folder.faults g.C.Clock.moments) c.args.sessions _ 1 c.args.posts.items c.in-Ok.crew.done.items c.in-Ok.ensures.did ∙ sym c.args.posts.ok.0 in
    rw same (record { room = c.requires.room })

pub returns-in-Ok : goal.returns-in-Ok
returns-in-Ok g c = λ given posts_are.
    manned (around g.L.Listener.inputs g.L.Listener.returned g.L.Listener.faults g.F.Folder.files g.F.Folder.faults g.C.Clock.moments) c.args.sessions given _ c.args.engine.start c.in-Ok.engine.start c.in-Ok.engine.history _ c.args.posts.items c.in-Ok.crew.done.items
    c.in-Ok.ensures.start posts_are c.close.ensures.closed c.in-Ok.ensures.did c.in-Ok.ensures.nobody (c.close.ensures.steps ∙ c.in-Ok.ensures.steps)
    (ap (λ v. v.items) c.close.ensures.ends ∙ c.take_done.ensures.ends) (ap (λ v. v.items) c.close.ensures.calls ∙ c.take_done.ensures.calls)
    (ap (λ v. v.items) c.close.ensures.listeners ∙ c.take_done.ensures.listeners) (ap (λ v. v.items) c.close.ensures.folders ∙ c.take_done.ensures.folders)
    (c.close.ensures.status ∙ c.first_of-status.ensures ∙ ap first_fault (c.as_slice.ensures.value ∙ sym (ap (λ v. v.items) c.close.ensures.ends)))

pub returns-in-Err : goal.returns-in-Err
returns-in-Err g c = λ given posts_are.
    unmanned (around g.L.Listener.inputs g.L.Listener.returned g.L.Listener.faults g.F.Folder.files g.F.Folder.faults g.C.Clock.moments) c.args.sessions given _ c.args.engine.start c.in-Err.engine.start c.in-Err.engine.history _ c.args.posts.items
    c.in-Err.ensures.start posts_are c.close-in-Err.ensures.closed c.in-Err.ensures.unused c.close-in-Err.ensures.steps
    (ap (λ v. v.items) c.close-in-Err.ensures.ends ∙ c.take_posts.ensures.ends) (ap (λ v. v.items) c.close-in-Err.ensures.calls ∙ c.take_posts.ensures.calls)
    (ap (λ v. v.items) c.close-in-Err.ensures.listeners ∙ c.take_posts.ensures.listeners ∙ ap (λ v. map (λ p. p.listener) v.items) c.in-Err.ensures.posts)
    (ap (λ v. v.items) c.close-in-Err.ensures.folders ∙ c.take_posts.ensures.folders ∙ ap (λ v. map (λ p. p.folder) v.items) c.in-Err.ensures.posts)
    c.close-in-Err.ensures.status
