use Rattle.std.proofs.Common.{refl, ap, ◌∙◌}
use Rattle.desk.specs.Adds.{own}
use Rattle.engine.specs.Stores.{Stored}
use Rattle.ms_cli.specs.Keeping.{seen}
use Rattle.ms_cli.proofs.Opened.{worked}
use Rattle.ms_cli.proofs.piping.serve.Goals as goal

pub returns-clause-worked : goal.returns-clause-worked
returns-clause-worked g c = λ a b.
    worked _ c.args.engine.start c.into_core.result.start (seen g.D.Disk.lies g.D.Disk.past g.D.Disk.faults c.close-disk_a.result.0) (seen g.D.Disk.lies g.D.Disk.past g.D.Disk.faults c.close-disk_a.result.1)
    c.new-desk.result.core.history c.serve_session-end.new.desk.core.history c.into_core.result.history (own 0 c.serve_session-end.ensures.session.added)
    (ap (λ (e : Stored g.row.D.Denot). e.start) c.into_core.ensures ∙ (c.serve_session-end.ensures.start ∙ ap (λ (e : Stored g.row.D.Denot). e.start) c.new-desk.ensures))
    (ap (λ (e : Stored g.row.D.Denot). e.history) c.new-desk.ensures ∙ c.requires) (c.serve_session-end.ensures.session.sole refl) (ap (λ (e : Stored g.row.D.Denot). e.history) c.into_core.ensures)
    c.close-disk_a.ensures (record { ended = c.serve_session-end.result; session = c.serve_session-end.ensures.session.mine; told = (c.tell.result, c.tell.ensures.told, c.tell.ensures.cause); status_is = c.status.ensures })
