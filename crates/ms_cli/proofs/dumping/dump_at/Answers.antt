use Rattle.std.proofs.Common.{refl, ap, ◌∙◌}
use Rattle.desk.specs.Adds.{own}
use Rattle.engine.specs.Stores.{Stored}
use Rattle.ms_cli.specs.Keeping.{seen}
use Rattle.ms_cli.proofs.Opened.{worked}
use Rattle.ms_cli.proofs.dumping.dump_at.Goals as goal

pub returns-clause-worked : goal.returns-clause-worked
returns-clause-worked g c = λ left clock a b.
    worked _ c.args.engine.start c.into_core.result.start (seen g.D.Disk.lies g.D.Disk.past g.D.Disk.faults c.close-disk_a.result.0) (seen g.D.Disk.lies g.D.Disk.past g.D.Disk.faults c.close-disk_a.result.1)
    c.new-desk.result.core.history c.dump_named-answer.new.desk.core.history c.into_core.result.history (own 0 c.dump_named-answer.ensures.dumped.added)
    (ap (λ (e : Stored g.row.D.Denot). e.start) c.into_core.ensures ∙ (c.dump_named-answer.ensures.start ∙ ap (λ (e : Stored g.row.D.Denot). e.start) c.new-desk.ensures))
    (ap (λ (e : Stored g.row.D.Denot). e.history) c.new-desk.ensures ∙ c.requires) (c.dump_named-answer.ensures.dumped.sole refl) (ap (λ (e : Stored g.row.D.Denot). e.history) c.into_core.ensures)
    c.close-disk_a.ensures (record { given = c.dump_named-answer.result; dumped = c.dump_named-answer.ensures.dumped.mine; told = c.tell_dump-status.ensures.told; source_stays = refl; clock_stays = refl })
