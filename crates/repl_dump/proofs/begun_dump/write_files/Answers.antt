use Rattle.std.proofs.Common.{Ok}
use Rattle.desk.proofs.Additions.{adds_none, adds_weaker}
use Rattle.repl_dump.specs.Beginnings.{began_of}
use Rattle.repl_dump.specs.Endings.{WritesFiles, dir_of}
use Rattle.repl_dump.specs.Turns.{place_of}
use Rattle.repl_dump.specs.Walking.{Ends}
use Rattle.repl_dump.proofs.Ending.{begun_unfinished, leads_as, leads_both, writes_all}
use Rattle.repl_dump.proofs.Stopping.{stopped_here}
use Rattle.repl_dump.proofs.begun_dump.write_files.Goals as goal

pub returns-in-Err-clause-written : goal.returns-in-Err-clause-written
returns-in-Err-clause-written g c = adds_none _ _ _ _ (stopped_here _ _ _ c.in-Err.failure (begun_unfinished (began_of c.args.beginning.now)) c.in-Err.ensures.own)

pub returns-in-Ok-walk-clause-stays : goal.returns-in-Ok-walk-clause-stays
returns-in-Ok-walk-clause-stays g c =
    leads_both (dir_of (began_of c.args.beginning.now)) _ _ _ c.in-Ok.ensures.stays (leads_as c.in-Ok.begun.0.dir (dir_of (began_of c.args.beginning.now)) _ _ c.in-Ok.ensures.written.written.dir_is c.in-Ok-walk.ensures.stays)

pub returns-in-Ok-walk-clause-written : goal.returns-in-Ok-walk-clause-written
returns-in-Ok-walk-clause-written g c =
    adds_weaker g.K.Desk.alone (g.K.Desk.caller c.args.desk.now) (g.K.Desk.history c.args.desk.now) (g.K.Desk.history c.walk.new.desk)
    (Ends c.args.beginning.now.dump c.args.beginning.now.begin (place_of c.in-Ok.begun.1) (Ok c.in-Ok-walk.field-0) c.in-Ok.begun.0 c.walk.new.writer (g.F.Folder.files c.begin_files.new.folder) (g.F.Folder.files c.walk.new.folder))
    (WritesFiles (began_of c.args.beginning.now) (Ok c.walk.new.writer) (g.F.Folder.files c.args.folder.now) (g.F.Folder.files c.walk.new.folder))
    (λ own wrote. writes_all (began_of c.args.beginning.now) (place_of c.in-Ok.begun.1) c.in-Ok.begun.0 c.walk.new.writer (g.F.Folder.files c.args.folder.now) (g.F.Folder.files c.begin_files.new.folder) (g.F.Folder.files c.walk.new.folder) own c.in-Ok.ensures.place c.in-Ok.ensures.written wrote)
    c.in-Ok-walk.ensures.ends

pub returns-in-Err-walk-clause-stays : goal.returns-in-Err-walk-clause-stays
returns-in-Err-walk-clause-stays g c =
    leads_both (dir_of (began_of c.args.beginning.now)) _ _ _ c.in-Ok.ensures.stays (leads_as c.in-Ok.begun.0.dir (dir_of (began_of c.args.beginning.now)) _ _ c.in-Ok.ensures.written.written.dir_is c.in-Err-walk.ensures.stays)
