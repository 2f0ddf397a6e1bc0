use Rattle.std.proofs.Common.{sym, subst, List, ℕ, Ok, Err, ◌++◌, ◌∷◌, []}
use Rattle.hms_outside.specs.Told.{Goes}
use Rattle.repl_dump.specs.Beginnings.{began_of}
use Rattle.repl_dump.specs.Endings.{EndsSo, StaysBy, WritesFiles, dir_of}
use Rattle.repl_dump.specs.declared.dumping.DumpAnswer.{DumpAnswer}
use Rattle.repl_dump.proofs.Closing.{adds_ended}
use Rattle.repl_dump.proofs.Ending.{ends_done, ends_stopped, ends_unwritten, stays_by, stays_then}
use Rattle.repl_dump.proofs.begun_dump.dump_begun.Goals as goal

pub returns-in-Ok-write_manifest-clause-ends : goal.returns-in-Ok-write_manifest-clause-ends
returns-in-Ok-write_manifest-clause-ends g c =
    adds_ended (WritesFiles (began_of c.args.beginning) (Ok c.in-Ok.writer) (g.F.Folder.files c.args.folder.now) (g.F.Folder.files c.write_files-written.new.folder)) (EndsSo c.args.db.now (began_of c.args.beginning) c.in-Ok-write_manifest.answer (g.F.Folder.files c.args.folder.now) (g.F.Folder.files c.write_manifest.new.folder))
    g.K.Desk.alone (g.K.Desk.caller c.args.desk.now) (g.K.Desk.caller c.write_files-written.new.desk) c.args.beginning.dump (g.K.Desk.start c.write_files-written.new.desk) (g.K.Desk.start c.step-ended.new.self)
    (g.K.Desk.history c.args.desk.now) (g.K.Desk.history c.write_files-written.new.desk) (g.K.Desk.history c.step-ended.new.self) c.step-ended.result (g.K.Desk.faults c.step-ended.new.self)
    c.write_files-written.ensures.caller c.step-ended.ensures.start c.in-Ok.ensures.written c.step-ended.ensures.turns c.step-ended.ensures.sole c.step-ended.ensures.legal c.write_files-written.ensures.open
    (λ own ending wrote ends. subst (λ (given : DumpAnswer). EndsSo c.args.db.now (began_of c.args.beginning) given (g.F.Folder.files c.args.folder.now) (g.F.Folder.files c.write_manifest.new.folder) (own ++ ending ∷ [])) (sym c.in-Ok-write_manifest.ensures.done)
    (ends_done c.args.db.now c.args.beginning own ending c.in-Ok.writer (g.F.Folder.files c.args.folder.now) (g.F.Folder.files c.write_files-written.new.folder) (g.F.Folder.files c.write_manifest.new.folder) ends wrote.0 wrote.1 c.in-Ok-write_manifest.ensures.put))

pub returns-in-Ok-clause-ends : goal.returns-in-Ok-clause-ends
returns-in-Ok-clause-ends g c =
    adds_ended (WritesFiles (began_of c.args.beginning) (Ok c.in-Ok.writer) (g.F.Folder.files c.args.folder.now) (g.F.Folder.files c.write_files-written.new.folder)) (EndsSo c.args.db.now (began_of c.args.beginning) c.failed.result (g.F.Folder.files c.args.folder.now) (g.F.Folder.files c.write_manifest.new.folder))
    g.K.Desk.alone (g.K.Desk.caller c.args.desk.now) (g.K.Desk.caller c.write_files-written.new.desk) c.args.beginning.dump (g.K.Desk.start c.write_files-written.new.desk) (g.K.Desk.start c.step-ended.new.self)
    (g.K.Desk.history c.args.desk.now) (g.K.Desk.history c.write_files-written.new.desk) (g.K.Desk.history c.step-ended.new.self) c.step-ended.result (g.K.Desk.faults c.step-ended.new.self)
    c.write_files-written.ensures.caller c.step-ended.ensures.start c.in-Ok.ensures.written c.step-ended.ensures.turns c.step-ended.ensures.sole c.step-ended.ensures.legal c.write_files-written.ensures.open
    (λ own ending wrote ends. subst (λ (given : DumpAnswer). EndsSo c.args.db.now (began_of c.args.beginning) given (g.F.Folder.files c.args.folder.now) (g.F.Folder.files c.write_manifest.new.folder) (own ++ ending ∷ [])) (sym c.failed.ensures)
    (ends_unwritten c.args.db.now (began_of c.args.beginning) c.in-Err-write_manifest.failure own ending (g.F.Folder.files c.args.folder.now) (g.F.Folder.files c.write_manifest.new.folder) c.in-Err-write_manifest.ensures.own wrote.0 ends
    (stays_then c.in-Err-write_manifest.failure (dir_of (began_of c.args.beginning)) (g.F.Folder.files c.args.folder.now) (g.F.Folder.files c.write_files-written.new.folder) (g.F.Folder.files c.write_manifest.new.folder) c.write_files-written.ensures.stays
    (subst (λ (d : List ℕ). Goes (StaysBy c.in-Err-write_manifest.failure d) (g.F.Folder.files c.write_files-written.new.folder) (g.F.Folder.files c.write_manifest.new.folder)) wrote.1.written.dir_is c.in-Err-write_manifest.ensures.stays))))

pub returns-clause-ends : goal.returns-clause-ends
returns-clause-ends g c =
    adds_ended (WritesFiles (began_of c.args.beginning) (Err c.in-Err.failure) (g.F.Folder.files c.args.folder.now) (g.F.Folder.files c.write_files-written.new.folder)) (EndsSo c.args.db.now (began_of c.args.beginning) c.failed-in-Err.result (g.F.Folder.files c.args.folder.now) (g.F.Folder.files c.write_files-written.new.folder))
    g.K.Desk.alone (g.K.Desk.caller c.args.desk.now) (g.K.Desk.caller c.write_files-written.new.desk) c.args.beginning.dump (g.K.Desk.start c.write_files-written.new.desk) (g.K.Desk.start c.step-ended.new.self)
    (g.K.Desk.history c.args.desk.now) (g.K.Desk.history c.write_files-written.new.desk) (g.K.Desk.history c.step-ended.new.self) c.step-ended.result (g.K.Desk.faults c.step-ended.new.self)
    c.write_files-written.ensures.caller c.step-ended.ensures.start c.in-Err.ensures.written c.step-ended.ensures.turns c.step-ended.ensures.sole c.step-ended.ensures.legal c.write_files-written.ensures.open
    (λ own ending stopped ends. subst (λ (given : DumpAnswer). EndsSo c.args.db.now (began_of c.args.beginning) given (g.F.Folder.files c.args.folder.now) (g.F.Folder.files c.write_files-written.new.folder) (own ++ ending ∷ [])) (sym c.failed-in-Err.ensures)
    (ends_stopped c.args.db.now (began_of c.args.beginning) c.in-Err.failure own ending (g.F.Folder.files c.args.folder.now) (g.F.Folder.files c.write_files-written.new.folder) stopped ends (stays_by c.in-Err.failure (dir_of (began_of c.args.beginning)) (g.F.Folder.files c.args.folder.now) (g.F.Folder.files c.write_files-written.new.folder) c.write_files-written.ensures.stays)))
