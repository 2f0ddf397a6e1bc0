use Rattle.std.proofs.Common.{◌∙◌}
use Rattle.repl_dump.specs.Beginnings.{began_of}
use Rattle.repl_dump.proofs.Closing.{adds_dump, adds_unbegun, first_fits, first_takes}
use Rattle.repl_dump.proofs.dumping.dump.Goals as goal

pub begun-requires : goal.begun-requires
begun-requires g c =
    first_fits (g.K.Desk.caller c.args.desk.now) (g.K.Desk.start c.step.new.self) (g.K.Desk.history c.args.desk.now) (g.K.Desk.history c.step.new.self) c.in-Ok-Ok.asked c.args.from c.args.to c.args.limit c.step.result (g.K.Desk.faults c.step.new.self) c.step.ensures.turns c.step.ensures.legal

pub dump_begun-requires-clause-open : goal.dump_begun-requires-clause-open
dump_begun-requires-clause-open g c =
    first_takes (g.K.Desk.caller c.args.desk.now) (g.K.Desk.caller c.step.new.self) (g.K.Desk.start c.step.new.self) (g.K.Desk.history c.args.desk.now) (g.K.Desk.history c.step.new.self) c.in-Ok-Ok.asked c.args.from c.args.to c.args.limit (began_of c.in-Ok.beginning) c.step.result (g.K.Desk.faults c.step.new.self)
    c.step.ensures.same c.step.ensures.turns c.step.ensures.legal c.in-Ok.ensures.begun

pub returns-in-Ok-clause-dumps : goal.returns-in-Ok-clause-dumps
returns-in-Ok-clause-dumps g c =
    adds_dump g.K.Desk.alone (g.K.Desk.caller c.args.desk.now) (g.K.Desk.caller c.step.new.self) (g.K.Desk.history c.args.desk.now) (g.K.Desk.history c.step.new.self) (g.K.Desk.history c.dump_begun.new.desk) c.args.db.now c.in-Ok-Ok.asked c.as_text.result.now c.args.from c.args.to c.args.limit
    (began_of c.in-Ok.beginning) c.step.result (g.K.Desk.faults c.step.new.self) c.dump_begun.result (g.F.Folder.files c.args.folder.now) (g.F.Folder.files c.dump_begun.new.folder)
    c.in-Ok-Ok.ensures' (c.as_text.ensures ∙ c.in-Ok-Ok.ensures) c.step.ensures.same c.step.ensures.turns c.step.ensures.sole c.in-Ok.ensures.begun c.dump_begun.ensures.ends

pub returns-clause-dumps : goal.returns-clause-dumps
returns-clause-dumps g c =
    adds_unbegun g.K.Desk.alone (g.K.Desk.caller c.args.desk.now) (g.K.Desk.history c.args.desk.now) (g.K.Desk.history c.step.new.self) c.args.db.now c.in-Ok-Ok.asked c.args.from c.args.to c.args.limit c.step.result (g.K.Desk.faults c.step.new.self) c.in-Err.answer (g.F.Folder.files c.args.folder.now)
    c.in-Ok-Ok.ensures' c.step.ensures.turns c.step.ensures.sole c.in-Err.ensures.unbegun
