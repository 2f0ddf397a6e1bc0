use Rattle.desk.proofs.Additions.{adds_none}
use Rattle.repl_dump.specs.Turns.{place_of}
use Rattle.repl_dump.specs.declared.failure.Failure.TheVariants.{NoMemory}
use Rattle.repl_dump.proofs.Stopping.{stopped_here, unfinished}
use Rattle.repl_dump.proofs.Taking.{fits_turn, nearer_after, open_after, steps_after, turn_of}
use Rattle.repl_dump.proofs.walking.take_step.Goals as goal

pub returns-in_default-clause-steps : goal.returns-in_default-clause-steps
returns-in_default-clause-steps g c = adds_none _ _ _ _ (stopped_here c.args.number c.args.begin (place_of c.args.place) NoMemory (unfinished c.args.place) tt)

pub go_on-next-requires : goal.go_on-next-requires
go_on-next-requires g c =
    fits_turn (g.K.Desk.caller c.args.desk.now) c.args.number c.args.place (g.K.Desk.start c.args.desk.now) (g.K.Desk.history c.args.desk.now) (g.K.Desk.history c.step-answer.new.self) c.in-Ok.step c.step-answer.result (g.K.Desk.faults c.step-answer.new.self)
    (turn_of (g.K.Desk.caller c.args.desk.now) c.args.number c.args.place (g.K.Desk.start c.args.desk.now) (g.K.Desk.start c.step-answer.new.self) (g.K.Desk.history c.args.desk.now) (g.K.Desk.history c.step-answer.new.self) c.in-Ok.step c.step-answer.result (g.K.Desk.faults c.step-answer.new.self)
    c.step-answer.ensures.start c.step-answer.ensures.turns c.step-answer.ensures.legal c.requires.before_end c.in-Ok.ensures c.requires.open)

pub returns-clause-open : goal.returns-clause-open
returns-clause-open g c =
    open_after c.go_on-next.result (g.K.Desk.caller c.args.desk.now) (g.K.Desk.caller c.step-answer.new.self) c.args.number c.args.begin c.args.place (g.K.Desk.start c.args.desk.now) (g.K.Desk.start c.step-answer.new.self) (g.K.Desk.history c.args.desk.now) (g.K.Desk.history c.step-answer.new.self) c.in-Ok.step c.step-answer.result (g.K.Desk.faults c.step-answer.new.self)
    c.args.writer.now c.go_on-next.new.writer (g.F.Folder.files c.args.folder.now) (g.F.Folder.files c.go_on-next.new.folder) c.step-answer.ensures.same c.step-answer.ensures.start
    (turn_of (g.K.Desk.caller c.args.desk.now) c.args.number c.args.place (g.K.Desk.start c.args.desk.now) (g.K.Desk.start c.step-answer.new.self) (g.K.Desk.history c.args.desk.now) (g.K.Desk.history c.step-answer.new.self) c.in-Ok.step c.step-answer.result (g.K.Desk.faults c.step-answer.new.self)
    c.step-answer.ensures.start c.step-answer.ensures.turns c.step-answer.ensures.legal c.requires.before_end c.in-Ok.ensures c.requires.open) c.go_on-next.ensures.goes

pub returns-clause-nearer : goal.returns-clause-nearer
returns-clause-nearer g c =
    nearer_after c.go_on-next.result c.args.begin c.args.place c.step-answer.result c.args.writer.now c.go_on-next.new.writer (g.F.Folder.files c.args.folder.now) (g.F.Folder.files c.go_on-next.new.folder)
    (fits_turn (g.K.Desk.caller c.args.desk.now) c.args.number c.args.place (g.K.Desk.start c.args.desk.now) (g.K.Desk.history c.args.desk.now) (g.K.Desk.history c.step-answer.new.self) c.in-Ok.step c.step-answer.result (g.K.Desk.faults c.step-answer.new.self)
    (turn_of (g.K.Desk.caller c.args.desk.now) c.args.number c.args.place (g.K.Desk.start c.args.desk.now) (g.K.Desk.start c.step-answer.new.self) (g.K.Desk.history c.args.desk.now) (g.K.Desk.history c.step-answer.new.self) c.in-Ok.step c.step-answer.result (g.K.Desk.faults c.step-answer.new.self)
    c.step-answer.ensures.start c.step-answer.ensures.turns c.step-answer.ensures.legal c.requires.before_end c.in-Ok.ensures c.requires.open)) c.lines_fit.ensures c.go_on-next.ensures.goes

pub returns-clause-steps : goal.returns-clause-steps
returns-clause-steps g c =
    steps_after c.go_on-next.result g.K.Desk.alone (g.K.Desk.caller c.args.desk.now) c.args.number c.args.begin c.args.place (g.K.Desk.start c.args.desk.now) (g.K.Desk.history c.args.desk.now) (g.K.Desk.history c.step-answer.new.self) c.in-Ok.step c.step-answer.result (g.K.Desk.faults c.step-answer.new.self)
    c.args.writer.now c.go_on-next.new.writer (g.F.Folder.files c.args.folder.now) (g.F.Folder.files c.go_on-next.new.folder) c.counts_fit.ensures.items c.counts_fit.ensures.events c.step-answer.ensures.sole
    (turn_of (g.K.Desk.caller c.args.desk.now) c.args.number c.args.place (g.K.Desk.start c.args.desk.now) (g.K.Desk.start c.step-answer.new.self) (g.K.Desk.history c.args.desk.now) (g.K.Desk.history c.step-answer.new.self) c.in-Ok.step c.step-answer.result (g.K.Desk.faults c.step-answer.new.self)
    c.step-answer.ensures.start c.step-answer.ensures.turns c.step-answer.ensures.legal c.requires.before_end c.in-Ok.ensures c.requires.open) c.go_on-next.ensures.goes
