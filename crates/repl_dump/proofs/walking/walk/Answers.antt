use Rattle.std.proofs.Common.{refl, arith, ◌∙◌, Ok, Err}
use Rattle.repl_dump.proofs.walking.walk.Goals as goal
use Rattle.desk.proofs.Additions.{adds_as, adds_both, adds_none}
use Rattle.repl_dump.specs.Turns.{place_of}
use Rattle.repl_dump.proofs.Ending.{leads_as, leads_both, leads_same}
use Rattle.repl_dump.specs.Walking.{Ends, Steps, Wrote}
use Rattle.repl_dump.proofs.Stopping.{stopped_later}
use Rattle.repl_dump.proofs.Stepping.{wrote_both, wrote_none}

pub loop-alloc-init : goal.loop-alloc-init
loop-alloc-init g c = record {
  caller = refl;
  start = refl;
  legal = c.requires.legal;
  counted = λ was. was;
  opened = c.requires.open;
  later = omega arith;
  dir = refl;
  stays = leads_same c.args.writer.now.dir (g.F.Folder.files c.args.folder.now);
  walked = adds_none _ _ _ _ (wrote_none c.args.number c.args.begin (place_of c.args.place) c.args.writer.now (g.F.Folder.files c.args.folder.now));
}

pub returns-in-Err-clause-stays : goal.returns-in-Err-clause-stays
returns-in-Err-clause-stays g c =
    leads_both c.args.writer.now.dir _ _ _ c.loop-alloc.invariant.stays (leads_as c.loop-alloc.writer.dir c.args.writer.now.dir _ _ c.loop-alloc.invariant.dir c.in-Err.ensures.stays)

pub returns-in-Err-clause-ends : goal.returns-in-Err-clause-ends
returns-in-Err-clause-ends g c =
    adds_both g.K.Desk.alone (g.K.Desk.caller c.args.desk.now) (g.K.Desk.history c.args.desk.now) (g.K.Desk.history c.loop-alloc.desk) (g.K.Desk.history c.take_step.new.desk)
    (Wrote c.args.number c.args.begin (place_of c.args.place) (place_of c.loop-alloc.place) c.args.writer.now c.loop-alloc.writer (g.F.Folder.files c.args.folder.now) (g.F.Folder.files c.loop-alloc.folder))
    (Steps c.args.number c.args.begin (place_of c.loop-alloc.place) (Err c.in-Err.failure) c.loop-alloc.writer c.take_step.new.writer (g.F.Folder.files c.loop-alloc.folder) (g.F.Folder.files c.take_step.new.folder))
    (Ends {T = Unit {0}} c.args.number c.args.begin (place_of c.args.place) (Err c.in-Err.failure) c.args.writer.now c.take_step.new.writer (g.F.Folder.files c.args.folder.now) (g.F.Folder.files c.take_step.new.folder))
    c.loop-alloc.invariant.walked (adds_as _ _ _ _ _ _ c.loop-alloc.invariant.caller c.in-Err.ensures.steps)
    (λ xs ys wrote stopped. stopped_later c.args.number c.args.begin (place_of c.args.place) (place_of c.loop-alloc.place) c.in-Err.failure xs ys wrote.goes stopped)

pub loop-alloc-preserved : goal.loop-alloc-preserved
loop-alloc-preserved g c = record {
  caller = c.in-Ok.ensures.caller ∙ c.loop-alloc.invariant.caller;
  start = c.in-Ok.ensures.start ∙ c.loop-alloc.invariant.start;
  legal = c.in-Ok.ensures.legal;
  counted = λ was. c.in-Ok.ensures.counted (c.loop-alloc.invariant.counted was);
  opened = c.in-Ok.ensures.open;
  later = omega (arith, c.loop-alloc.invariant.later, c.in-Ok.ensures.later);
  dir = c.in-Ok.ensures.dir ∙ c.loop-alloc.invariant.dir;
  stays = leads_both c.args.writer.now.dir _ _ _ c.loop-alloc.invariant.stays (leads_as c.loop-alloc.writer.dir c.args.writer.now.dir _ _ c.loop-alloc.invariant.dir c.in-Ok.ensures.stays);
  walked = adds_both g.K.Desk.alone (g.K.Desk.caller c.args.desk.now) (g.K.Desk.history c.args.desk.now) (g.K.Desk.history c.loop-alloc.desk) (g.K.Desk.history c.take_step.new.desk)
      (Wrote c.args.number c.args.begin (place_of c.args.place) (place_of c.loop-alloc.place) c.args.writer.now c.loop-alloc.writer (g.F.Folder.files c.args.folder.now) (g.F.Folder.files c.loop-alloc.folder))
      (Steps c.args.number c.args.begin (place_of c.loop-alloc.place) (Ok c.in-Ok.next) c.loop-alloc.writer c.take_step.new.writer (g.F.Folder.files c.loop-alloc.folder) (g.F.Folder.files c.take_step.new.folder))
      (Wrote c.args.number c.args.begin (place_of c.args.place) (place_of c.in-Ok.next) c.args.writer.now c.take_step.new.writer (g.F.Folder.files c.args.folder.now) (g.F.Folder.files c.take_step.new.folder))
      c.loop-alloc.invariant.walked (adds_as _ _ _ _ _ _ c.loop-alloc.invariant.caller c.in-Ok.ensures.steps)
      (λ xs ys one other. wrote_both c.args.number c.args.begin (place_of c.args.place) (place_of c.loop-alloc.place) (place_of c.in-Ok.next) c.args.writer.now c.loop-alloc.writer c.take_step.new.writer _ _ _ xs ys one other);
}
