use Rattle.std.proofs.Common.{ap, arith, inr, refl, rules, ◌∙◌}
use Rattle.desk.proofs.Additions.{adds_as, adds_both, adds_none, adds_weaker}
use Rattle.thrift_binary.specs.declared.progress.Progress.{Progress}
use Rattle.thrift_binary.proofs.Reading.{Took-unspent}
use Rattle.ms_session.specs.Session.{end_of_fault}
use Rattle.ms_session.proofs.Sessions.{came, faulted, nothing_yet, one_more, one_part, shut}
use Rattle.ms_session.proofs.session.answer_all.Goals as goal

pub loop-request-init : goal.loop-request-init
loop-request-init g c = record {
  same_source = search rules;
  read = refl;
  write = refl;
  clock = omega arith;
  folder = omega arith;
  empty = search rules;
  unspent = ap (λ (p : Progress). p.fault) c.requires;
  caller = refl;
  start = refl;
  legal = λ was. was;
  counted = λ was. was;
  so_far = adds_none _ _ _ _ (nothing_yet _ _ (ap (λ (p : Progress). p.place) c.requires));
}

pub returns-in-Err-clause-session : goal.returns-in-Err-clause-session
returns-in-Err-clause-session g c =
    rw c.end_of.ensures (adds_weaker _ _ _ _ _ _ (λ own so_far. faulted _ _ _ c.loop-request.reader.progress _ own c.in-Err.fault so_far c.loop-request.invariant.unspent c.in-Err.ensures.inside c.in-Err.ensures.reads) c.loop-request.invariant.so_far)

pub returns-in-Err-WriteFault-clause-session : goal.returns-in-Err-WriteFault-clause-session
returns-in-Err-WriteFault-clause-session g c =
    adds_both _ _ _ _ _ _ _ _ c.loop-request.invariant.so_far (adds_as _ _ _ _ _ _ c.loop-request.invariant.caller c.in-Err-WriteFault.ensures.answers)
    (λ xs ys so_far answers. one_part _ _ _ c.loop-request.reader.progress _ xs ys c.in-Ok-Some.request so_far (came _ _ _ _ _ (rw c.in-Ok-Some.field-0-is at c.in-Ok-Some.ensures.reads)) answers)

pub returns-in-Err-NoMemory-clause-session : goal.returns-in-Err-NoMemory-clause-session
returns-in-Err-NoMemory-clause-session g c =
    adds_both _ _ _ _ _ _ _ _ c.loop-request.invariant.so_far (adds_as _ _ _ _ _ _ c.loop-request.invariant.caller c.in-Err-NoMemory.ensures.answers)
    (λ xs ys so_far answers. inr (one_part _ _ _ c.loop-request.reader.progress _ xs ys c.in-Ok-Some.request so_far (came _ _ _ _ _ (rw c.in-Ok-Some.field-0-is at c.in-Ok-Some.ensures.reads)) answers))

pub loop-request-preserved : goal.loop-request-preserved
loop-request-preserved g c = record {
  same_source = search rules;
  read = c.in-Ok-Some.ensures.stays ∙ c.loop-request.invariant.read;
  write = c.in-Ok.ensures.sink_stays ∙ c.loop-request.invariant.write;
  clock = omega (arith, c.answer.ensures.clock_later);
  folder = omega (arith, c.answer.ensures.folder_later);
  empty = c.in-Ok.ensures.emptied;
  unspent = Took-unspent _ _ _ _ _ (came _ _ _ _ c.in-Ok-Some.request (rw c.in-Ok-Some.field-0-is at c.in-Ok-Some.ensures.reads));
  caller = c.answer.ensures.caller ∙ c.loop-request.invariant.caller;
  start = c.answer.ensures.start ∙ c.loop-request.invariant.start;
  legal = λ was. c.answer.ensures.legal (c.loop-request.invariant.legal was);
  counted = λ was. c.answer.ensures.counted (c.loop-request.invariant.counted was);
  so_far = adds_both _ _ _ _ _ _ _ _ c.loop-request.invariant.so_far (adds_as _ _ _ _ _ _ c.loop-request.invariant.caller c.in-Ok.ensures.answers)
      (λ xs ys so_far answers. one_more _ _ _ c.loop-request.reader.progress _ xs ys c.in-Ok-Some.request so_far (came _ _ _ _ _ (rw c.in-Ok-Some.field-0-is at c.in-Ok-Some.ensures.reads)) answers);
}

pub returns-then-is_shutdown-clause-session : goal.returns-then-is_shutdown-clause-session
returns-then-is_shutdown-clause-session g c =
    adds_weaker _ _ _ _ _ _ (λ own so_far. shut _ _ _ c.loop-request.reader.progress _ own c.in-Ok-Some.request so_far (came _ _ _ _ c.in-Ok-Some.request (rw c.in-Ok-Some.field-0-is at c.in-Ok-Some.ensures.reads)) (c.is_shutdown.ensures.0 c.if-is_shutdown.true)) c.loop-request.invariant.so_far

pub returns-in-Err-clause-source_stays : goal.returns-in-Err-clause-source_stays
returns-in-Err-clause-source_stays g c = λ other. c.in-Err.ensures.stays (λ is. other (c.end_of.ensures ∙ ap end_of_fault is)) ∙ c.loop-request.invariant.read
