use Rattle.std.proofs.lemmas.Result.{err_from_is_err_and}
use Rattle.filter_expr.specs.Trees.{lone, one, compare, group}
use Rattle.filter_expr.specs.Grammar.{all_first, any_first, in_group}
use Rattle.filter_expr.proofs.Calls.{fault_as, parsed_as}
use Rattle.filter_expr.proofs.Shorter.{later_all_shorter, later_term_shorter}
use Rattle.filter_expr.proofs.Stopping.{bare_stops, bare_term, open_stops, closed_stops, closed_term, group_stops, later_term_stops, later_all_stops, not_closed, one_term_more, one_all_more}
use Rattle.filter_expr.proofs.parsing.+parse.Goals as goal

pub all-returns-in_err-term-clause-parsed : goal.all-returns-in_err-term-clause-parsed
all-returns-in_err-term-clause-parsed t c =
    let p = err_from_is_err_and c.from_residual.result c.from_residual.ensures.1 in
    rw (p.1, p.2) (fault_as _ _ _ _ _ _ c.in_err-term.field-0.0 (λ f h. all_first _ f _ h) c.in_err-term.ensures)

pub all-loop-alloc-init : goal.all-loop-alloc-init
all-loop-alloc-init t c = let h = c.in_ok-term.ensures in (one h.0, h.1, h.2)

pub all-loop-alloc-smaller : goal.all-loop-alloc-smaller
all-loop-alloc-smaller t c = let h = c.in_ok-later_term.ensures in later_term_shorter h.0 _ _ _ h.1

pub all-loop-alloc-preserved : goal.all-loop-alloc-preserved
all-loop-alloc-preserved t c = one_term_more _ _ _ _ _ _ _ c.loop-alloc.invariant c.in_ok-later_term.ensures

pub all-returns-in_err-later_term-clause-parsed : goal.all-returns-in_err-later_term-clause-parsed
all-returns-in_err-later_term-clause-parsed t c =
    let p = err_from_is_err_and c.from_residual-in_err-later_term.result c.from_residual-in_err-later_term.ensures.1 in
    rw (p.1, p.2) (fault_as _ _ _ _ _ _ c.in_err-later_term.field-0.0 (λ f h. later_term_stops _ f _ _ _ _ c.loop-alloc.invariant h) c.in_err-later_term.ensures)

pub any-returns-in_err-all-clause-parsed : goal.any-returns-in_err-all-clause-parsed
any-returns-in_err-all-clause-parsed t c =
    let p = err_from_is_err_and c.from_residual.result c.from_residual.ensures.1 in
    rw (p.1, p.2) (fault_as _ _ _ _ _ _ c.in_err-all.field-0.0 (λ f h. any_first _ f _ h) c.in_err-all.ensures.parsed)

pub any-loop-alloc-init : goal.any-loop-alloc-init
any-loop-alloc-init t c = let h = c.in_ok-all.ensures.parsed in record { so_far = (lone h.0, h.1, h.2); end = c.in_ok-all.ensures.end }

pub any-loop-alloc-smaller : goal.any-loop-alloc-smaller
any-loop-alloc-smaller t c = let h = c.in_ok-later_all.ensures.parsed in later_all_shorter h.0 _ _ _ h.1

pub any-loop-alloc-preserved : goal.any-loop-alloc-preserved
any-loop-alloc-preserved t c = record {
  so_far = one_all_more _ _ _ _ _ _ _ c.loop-alloc.invariant.so_far c.in_ok-later_all.ensures.parsed;
  end = c.in_ok-later_all.ensures.end;
}

pub any-returns-in_err-later_all-clause-parsed : goal.any-returns-in_err-later_all-clause-parsed
any-returns-in_err-later_all-clause-parsed t c =
    let p = err_from_is_err_and c.from_residual-in_err-later_all.result c.from_residual-in_err-later_all.ensures.1 in
    rw (p.1, p.2) (fault_as _ _ _ _ _ _ c.in_err-later_all.field-0.0 (λ f h. later_all_stops _ f _ _ _ _ c.loop-alloc.invariant.so_far h) c.in_err-later_all.ensures.parsed)

pub term-returns-in_err-written : goal.term-returns-in_err-written
term-returns-in_err-written t c =
    let p = err_from_is_err_and c.from_residual.result c.from_residual.ensures.1 in
    rw (p.1, p.2) (fault_as _ _ _ _ _ _ c.in_err-written.field-0.0 (λ f h. bare_stops _ f _ c.if-not-is_at.ensures.no h) c.in_err-written.ensures)

pub term-returns-then-not-is_at : goal.term-returns-then-not-is_at
term-returns-then-not-is_at t c = (compare c.in_ok-written.written, bare_term _ _ _ _ c.in_ok-written.ensures, c.in_ok-push.ensures.items)

pub term-returns-in_err-inside : goal.term-returns-in_err-inside
term-returns-in_err-inside t c =
    let p = err_from_is_err_and c.from_residual-in_err-inside.result c.from_residual-in_err-inside.ensures.1 in
    rw (p.1, p.2) (fault_as _ _ _ _ _ _ c.in_err-inside.field-0.0 (λ f h. open_stops _ f _ c.if-not-is_at.ensures.yes h) c.in_err-inside.ensures)

pub term-returns-in_err-written-2 : goal.term-returns-in_err-written-2
term-returns-in_err-written-2 t c =
    let p = err_from_is_err_and c.from_residual-in_err-written-2.result c.from_residual-in_err-written-2.ensures.1 in
    rw (p.1, p.2) (fault_as _ _ _ _ _ _ c.in_err-written-2.field-0.0 (λ f h. closed_stops _ _ f _ _ c.in_ok-inside.ensures h) c.in_err-written-2.ensures)

pub term-returns-then-branch : goal.term-returns-then-branch
term-returns-then-branch t c = (compare c.in_ok-written-2.written, closed_term _ _ _ _ _ _ c.in_ok-inside.ensures c.in_ok-written-2.ensures, c.in_ok-push-2.ensures.items)

pub term-returns-in_err-any : goal.term-returns-in_err-any
term-returns-in_err-any t c =
    let p = err_from_is_err_and c.from_residual-in_err-any.result c.from_residual-in_err-any.ensures.1 in
    rw (p.1, p.2) (fault_as _ _ _ _ _ _ c.in_err-any.field-0.0 (λ f h. in_group _ _ f _ _ c.in_ok-inside.ensures (not_closed _ _ c.if-branch.false c.in_ok-is_key_closed.ensures.no) h) c.in_err-any.ensures.parsed)

pub term-returns : goal.term-returns
term-returns t c =
    let h = c.in_ok-any.ensures.parsed in
    parsed_as _ _ _ _ _ _ _ c.expect.result (λ _ close. (group h.0, (_, _, _, c.in_ok-inside.ensures, h.1, close), h.2)) (λ f stop. group_stops _ _ f _ _ _ h.0 c.in_ok-inside.ensures h.1 c.in_ok-any.ensures.end stop) c.expect.ensures
