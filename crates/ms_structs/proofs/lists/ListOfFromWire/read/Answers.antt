use Rattle.std.proofs.Common.{ap}
use Rattle.std.proofs.lemmas.Result.{err_from_is_err_and}
use Rattle.ms_structs.proofs.ElementsSoFar.{list_stop_head, list_stop, list_took, items_judged}
use Rattle.ms_structs.proofs.lists.ListOfFromWire.read.Goals as goal

pub returns-in_err-ty-clause-reads : goal.returns-in_err-ty-clause-reads
returns-in_err-ty-clause-reads g c =
    let p = err_from_is_err_and c.from_residual-in_err-ty.result c.from_residual-in_err-ty.ensures.1 in
    rw (p.1, p.2) (list_stop_head _ _ _ _ _ _ c.in_err-ty.field-0.0 c.in_ok-open.ensures.opens c.in_err-ty.ensures.reads)

pub returns-in_err-items-clause-reads : goal.returns-in_err-items-clause-reads
returns-in_err-items-clause-reads g c =
    let p = err_from_is_err_and c.from_residual-in_err-items.result c.from_residual-in_err-items.ensures.1 in
    rw (p.1, p.2) (list_stop _ _ _ _ _ _ _ _ c.in_err-items.field-0.0 c.in_ok-ty.ty c.in_ok-ty.count c.in_ok-open.ensures.opens c.in_ok-ty.ensures.reads c.in_err-items.ensures.reads)

pub returns-clause-reads : goal.returns-clause-reads
returns-clause-reads g c =
    list_took _ _ _ _ _ _ _ _ _ _ c.in_ok-ty.ty c.in_ok-ty.count _ _ (λ es count so. items_judged g.T.FromWire.CODE g.T.FromWire.means c.in_ok-ty.ty c.in_ok-ty.count es _ _ _ _ count so c.fits.ensures c.CODE.ensures c.judged.ensures)
    c.in_ok-open.ensures.opens c.in_ok-ty.ensures.reads c.in_ok-items.ensures.reads (ap g.S.Source.left c.close.ensures.source) c.close.ensures.progress
