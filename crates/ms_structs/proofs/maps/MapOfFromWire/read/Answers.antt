use Rattle.std.proofs.Common.{ap}
use Rattle.std.proofs.lemmas.Result.{err_from_is_err_and}
use Rattle.ms_structs.proofs.EntriesSoFar.{map_stop_head, map_stop, map_took, pairs_judged}
use Rattle.ms_structs.proofs.maps.MapOfFromWire.read.Goals as goal

pub returns-in_err-key_type-clause-reads : goal.returns-in_err-key_type-clause-reads
returns-in_err-key_type-clause-reads g c =
    let p = err_from_is_err_and c.from_residual-in_err-key_type.result c.from_residual-in_err-key_type.ensures.1 in
    rw (p.1, p.2) (map_stop_head _ _ _ _ _ _ c.in_err-key_type.field-0.0 c.in_ok-open.ensures.opens c.in_err-key_type.ensures.reads)

pub returns-in_err-pairs-clause-reads : goal.returns-in_err-pairs-clause-reads
returns-in_err-pairs-clause-reads g c =
    let p = err_from_is_err_and c.from_residual-in_err-pairs.result c.from_residual-in_err-pairs.ensures.1 in
    rw (p.1, p.2) (map_stop _ _ _ _ _ _ _ _ c.in_err-pairs.field-0.0 c.in_ok-key_type.key_type c.in_ok-key_type.value_type c.in_ok-key_type.count c.in_ok-open.ensures.opens c.in_ok-key_type.ensures.reads c.in_err-pairs.ensures.reads)

pub returns-clause-reads : goal.returns-clause-reads
returns-clause-reads g c =
    map_took _ _ _ _ _ _ _ _ _ _ c.in_ok-key_type.key_type c.in_ok-key_type.value_type c.in_ok-key_type.count _ _ (λ ps count so. pairs_judged g.K.Ord.cmp g.K.FromWire.CODE g.K.FromWire.means g.V.FromWire.CODE g.V.FromWire.means c.in_ok-key_type.key_type c.in_ok-key_type.value_type c.in_ok-key_type.count ps _ _ _ _ _ count so c.fits.ensures c.CODE.ensures c.CODE-2.ensures c.judged.ensures)
    c.in_ok-open.ensures.opens c.in_ok-key_type.ensures.reads c.in_ok-pairs.ensures.reads (ap g.S.Source.left c.close.ensures.source) c.close.ensures.progress
