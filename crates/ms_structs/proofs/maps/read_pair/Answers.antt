use Rattle.std.proofs.Common.{◌≡◌}
use Rattle.std.proofs.lemmas.Result.{err_from_is_err_and}
use Rattle.ms_structs.specs.Slots.{typed}
use Rattle.ms_structs.proofs.EntriesSoFar.{pair_stop, pair_stop_key, pair_took}
use Rattle.ms_structs.proofs.maps.read_pair.Goals as goal

pub returns-in_err-key-clause-reads : goal.returns-in_err-key-clause-reads
returns-in_err-key-clause-reads g c =
    let p = err_from_is_err_and c.from_residual.result c.from_residual.ensures.1 in
    rw (p.1, p.2) (pair_stop_key _ _ _ _ c.in_err-key.field-0.0 c.args.key_type c.args.value_type c.requires.values c.in_err-key.ensures.reads)

pub returns-in_err-value-clause-reads : goal.returns-in_err-value-clause-reads
returns-in_err-value-clause-reads g c =
    let p = err_from_is_err_and c.from_residual-in_err-value.result c.from_residual-in_err-value.ensures.1 in
    rw (p.1, p.2) (pair_stop _ _ _ _ _ _ c.in_err-value.field-0.0 c.args.key_type c.args.value_type _ c.in_ok-key.ensures.reads c.in_err-value.ensures.reads)

pub returns-clause-reads : goal.returns-clause-reads
returns-clause-reads g c = pair_took _ _ _ _ _ _ c.args.key_type c.args.value_type (λ k. c.in_ok-key.key ≡ typed g.K.FromWire.CODE g.K.FromWire.means c.args.key_type k) (λ w. c.in_ok-value.value ≡ typed g.V.FromWire.CODE g.V.FromWire.means c.args.value_type w) c.in_ok-key.ensures.reads c.in_ok-value.ensures.reads
