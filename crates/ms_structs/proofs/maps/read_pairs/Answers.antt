use Rattle.std.proofs.Common.{◌≡◌, ◌∙◌, refl, ap, arith, rules, ◌+◌}
use Rattle.std.specs.Bool.{⊤}
use Rattle.std.proofs.lemmas.Result.{err_from_is_err_and}
use Rattle.ms_structs.specs.Slots.{typed}
use Rattle.ms_structs.proofs.Getting.{refused_there}
use Rattle.ms_structs.proofs.EntriesSoFar.{entries_none, entries_more, entries_stop, some_begun, no_pairs_is, pair_step}
use Rattle.ms_structs.proofs.maps.read_pairs.Goals as goal

pub loop-init : goal.loop-init
loop-init g c = record { same_source = refl; stays = refl; so_far = entries_none _ _ _ _ _ c.requires.unspent c.args.reader.now.within (no_pairs_is _ c.new.ensures.pairs c.new.ensures.spoiled) }

pub returns-in_err-key-clause-reads : goal.returns-in_err-key-clause-reads
returns-in_err-key-clause-reads g c =
    let p = err_from_is_err_and c.from_residual.result c.from_residual.ensures.1 in
    rw (p.1, p.2) (entries_stop _ _ _ _ _ _ c.args.key_type c.args.value_type c.loop.counter c.args.count _ c.in_err-key.field-0.0 c.requires.keys c.loop-test.true c.loop.invariant.so_far c.in_err-key.ensures.reads)

pub loop-preserved : goal.loop-preserved
loop-preserved g c = record {
  same_source = search rules;
  stays = c.in_ok-key.ensures.stays ∙ c.loop.invariant.stays;
  so_far = entries_more _ _ _ _ _ _ c.args.key_type c.args.value_type c.loop.counter (c.loop.counter + 1) _ _ (λ pair. (c.in_ok-key.key ≡ typed g.K.FromWire.CODE g.K.FromWire.means c.args.key_type pair.0) × (c.in_ok-key.value ≡ typed g.V.FromWire.CODE g.V.FromWire.means c.args.value_type pair.1)) (omega arith) (λ ps k w so says. pair_step g.K.Ord.cmp (typed g.K.FromWire.CODE g.K.FromWire.means c.args.key_type) (typed g.V.FromWire.CODE g.V.FromWire.means c.args.value_type) ps k w _ _ _ _ c.in-Ok.ensures so says.0 says.1)
      c.loop.invariant.so_far c.in_ok-key.ensures.reads;
}

pub returns-in-Err-clause-reads : goal.returns-in-Err-clause-reads
returns-in-Err-clause-reads g c =
    refused_there _ _ _ _ _ _ _ _ _ _ (some_begun _ c.args.key_type c.args.value_type (c.loop.counter + 1) c.args.count _ c.requires.keys (omega (arith, c.loop-test.true))) (entries_more _ _ _ _ _ _ c.args.key_type c.args.value_type c.loop.counter (c.loop.counter + 1) _ (λ _. ⊤) (λ pair. (c.in_ok-key.key ≡ typed g.K.FromWire.CODE g.K.FromWire.means c.args.key_type pair.0) × (c.in_ok-key.value ≡ typed g.V.FromWire.CODE g.V.FromWire.means c.args.value_type pair.1)) (omega arith) (λ ps k w so says. tt) c.loop.invariant.so_far c.in_ok-key.ensures.reads)
    (ap g.S.Source.left c.refused.ensures.source) c.refused.ensures.kept c.refused.ensures.same
