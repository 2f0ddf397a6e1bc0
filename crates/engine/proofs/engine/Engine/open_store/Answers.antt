use Rattle.engine.proofs.OneStore.{broken_file, only_outage, opens_found, reopened_found, replay_kind, replay_not_foreign, untaken_file}
use Rattle.engine.proofs.engine.Engine.open_store.Goals as goal

pub returns-in-Ok-replay-clause-reopened : goal.returns-in-Ok-replay-clause-reopened
returns-in-Ok-replay-clause-reopened g c = reopened_found _ c.begin.result.start (opens_found _ _ _ _ _ c.in-Ok.ensures.file c.in-Ok-replay.ensures c.begin.ensures.state)

pub returns-in-Err-replay-clause-outage : goal.returns-in-Err-replay-clause-outage
returns-in-Err-replay-clause-outage g c =
    only_outage _ _ (replay_kind _ _ c.in-Err-replay.ensures) (λ is. absurd (replay_not_foreign _ _ c.in-Err-replay.ensures is)) (λ at is. untaken_file _ _ _ _ at c.in-Ok.ensures.file c.in-Err-replay.ensures is)

pub returns-in-Err-clause-broken : goal.returns-in-Err-clause-broken
returns-in-Err-clause-broken g c = λ at is. broken_file _ at (c.in-Err.ensures.broken at is)

pub returns-in-Err-clause-outage : goal.returns-in-Err-clause-outage
returns-in-Err-clause-outage g c = only_outage _ _ c.in-Err.ensures.kind c.in-Err.ensures.foreign (λ at is. broken_file _ at (c.in-Err.ensures.broken at is))
