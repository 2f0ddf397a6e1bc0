use Rattle.replicas.proofs.Stores.{event_keeps, events_then_live, live_event_keeps}
use Rattle.replicas.proofs.store_laws.store_events_keep.Goals as goal

pub returns : goal.returns
returns c = record { half_loaded = event_keeps; live = live_event_keeps; then_live = events_then_live }
