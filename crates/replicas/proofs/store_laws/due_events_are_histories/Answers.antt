use Rattle.replicas.proofs.DueEvents.{due_are_changes, due_are_numbered, due_grow, unmoved}
use Rattle.replicas.proofs.store_laws.due_events_are_histories.Goals as goal

pub returns : goal.returns
returns c = record { changes = due_are_changes; grow = due_grow; ranges = due_are_numbered; unmoved = unmoved }
