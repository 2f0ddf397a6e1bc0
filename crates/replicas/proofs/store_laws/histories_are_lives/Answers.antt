use Rattle.replicas.proofs.Calls.{calls_are_apart, new_stores, rising_is_in_order}
use Rattle.replicas.proofs.Histories.{are_lawful, changes_are_lives, stay_in_order}
use Rattle.replicas.proofs.store_laws.histories_are_lives.Goals as goal

pub returns : goal.returns
returns c = record { lives = changes_are_lives; lawful = are_lawful; order = stay_in_order; new_stores = new_stores; calls = calls_are_apart; rising = rising_is_in_order }
