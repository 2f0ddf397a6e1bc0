use Rattle.desk.proofs.Polled.{write_nothing}
use Rattle.desk.proofs.Writing.{writes_where}
use Rattle.desk.proofs.laws.steps_write_where_the_disks_change.Goals as goal

pub returns : goal.returns
returns c = record { disks = writes_where; polls = write_nothing }
