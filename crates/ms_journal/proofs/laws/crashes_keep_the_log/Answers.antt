use Rattle.ms_journal.proofs.OneWay.{crash_keeps, crash_opens}
use Rattle.ms_journal.proofs.laws.crashes_keep_the_log.Goals as goal

pub returns-clause-log : goal.returns-clause-log
returns-clause-log c = crash_keeps

pub returns-clause-opens : goal.returns-clause-opens
returns-clause-opens c = crash_opens
