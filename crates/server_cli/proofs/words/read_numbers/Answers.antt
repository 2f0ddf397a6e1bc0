use Rattle.server_cli.proofs.Asking.{no_port, no_workers}
use Rattle.server_cli.proofs.words.read_numbers.Goals as goal

pub returns-in_err-read_number-clause-none : goal.returns-in_err-read_number-clause-none
returns-in_err-read_number-clause-none c = λ _. no_port _ _ _ _ _ c.in_err-read_number.ensures

pub returns-in_err-read_number-2-clause-none : goal.returns-in_err-read_number-2-clause-none
returns-in_err-read_number-2-clause-none c = λ _. no_workers _ _ _ _ _ c.in_err-read_number-2.ensures
