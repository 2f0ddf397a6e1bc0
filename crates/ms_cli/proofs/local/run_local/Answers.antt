use Rattle.std.proofs.Common.{map, string_bytes, subst}
use Rattle.ms_cli.specs.Words.{Names}
use Rattle.ms_cli.specs.declared.words.Command.{Command}
use Rattle.ms_cli.proofs.Statuses.{did_5, did_6, did_9, did_11}
use Rattle.ms_cli.proofs.local.run_local.Goals as goal

pub returns-clause-runs : goal.returns-clause-runs
returns-clause-runs g c = (c.read_words.result, c.read_words.ensures, c.perform.ensures.did)

pub returns-clause-usage : goal.returns-clause-usage
returns-clause-usage g c = λ two.
    let wrong = c.perform.ensures.usage two in
    (wrong.0, subst (λ (n : Command). Names (map string_bytes c.args.words.now) n) wrong.1 c.read_words.ensures)

pub returns-clause-disk : goal.returns-clause-disk
returns-clause-disk g c = λ is. did_5 _ _ _ _ c.perform.ensures.did is

pub returns-clause-store : goal.returns-clause-store
returns-clause-store g c = λ is. (c.read_words.result, c.read_words.ensures, did_6 _ _ _ _ c.perform.ensures.did is)

pub returns-clause-dump : goal.returns-clause-dump
returns-clause-dump g c = λ is. did_9 _ _ _ _ c.perform.ensures.did is

pub returns-clause-folder : goal.returns-clause-folder
returns-clause-folder g c = λ is. did_11 _ _ _ _ c.perform.ensures.did is
