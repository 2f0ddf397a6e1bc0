use Rattle.std.proofs.Common.{sym, subst}
use Rattle.ms_cli.specs.Telling.{TellsLine, usage_line}
use Rattle.ms_cli.specs.declared.words.Usage.{Usage}
use Rattle.ms_cli.proofs.telling.tell_usage.Goals as goal

pub returns-in-LongWord-clause-told : goal.returns-in-LongWord-clause-told
returns-in-LongWord-clause-told g c =
    subst (λ (u : Usage). TellsLine (usage_line u) c.tell_line-in-LongWord.result (g.E.Sink.held c.args.errors.now) (g.E.Sink.held c.tell_line-in-LongWord.new.errors)) (sym c.in-LongWord.is) c.tell_line-in-LongWord.ensures.told

pub returns-in-Id-clause-told : goal.returns-in-Id-clause-told
returns-in-Id-clause-told g c =
    subst (λ (u : Usage). TellsLine (usage_line u) c.tell_line-in-Id.result (g.E.Sink.held c.args.errors.now) (g.E.Sink.held c.tell_line-in-Id.new.errors)) (sym c.in-Id.is) c.tell_line-in-Id.ensures.told
