use Rattle.std.proofs.Common.{sym, subst}
use Rattle.ms_cli.specs.Telling.{TellsLine, refusal_line}
use Rattle.ms_journal.specs.declared.fault.OpenFault.{OpenFault}
use Rattle.ms_journal.specs.declared.fault.OpenFault.TheVariants.{Broken}
use Rattle.ms_cli.proofs.Lines.{told_line}
use Rattle.ms_cli.proofs.telling.tell_refusal.Goals as goal

pub returns-in-Broken-clause-told : goal.returns-in-Broken-clause-told
returns-in-Broken-clause-told g c =
    subst (λ (f : OpenFault). TellsLine (refusal_line f) c.tell_text.result (g.E.Sink.held c.args.errors.now) (g.E.Sink.held c.tell_text.new.errors)) (sym c.in-Broken.is)
    (told_line _ _ c.format.result c.tell_text.result (refusal_line (Broken c.in-Broken.at)) c.format.ensures.ok c.tell_text.ensures.ok c.tell_text.ensures.err)
