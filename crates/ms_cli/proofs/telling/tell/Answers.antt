use Rattle.std.proofs.Common.{sym, subst}
use Rattle.ms_cli.specs.Telling.{TellsEnd, line_of}
use Rattle.ms_session.specs.declared.end.End.{End}
use Rattle.ms_session.specs.declared.end.End.TheVariants.{Truncated, BadWire, TooLarge}
use Rattle.ms_cli.proofs.Lines.{told_line}
use Rattle.ms_cli.proofs.telling.tell.Goals as goal

pub returns-in-Truncated-clause-told : goal.returns-in-Truncated-clause-told
returns-in-Truncated-clause-told g c =
    subst (λ (e : End). TellsEnd e c.tell_text.result (g.E.Sink.held c.args.errors.now) (g.E.Sink.held c.tell_text.new.errors)) (sym c.in-Truncated.is)
    (told_line _ _ c.format.result c.tell_text.result (line_of (Truncated c.in-Truncated.place)) c.format.ensures.ok c.tell_text.ensures.ok c.tell_text.ensures.err)

pub returns-in-BadWire-clause-told : goal.returns-in-BadWire-clause-told
returns-in-BadWire-clause-told g c =
    subst (λ (e : End). TellsEnd e c.tell_text-in-BadWire.result (g.E.Sink.held c.args.errors.now) (g.E.Sink.held c.tell_text-in-BadWire.new.errors)) (sym c.in-BadWire.is)
    (told_line _ _ c.format-in-BadWire.result c.tell_text-in-BadWire.result (line_of (BadWire c.in-BadWire.code c.in-BadWire.place)) c.format-in-BadWire.ensures.ok c.tell_text-in-BadWire.ensures.ok c.tell_text-in-BadWire.ensures.err)

pub returns-in-TooLarge-clause-told : goal.returns-in-TooLarge-clause-told
returns-in-TooLarge-clause-told g c =
    subst (λ (e : End). TellsEnd e c.tell_text-in-TooLarge.result (g.E.Sink.held c.args.errors.now) (g.E.Sink.held c.tell_text-in-TooLarge.new.errors)) (sym c.in-TooLarge.is)
    (told_line _ _ c.format-in-TooLarge.result c.tell_text-in-TooLarge.result (line_of (TooLarge c.in-TooLarge.place)) c.format-in-TooLarge.ensures.ok c.tell_text-in-TooLarge.ensures.ok c.tell_text-in-TooLarge.ensures.err)
