use Rattle.std.proofs.Common.{◌≡◌, ◌++◌, ◌∷◌, [], List, ℕ, IfOk, codes, string_bytes, subst, ◌∙◌}
use Rattle.ms_cli.specs.Telling.{refused_dump_line}
use Rattle.ms_cli.proofs.Lines.{told_line}
use Rattle.ms_cli.proofs.telling.tell_refused_dump.Goals as goal

pub returns-in-Ok-clause-told : goal.returns-in-Ok-clause-told
returns-in-Ok-clause-told g c =
    told_line _ _ c.format.result c.tell_text.result (refused_dump_line c.args.refusal)
    (subst (λ (t : List ℕ). IfOk c.format.result (λ s. string_bytes s ≡ codes "dump refused: " ++ (t ++ 10 ∷ []))) (c.as_str-cause.ensures.bytes ∙ c.in-Ok.ensures) c.format.ensures.ok)
    c.tell_text.ensures.ok c.tell_text.ensures.err
