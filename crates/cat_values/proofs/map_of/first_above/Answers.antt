use Rattle.std.proofs.Common.{ap, ◌∙◌}
use Rattle.std.specs.List.{slice_get}
use Rattle.std.specs.Ordering.{is_lt}
use Rattle.cat_values.proofs.MapLemmas.{first_found, next_first}
use Rattle.cat_values.proofs.map_of.first_above.Goals as goal

pub returns : goal.returns
returns g c =
    next_first (λ found. (found.0.now, found.1.now)) c.next.result c.range.result c.next.new.self c.next.ensures.steps
    ∙ ap (λ entries. slice_get entries 0) (c.range.ensures.between tt)
    ∙ first_found (λ entry. is_lt (g.K.Ord.cmp c.args.key.now entry.0)) c.args.inner.now.entries
