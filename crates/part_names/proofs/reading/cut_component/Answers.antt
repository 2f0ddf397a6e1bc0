use Rattle.std.proofs.Common.{lit<}
use Rattle.std.specs.Prelude.{◌==◌}
use Rattle.std.proofs.lemmas.Str.Pattern.{split_once_first}
use Rattle.part_names.proofs.Parts.{slice_split-last, slice_split-more}
use Rattle.part_names.proofs.reading.cut_component.Goals as goal

pub returns-in-Some-clause-left : goal.returns-in-Some-clause-left
returns-in-Some-clause-left c =
    let parts = split_once_first 47 c.args.text.now c.split_once.result c.split_once.ensures.cases (lit< tt) in
    let at_some = rw c.in-Some.is at parts in slice_split-more (λ b. b == 47) c.args.text.now c.in-Some.after.now at_some.0 at_some.2

pub returns-in-None-clause-left : goal.returns-in-None-clause-left
returns-in-None-clause-left c =
    let parts = split_once_first 47 c.args.text.now c.split_once.result c.split_once.ensures.cases (lit< tt) in
    let at_none = rw c.in-None.is at parts in slice_split-last (λ b. b == 47) c.args.text.now at_none
