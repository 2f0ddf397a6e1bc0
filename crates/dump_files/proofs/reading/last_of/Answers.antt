use Rattle.std.proofs.Common.{◌∙◌, ◌-◌, ap, length}
use Rattle.std.specs.List.{slice_get}
use Rattle.dump_files.proofs.Turns.{last_is}
use Rattle.dump_files.proofs.reading.last_of.Goals as goal

pub returns : goal.returns
returns g c = c.last.ensures.value ∙ ap (λ (l : _). slice_get l (length l - 1)) c.as_slice.ensures.items ∙ last_is c.args.elements.now
