use Rattle.std.proofs.Common.{decimal, ◌∙◌}
use Rattle.dump_manifest.specs.Pieces.{spaced}
use Rattle.dump_manifest.proofs.Pieces.{word_value_is}
use Rattle.dump_manifest.proofs.files.read_numbered.Goals as goal

pub returns-in-Some : goal.returns-in-Some
returns-in-Some c = word_value_is (decimal c.args.number) _ spaced c.args.text.now c.in-Some.rest.now _ (c.as_bytes.ensures.value ∙ c.format.ensures.text) c.in-Some.ensures c.read_spaced.ensures
