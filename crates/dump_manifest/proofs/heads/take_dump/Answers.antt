use Rattle.std.proofs.Common.{codes, decimal, ◌∙◌}
use Rattle.dump_manifest.specs.Manifests.{dump_line}
use Rattle.dump_manifest.proofs.Pieces.{no_word_line, word_line_is}
use Rattle.dump_manifest.proofs.heads.take_dump.Goals as goal

pub returns-in-Some : goal.returns-in-Some
unfolding dump_line
returns-in-Some c =
    word_line_is (codes "dump ") (decimal c.args.dump) _ c.args.text.now c.in-Some.rest.now _ (c.as_bytes.ensures.value ∙ c.format.ensures.text) c.in-Some.ensures c.strip_line.ensures

pub returns-in-None : goal.returns-in-None
unfolding dump_line
returns-in-None c = no_word_line (codes "dump ") (decimal c.args.dump) c.args.text.now c.in-None.ensures
