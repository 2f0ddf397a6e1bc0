use Rattle.std.proofs.Common.{rules, codes, ◌≡◌}
use Rattle.hex.specs.Hex.{encode_lower}
use Rattle.dump_manifest.specs.Manifests.{source_line}
use Rattle.dump_manifest.proofs.Pieces.{no_word_line, word_line_is}
use Rattle.dump_manifest.proofs.heads.take_source.Goals as goal

pub returns-in-Some : goal.returns-in-Some
unfolding source_line
returns-in-Some c =
    let e : c.encode_to_slice.new.output ≡ encode_lower c.args.source.now = search rules in
    word_line_is (codes "source ") (encode_lower c.args.source.now) _ c.args.text.now c.in-Some.rest.now _ e c.in-Some.ensures c.strip_line.ensures

pub returns-in-None : goal.returns-in-None
unfolding source_line
returns-in-None c = no_word_line (codes "source ") (encode_lower c.args.source.now) c.args.text.now c.in-None.ensures
