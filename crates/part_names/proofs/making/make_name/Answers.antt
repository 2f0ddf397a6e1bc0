use Rattle.std.specs.Prelude.{string_bytes}
use Rattle.part_names.proofs.Joining.{part_name-short}
use Rattle.part_names.proofs.making.make_name.Goals as goal

pub text_of-requires : goal.text_of-requires
text_of-requires c =
    part_name-short c.args.keys.now c.args.values.now (string_bytes c.in_ok-name.name) _ c.requires.few c.requires.object_names c.requires.valid c.in_ok-name.name.bytes.ok.0 c.in_ok-name.ensures
