use Rattle.std.proofs.Common.{arith}
use Rattle.change_codec.specs.declared.version.Version.TheVariants.{One}
use Rattle.change_codec.proofs.Lawful.{items-lawful}
use Rattle.change_codec.proofs.Wholes.{answers}
use Rattle.change_codec.proofs.calls.get_items.Goals as goal

pub returns : goal.returns
returns c = answers _ (items-lawful One) c.args.bytes.now c.get_whole.result (λ i. omega (arith, c.type_inv.bytes i)) c.get_whole.ensures
