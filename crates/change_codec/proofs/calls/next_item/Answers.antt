use Rattle.std.proofs.Common.{arith}
use Rattle.change_codec.specs.declared.version.Version.TheVariants.{One}
use Rattle.change_codec.proofs.Lawful.{item-lawful}
use Rattle.change_codec.proofs.Onward.{goes_forward}
use Rattle.change_codec.proofs.Steady.{item-steady, item_none}
use Rattle.change_codec.proofs.calls.next_item.Goals as goal

pub returns-clause-forward : goal.returns-clause-forward
returns-clause-forward c = goes_forward _ (item-lawful One) (item-steady One) (item_none One) c.args.bytes.now (λ i. omega (arith, c.type_inv.bytes i)) c.args.at c.requires c.get_at.result c.get_at.ensures
