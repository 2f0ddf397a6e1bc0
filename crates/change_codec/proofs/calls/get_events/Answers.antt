use Rattle.std.proofs.Common.{arith}
use Rattle.change_codec.specs.declared.version.Version.TheVariants.{One}
use Rattle.change_codec.proofs.Lawful.{events-lawful}
use Rattle.change_codec.proofs.Wholes.{answers}
use Rattle.change_codec.proofs.calls.get_events.Goals as goal

pub returns : goal.returns
returns c = answers _ (events-lawful One) c.args.bytes.now c.get_whole.result (λ i. omega (arith, c.type_inv.bytes i)) c.get_whole.ensures
