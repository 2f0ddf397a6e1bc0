use Rattle.std.proofs.Common.{◌≡◌, drop}
use Rattle.server_cli.specs.Server.{first_fault}
use Rattle.server_cli.proofs.lists.first_of.Given as goal

abbrev pub invariant-loop-end : goal.invariant-loop-end
invariant-loop-end l = first_fault l.ends ≡ first_fault (drop l.end-index l.ends)
