use Rattle.std.proofs.Common.{◌+◌, rules}
use Rattle.engine.proofs.store.Store.accept.Goals as goal

pub place-requires : goal.place-requires
place-requires g c = (c.args.self.now.newest + 1, search rules)
