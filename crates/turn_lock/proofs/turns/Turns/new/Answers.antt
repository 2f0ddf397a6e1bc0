use Rattle.std.proofs.Common.{◌∙◌, ap, ◌++◌, ◌∷◌, []}
use Rattle.std.specs.Prelude.{Some}
use Rattle.turn_lock.proofs.Ends.{starts}
use Rattle.turn_lock.proofs.turns.Turns.new.Goals as goal

pub new-requires : goal.new-requires
new-requires g c = starts g.V.Standing.caller_of g.V.Standing.history g.V.Standing.start c.args.value c.of-about.result.value c.push.new.self.items c.of-about.ensures c.requires.fresh (c.in_default-push.ensures.items ∙ ap (λ l. l ++ Some c.args.value ∷ []) c.new-slots.ensures.items)
