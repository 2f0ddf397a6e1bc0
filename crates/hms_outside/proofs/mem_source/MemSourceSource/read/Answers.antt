use Rattle.std.proofs.Common.{sym, ap, ◌∙◌}
use Rattle.hms_outside.proofs.Given.{given_front, none_given}
use Rattle.hms_outside.proofs.mem_source.MemSourceSource.read.Goals as goal

pub returns-clause-bytes : goal.returns-clause-bytes
returns-clause-bytes c =
    let left = ap (λ s. s.left) c.self.view_is in (
      given_front c.self.inside.bytes.items c.args.self.now.left c.give-count.new.buf c.self.inside.at c.give-count.result left c.give-count.ensures.front,
      λ none room. none_given c.self.inside.bytes.items c.args.self.now.left c.self.inside.at c.give-count.result left none
          (c.give-count.ensures.none (sym c.is_stopped.ensures ∙ c.if-is_stopped.false) none),
    )
