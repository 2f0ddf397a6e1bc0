use Rattle.std.proofs.Common.{subst}
use Rattle.std.specs.List.Sorted.{IsStrictlySortedBy}
use Rattle.std.specs.Map.{keys_of}
use Rattle.cat_values.proofs.MapLemmas.{copy_step}
use Rattle.cat_values.proofs.map_of.MapOfTryCopy.copy.Goals as goal

pub loop-key-preserved : goal.loop-key-preserved
loop-key-preserved g c =
    copy_step g.K.Ord.cmp g.met.K.Ord.total c.loop-key.inner.entries c.insert_pair.new.inner.entries c.loop-key.key-iterator c.next.new.self c.args.self.now
    c.in-Some.key.now c.in_ok-new_key.new_key c.in-Some.value.now c.in_ok-new_value.new_value
    (subst (λ es. IsStrictlySortedBy g.K.Ord.cmp (keys_of es)) c.self.view_is c.iter-key-items.ensures.ordered)
    c.loop-key.invariant c.in-Some.ensures.steps c.in_ok-insert_pair.ensures.ok c.in_ok-new_key.ensures c.in_ok-new_value.ensures
