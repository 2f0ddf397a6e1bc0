use Rattle.std.proofs.Common.{ap, map, sym, ◌∙◌}
use Rattle.dump_steps.specs.Pieces.{part_item}
use Rattle.dump_steps.proofs.Told.{parts_cut, parts_whole}
use Rattle.dump_steps.proofs.pieces.told_parts.Goals as goal

pub returns-then-len-eq-PARTS_LIMIT : goal.returns-then-len-eq-PARTS_LIMIT
returns-then-len-eq-PARTS_LIMIT c =
    parts_cut _ c.loop-values.parts _ _ _ (sym c.len.ensures.count ∙ c.if-len-eq-PARTS_LIMIT.true) c.loop-values.invariant.told
    (ap (map (part_item c.args.newest c.args.table.now c.args.born)) c.in-Some.ensures.steps)

pub returns : goal.returns
returns c =
    parts_whole _ c.loop-values.parts _ c.loop-values.invariant.few c.loop-values.invariant.told
    (ap (map (part_item c.args.newest c.args.table.now c.args.born)) c.in-None.ensures.steps.0)
