use Rattle.stat_rules.proofs.Finding.{lead_item}
use Rattle.stat_rules.proofs.places.places_of.Goals as goal

pub loop-at-preserved : goal.loop-at-preserved
loop-at-preserved c =
    lead_item c.as_slice-column-items.result.now c.args.cols.now c.loop-at.at c.column-item.result c.loop-at.places.entries c.add_place.new.places.entries
    c.as_slice-column-items.ensures.items c.loop-at-test.true c.column-item.is c.loop-at.invariant c.in_ok-add_place.ensures
