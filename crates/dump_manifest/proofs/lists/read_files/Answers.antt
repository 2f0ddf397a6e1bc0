use Rattle.std.proofs.Common.{ap, refl, ◌-◌}
use Rattle.dump_manifest.proofs.Rows.{so_far_ends, so_far_more, so_far_stops}
use Rattle.dump_manifest.proofs.lists.read_files.Goals as goal

pub loop-found-preserved : goal.loop-found-preserved
loop-found-preserved c =
    let items = c.loop-found.items in
    let found = c.in-Some.found in
    let file = c.in_ok-file_of.ensures in
    so_far_more c.args.bootstrap c.args.text.now c.loop-found.files c.push.new.self items c.items_after-items.result (c.len.result - items) (c.len-in-Some.result - items)
    c.loop-found.rest.now c.in-Some.after.now found.0 found.1.0 found.1.1 c.in_ok-file_of.field-0 c.loop-found.invariant
    (ap (λ n. n - items) c.len.ensures.count) (ap (λ n. n - items) c.len-in-Some.ensures.count) c.in-Some.ensures.0 c.in-Some.ensures.1
    file.0 file.1 file.2 c.in_ok-push.ensures.ok c.items_after-items.ensures

pub returns-in-Some-take_done : goal.returns-in-Some-take_done
returns-in-Some-take_done c =
    so_far_ends c.args.bootstrap c.args.text.now c.loop-found.files c.loop-found.items c.loop-found.rest.now c.in-Some-take_done.after.now c.loop-found.invariant
    c.in-Some-take_done.ensures.some.0 c.in-Some-take_done.ensures.some.1

pub returns : goal.returns
returns c =
    so_far_stops c.args.bootstrap c.args.text.now c.loop-found.files c.loop-found.items (c.len.result - c.loop-found.items) c.loop-found.rest.now c.loop-found.invariant
    (ap (λ n. n - c.loop-found.items) c.len.ensures.count) c.in_default.ensures (c.in-None.ensures.none refl)
