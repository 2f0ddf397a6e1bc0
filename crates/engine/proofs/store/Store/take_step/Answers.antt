use Rattle.std.proofs.Common.{◌≡◌, rules, w64, to_z, of_z}
use mir.Val.{SFits}
use Rattle.std.proofs.lemmas.Int.{to_z-of_z}
use Rattle.engine.proofs.store.Store.take_step.Goals as goal

pub returns-in-DumpTable : goal.returns-in-DumpTable
returns-in-DumpTable g c = rw (c.in-DumpTable.is, ← c.as_ref.ensures.value) (c.dump_table.ensures _ c.requires)

pub returns-in-DumpParts : goal.returns-in-DumpParts
returns-in-DumpParts g c = rw (c.in-DumpParts.is, ← c.as_ref-in-DumpParts.ensures.value) (c.dump_parts.ensures _ c.requires)

pub returns-in-DumpSeal : goal.returns-in-DumpSeal
returns-in-DumpSeal g c = rw c.in-DumpSeal.is (c.seal_dump.ensures _ c.requires)

pub returns-in-DumpEvents : goal.returns-in-DumpEvents
returns-in-DumpEvents g c = rw c.in-DumpEvents.is (c.dump_events.ensures _ c.requires)

pub returns-in-DumpEnd : goal.returns-in-DumpEnd
returns-in-DumpEnd g c = rw c.in-DumpEnd.is (c.end_dump.ensures _ c.requires)

pub returns-in-Trim : goal.returns-in-Trim
returns-in-Trim g c =
    let fits : SFits w64 c.in-Trim.upto = search rules in
    let same : to_z w64 (of_z w64 c.in-Trim.upto) ≡ c.in-Trim.upto = to_z-of_z w64 c.in-Trim.upto fits in
    rw c.in-Trim.is (rw same at (c.trim.ensures c.args.caller))
