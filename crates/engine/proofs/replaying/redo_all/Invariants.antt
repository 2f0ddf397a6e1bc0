use Rattle.std.proofs.Common.{◌≡◌, length}
use Rattle.std.specs.Vec.Iter.{into_iter_items, into_iter_len}
use Rattle.engine.specs.Opening.{replayed}
use Rattle.ms_journal.specs.Parsed.{pairs_of}
use Rattle.engine.proofs.replaying.redo_all.Given as goal

abbrev pub invariant-loop-payload : goal.invariant-loop-payload
invariant-loop-payload l = (replayed (pairs_of (into_iter_items l.payload-iterator)) l.store ≡ replayed (pairs_of l.fn.payloads) l.fn.store)
    × (into_iter_len l.payload-iterator ≡ length (into_iter_items l.payload-iterator))
