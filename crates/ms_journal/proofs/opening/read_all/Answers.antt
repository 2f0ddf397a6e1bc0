use Rattle.std.proofs.Common.{arith, refl, ◌∙◌, ap, length}
use Rattle.ms_journal.proofs.Pieces.{nothing_first, piece_first, all_read}
use Rattle.ms_journal.proofs.opening.read_all.Goals as goal

pub loop-bytes-init : goal.loop-bytes-init
loop-bytes-init g c = record {
  lies = refl;
  past = refl;
  faults = omega arith;
  room = omega (arith, c.in_ok-piece.ensures.room, ap length c.as_mut_slice-room.ensures.value);
  so_far = nothing_first _ _ c.new-bytes.ensures.items;
}

pub loop-bytes-preserved : goal.loop-bytes-preserved
loop-bytes-preserved g c =
    let said = c.in_ok-read_piece.ensures in
    record {
      lies = said.lies ∙ c.loop-bytes.invariant.lies;
      past = said.past ∙ c.loop-bytes.invariant.past;
      faults = omega (arith, c.loop-bytes.invariant.faults, said.later);
      room = omega (arith, c.loop-bytes.invariant.room, said.room);
      so_far = piece_first _ _ _ _ c.loop-bytes.invariant.so_far (rw c.loop-bytes.invariant.lies at said.bytes);
    }

pub returns-clause-bytes : goal.returns-clause-bytes
returns-clause-bytes g c =
    let said = c.in_ok-read_piece.ensures in
    all_read _ _ _ c.loop-bytes.invariant.so_far (rw (c.loop-bytes.invariant.lies, c.if-branch.false) at said.bytes)
