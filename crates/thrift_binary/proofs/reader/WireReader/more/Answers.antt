use Rattle.std.proofs.Common.{◌-◌, ℕ, length, arith, refl, ◌∙◌, is_ok}
use Rattle.std.proofs.lemmas.List.{length-replicate}
use Rattle.thrift_binary.proofs.Reading.{reads_weaker}
use Rattle.thrift_binary.proofs.Taken.{longer-filled, longer-bound}
use Rattle.thrift_binary.proofs.reader.WireReader.more.Goals as goal

pub returns-clause-reads : goal.returns-clause-reads
returns-clause-reads g c =
    let old = c.args.bytes.now.ok.0 in
    let bound = longer-bound (is_ok c.resize.result) c.len-at.result c.min-room.result c.args.bytes.now.items _ c.deref_mut.result.now (omega (arith, old)) (omega (arith, old, length-replicate {A = ℕ})) (c.deref_mut.ensures.value ∙ c.resize.ensures.items) in
    reads_weaker _ _ _ _ c.exact.result _ _ _ _
    (λ v bytes h. longer-filled (is_ok c.resize.result) c.len-at.result c.min-room.result (length c.deref_mut.result.now - c.len-at.result) c.resize.new.self.len c.args.bytes.now.items _ c.deref_mut.result.now c.resize.new.self.items c.exact.new.buf bytes (omega (arith, old)) c.deref_mut.ensures.value c.resize.ensures.items refl (omega (arith, c.resize.new.self.ok.0)) c.resize.new.self.ok.0 h)
    (λ s bytes h. (h.0, omega (arith, h.1, bound))) c.exact.ensures.reads
