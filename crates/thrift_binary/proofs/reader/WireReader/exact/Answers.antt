use Rattle.std.proofs.Common.{◌<◌, ◌≤◌, ◌-◌, length, arith, ap, refl, inl, inr}
use Rattle.thrift_binary.proofs.Reading.{exact_cut, exact_failed}
use Rattle.thrift_binary.proofs.reader.WireReader.exact.Goals as goal

pub returns-then-count-buf-clause-reads : goal.returns-then-count-buf-clause-reads
returns-then-count-buf-clause-reads g c =
    let less : c.in-Ok.count < length c.args.buf.now = omega arith in
    let room : length c.args.buf.now ≤ c.args.self.now.progress.limit - c.args.self.now.progress.place = omega arith in
    inl (exact_cut _ _ _ _ _ (length c.args.buf.now) c.in-Ok.count c.fill.new.buf _ c.in-Ok.ensures.bytes (c.in-Ok.ensures.end less) (omega arith) less room (ap g.S.Source.left c.spent-then-count-buf.ensures.source) c.spent-then-count-buf.ensures.same c.in_default.is c.spent-then-count-buf.ensures.kept)

pub returns-in-Err-Failed-clause-reads : goal.returns-in-Err-Failed-clause-reads
returns-in-Err-Failed-clause-reads g c =
    let room : length c.args.buf.now ≤ c.args.self.now.progress.limit - c.args.self.now.progress.place = omega arith in
    let err = c.in-Err-Failed.ensures.err in
    inl (exact_failed _ _ _ _ _ (length c.args.buf.now) err.0 c.fill.new.buf _ _ (inl refl) err.2 (omega arith) err.1 room (ap g.S.Source.left c.spent-in-Err-Failed.ensures.source) c.spent-in-Err-Failed.ensures.same c.in_default.is c.spent-in-Err-Failed.ensures.kept)

pub returns-in-Err-NoMemory-clause-reads : goal.returns-in-Err-NoMemory-clause-reads
returns-in-Err-NoMemory-clause-reads g c =
    let room : length c.args.buf.now ≤ c.args.self.now.progress.limit - c.args.self.now.progress.place = omega arith in
    let err = c.in-Err-NoMemory.ensures.err in
    inl (exact_failed _ _ _ _ _ (length c.args.buf.now) err.0 c.fill.new.buf _ _ (inr refl) err.2 (omega arith) err.1 room (ap g.S.Source.left c.spent-in-Err-NoMemory.ensures.source) c.spent-in-Err-NoMemory.ensures.same c.in_default.is c.spent-in-Err-NoMemory.ensures.kept)
