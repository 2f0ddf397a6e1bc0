use Rattle.std.proofs.Common.{◌≡◌, ◌-◌, List, ℕ, ◌++◌, length, Err, vec_len}
use Rattle.std.proofs.lemmas.Result.{err_from_is_err_and}
use Rattle.thrift_binary.specs.Wire.{StopsShort}
use Rattle.thrift_binary.proofs.Reading.{reads_then, fault_again, short_behind}
use Rattle.thrift_binary.proofs.reader.WireReader.body.Goals as goal

pub returns-in_err-more-clause-reads : goal.returns-in_err-more-clause-reads
returns-in_err-more-clause-reads g c =
    let p = err_from_is_err_and c.from_residual.result c.from_residual.ensures.1 in
    let len : vec_len c.loop-self.bytes ≡ length c.loop-self.bytes.items = c.loop-self.bytes.ok.0 in
    rw (p.1, p.2) (fault_again _ _ _ _ c.in_err-more.field-0.0 _ (StopsShort c.args.n) (short_behind c.args.n)
    (reads_then (λ (front : List ℕ) xs. xs ≡ front) (λ _ _. ⊥) (λ (front : List ℕ) (_ : Unit {0}) xs. c.more.new.bytes.items ≡ front ++ xs) (λ front. StopsShort (c.args.n - length front)) _ _ _ _ _ _ c.loop-self.bytes.items (Err c.in_err-more.field-0.0) c.loop-self.invariant.so_far (rw len at c.in_err-more.ensures.reads)))
