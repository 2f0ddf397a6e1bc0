use Rattle.std.proofs.Common.{refl, inl, inr, arith}
use Rattle.std.proofs.lemmas.Result.{err_from_is_err_and}
use Rattle.thrift_binary.specs.Tree.{Flag, Number, Eight, Bytes}
use Rattle.thrift_binary.proofs.Reading.{Took-weaker, reads_weaker}
use Rattle.thrift_binary.proofs.Passing.{plain_short, text_code}
use Rattle.thrift_binary.proofs.reader.WireReader.skip_plain.Goals as goal

pub returns-in_err-flag-in-2-clause-reads : goal.returns-in_err-flag-in-2-clause-reads
returns-in_err-flag-in-2-clause-reads g c =
    let p = err_from_is_err_and c.from_residual.result c.from_residual.ensures.1 in
    rw (p.1, p.2) (plain_short c.args.ty 1 _ _ _ _ c.in_err-flag-in-2.field-0.0 (inl (c.in-2.is, refl)) c.in_err-flag-in-2.ensures.reads)

pub returns-in_ok-flag-in-2-clause-reads : goal.returns-in_ok-flag-in-2-clause-reads
returns-in_ok-flag-in-2-clause-reads g c = Took-weaker _ _ _ _ _ _ (λ bytes h. (Flag c.in_ok-flag-in-2.field-0, λ depth. (c.in-2.is, h))) c.in_ok-flag-in-2.ensures.reads

pub returns-in_err-byte-in-3-clause-reads : goal.returns-in_err-byte-in-3-clause-reads
returns-in_err-byte-in-3-clause-reads g c =
    let p = err_from_is_err_and c.from_residual-in_err-byte-in-3.result c.from_residual-in_err-byte-in-3.ensures.1 in
    rw (p.1, p.2) (plain_short c.args.ty 1 _ _ _ _ c.in_err-byte-in-3.field-0.0 (inr (inl (c.in-3.is, refl))) c.in_err-byte-in-3.ensures.reads)

pub returns-in_ok-byte-in-3-clause-reads : goal.returns-in_ok-byte-in-3-clause-reads
returns-in_ok-byte-in-3-clause-reads g c = Took-weaker _ _ _ _ _ _ (λ bytes h. (Number c.in_ok-byte-in-3.field-0, λ depth. inl (c.in-3.is, h))) c.in_ok-byte-in-3.ensures.reads

pub returns-in_err-eight-in-4-clause-reads : goal.returns-in_err-eight-in-4-clause-reads
returns-in_err-eight-in-4-clause-reads g c =
    let p = err_from_is_err_and c.from_residual-in_err-eight-in-4.result c.from_residual-in_err-eight-in-4.ensures.1 in
    rw (p.1, p.2) (plain_short c.args.ty 8 _ _ _ _ c.in_err-eight-in-4.field-0.0 (inr (inr (inl (c.in-4.is, refl)))) c.in_err-eight-in-4.ensures.reads)

pub returns-in_ok-eight-in-4-clause-reads : goal.returns-in_ok-eight-in-4-clause-reads
returns-in_ok-eight-in-4-clause-reads g c = Took-weaker _ _ _ _ _ _ (λ bytes h. (Eight c.in_ok-eight-in-4.field-0, λ depth. (c.in-4.is, h))) c.in_ok-eight-in-4.ensures.reads

pub returns-in_err-short-in-6-clause-reads : goal.returns-in_err-short-in-6-clause-reads
returns-in_err-short-in-6-clause-reads g c =
    let p = err_from_is_err_and c.from_residual-in_err-short-in-6.result c.from_residual-in_err-short-in-6.ensures.1 in
    rw (p.1, p.2) (plain_short c.args.ty 2 _ _ _ _ c.in_err-short-in-6.field-0.0 (inr (inr (inr (inl (c.in-6.is, refl))))) c.in_err-short-in-6.ensures.reads)

pub returns-in_ok-short-in-6-clause-reads : goal.returns-in_ok-short-in-6-clause-reads
returns-in_ok-short-in-6-clause-reads g c = Took-weaker _ _ _ _ _ _ (λ bytes h. (Number c.in_ok-short-in-6.field-0, λ depth. inr (inl (c.in-6.is, h)))) c.in_ok-short-in-6.ensures.reads

pub returns-in_err-int-in-8-clause-reads : goal.returns-in_err-int-in-8-clause-reads
returns-in_err-int-in-8-clause-reads g c =
    let p = err_from_is_err_and c.from_residual-in_err-int-in-8.result c.from_residual-in_err-int-in-8.ensures.1 in
    rw (p.1, p.2) (plain_short c.args.ty 4 _ _ _ _ c.in_err-int-in-8.field-0.0 (inr (inr (inr (inr (inl (c.in-8.is, refl)))))) c.in_err-int-in-8.ensures.reads)

pub returns-in_ok-int-in-8-clause-reads : goal.returns-in_ok-int-in-8-clause-reads
returns-in_ok-int-in-8-clause-reads g c = Took-weaker _ _ _ _ _ _ (λ bytes h. (Number c.in_ok-int-in-8.field-0, λ depth. inr (inr (inl (c.in-8.is, h))))) c.in_ok-int-in-8.ensures.reads

pub returns-in_err-long-in-10-clause-reads : goal.returns-in_err-long-in-10-clause-reads
returns-in_err-long-in-10-clause-reads g c =
    let p = err_from_is_err_and c.from_residual-in_err-long-in-10.result c.from_residual-in_err-long-in-10.ensures.1 in
    rw (p.1, p.2) (plain_short c.args.ty 8 _ _ _ _ c.in_err-long-in-10.field-0.0 (inr (inr (inr (inr (inr ((c.in-10.is, refl))))))) c.in_err-long-in-10.ensures.reads)

pub returns-in_ok-long-in-10-clause-reads : goal.returns-in_ok-long-in-10-clause-reads
returns-in_ok-long-in-10-clause-reads g c = Took-weaker _ _ _ _ _ _ (λ bytes h. (Number c.in_ok-long-in-10.field-0, λ depth. inr (inr (inr ((c.in-10.is, h)))))) c.in_ok-long-in-10.ensures.reads

pub returns-in_default-clause-reads : goal.returns-in_default-clause-reads
returns-in_default-clause-reads g c =
    let text = text_code c.args.ty c.requires.code c.requires.plain (λ e. omega (arith, e)) (λ e. omega (arith, e)) (λ e. omega (arith, e)) (λ e. omega (arith, e)) (λ e. omega (arith, e)) (λ e. omega (arith, e)) in
    reads_weaker _ _ _ _ c.skip_text.result _ _ _ _ (λ v bytes h. (Bytes h.0, λ depth. (text, h.1))) (λ s bytes h. inr (text, h)) c.skip_text.ensures.reads
