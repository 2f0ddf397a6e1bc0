use Rattle.std.proofs.Common.{refl, ap, ◌∙◌, inl}
use Rattle.std.proofs.lemmas.Result.{err_from_is_err_and}
use Rattle.ms_structs.specs.Slots.{fold_fields}
use Rattle.ms_structs.proofs.Getting.{open_stop, room_left}
use Rattle.ms_structs.proofs.FieldsSoFar.{struct_stop, struct_took}
use Rattle.ms_structs.proofs.structs.read_slots.Goals as goal

pub returns-in_err-open-clause-reads : goal.returns-in_err-open-clause-reads
returns-in_err-open-clause-reads g c =
    let p = err_from_is_err_and c.from_residual.result c.from_residual.ensures.1 in
    rw (p.1, p.2) (open_stop _ _ _ _ c.in_err-open.field-0.0 12 _ (inl refl) c.in_err-open.ensures.opens)

pub returns-in_err-read_fields-clause-reads : goal.returns-in_err-read_fields-clause-reads
returns-in_err-read_fields-clause-reads g c =
    let p = err_from_is_err_and c.from_residual-in_err-read_fields.result c.from_residual-in_err-read_fields.ensures.1 in
    rw (p.1, p.2) (struct_stop _ _ _ _ _ _ c.in_err-read_fields.field-0.0 c.in_ok-open.ensures.opens c.in_err-read_fields.ensures.reads)

pub close-requires : goal.close-requires
close-requires g c = room_left _ _ _ _ _ _ _ _ c.in_ok-open.ensures.opens c.args.reader.now.depth c.in_ok-read_fields.ensures.reads

pub returns-clause-reads : goal.returns-clause-reads
returns-clause-reads g c =
    struct_took _ _ _ _ _ _ _ _ _ _ (λ v said. said ∙ ap (λ x. fold_fields g.F.FieldSink.set x v) c.empty-slots.ensures) c.in_ok-open.ensures.opens c.in_ok-read_fields.ensures.reads (ap g.S.Source.left c.close.ensures.source) c.close.ensures.progress
