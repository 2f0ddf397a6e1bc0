use Rattle.std.proofs.Common.{◌≡◌, refl, ap, ◌∙◌, sym, rules, None, Some, w16, to_z, of_z}
use mir.Val.{SFits}
use Rattle.std.proofs.lemmas.Int.{to_z-of_z}
use Rattle.std.proofs.lemmas.Result.{err_from_is_err_and}
use Rattle.ms_structs.proofs.FieldsSoFar.{fields_none, fields_more, fields_end, fields_stop_head, fields_stop_value, fields_smaller, fold_pushed, head_is}
use Rattle.ms_structs.proofs.structs.read_fields.Goals as goal

pub loop-ty-init : goal.loop-ty-init
loop-ty-init g c = record { same_source = refl; stays = refl; so_far = fields_none _ _ _ c.requires c.args.reader.now.within refl }

pub returns-in_err-field-clause-reads : goal.returns-in_err-field-clause-reads
returns-in_err-field-clause-reads g c =
    let p = err_from_is_err_and c.from_residual.result c.from_residual.ensures.1 in
    rw (p.1, p.2) (fields_stop_head _ _ _ _ _ _ _ c.in_err-field.field-0.0 c.loop-ty.invariant.so_far c.in_err-field.ensures.reads)

pub returns-in-None-clause-reads : goal.returns-in-None-clause-reads
returns-in-None-clause-reads g c = fields_end _ _ _ _ _ _ _ c.loop-ty.invariant.so_far (head_is _ _ _ _ _ None c.in-None.is c.in_ok-field.ensures.reads)

pub loop-ty-smaller : goal.loop-ty-smaller
loop-ty-smaller g c = fields_smaller _ _ _ _ _ _ c.in-Some.ty c.in-Some.id _ (head_is _ _ _ _ _ (Some (c.in-Some.ty, c.in-Some.id)) c.in-Some.is c.in_ok-field.ensures.reads) c.in_ok-take-in-Some.ensures.reads

pub loop-ty-preserved : goal.loop-ty-preserved
loop-ty-preserved g c =
    let fits : SFits w16 c.in-Some.id = search rules in
    let same : to_z w16 (of_z w16 c.in-Some.id) ≡ c.in-Some.id = to_z-of_z w16 c.in-Some.id fits in
    record {
      same_source = search rules;
      stays = c.in_ok-take-in-Some.ensures.stays ∙ c.in_ok-field.ensures.stays ∙ c.loop-ty.invariant.stays;
      so_far = fields_more _ _ _ _ _ _ _ _ _ _ _ c.in-Some.ty c.in-Some.id (λ v w so says. says ∙ ap (λ i. g.F.FieldSink.set c.loop-ty.slots c.in-Some.ty i w) same ∙ ap (λ x. g.F.FieldSink.set x c.in-Some.ty c.in-Some.id w) so ∙ sym (fold_pushed g.F.FieldSink.set _ v c.in-Some.ty c.in-Some.id w))
          c.loop-ty.invariant.so_far (head_is _ _ _ _ _ (Some (c.in-Some.ty, c.in-Some.id)) c.in-Some.is c.in_ok-field.ensures.reads) c.in_ok-take-in-Some.ensures.reads;
    }

pub returns-in_err-take-in-Some-clause-reads : goal.returns-in_err-take-in-Some-clause-reads
returns-in_err-take-in-Some-clause-reads g c =
    let p = err_from_is_err_and c.from_residual-in_err-take-in-Some.result c.from_residual-in_err-take-in-Some.ensures.1 in
    rw (p.1, p.2) (fields_stop_value _ _ _ _ _ _ _ _ _ c.in_err-take-in-Some.field-0.0 c.in-Some.ty c.in-Some.id
    c.loop-ty.invariant.so_far (head_is _ _ _ _ _ (Some (c.in-Some.ty, c.in-Some.id)) c.in-Some.is c.in_ok-field.ensures.reads) c.in_err-take-in-Some.ensures.reads)
