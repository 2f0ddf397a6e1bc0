use Rattle.std.proofs.Common.{◌∙◌, rules, refl, arith, inl}
use Rattle.std.proofs.lemmas.Result.{err_from_is_err_and}
use Rattle.std.specs.Bool.{⊤}
use Rattle.thrift_binary.specs.Wire.{StopsListBy, StopsMapBy, StopsWire}
use Rattle.thrift_binary.proofs.Reading.{fault_again, Took-room}
use Rattle.thrift_binary.proofs.Structs.{fields_none, fields_stop_head, elements_none, entries_none}
use Rattle.thrift_binary.proofs.Passing.{nested_fault, plain_read, pass_field, pass_fields_end, pass_field_stop, pass_element, pass_element_stop, pass_entry, pass_key_stop, pass_value_stop, inside_struct, inside_list, inside_map, list_code, elements_passed, entries_passed, list_read, map_read}
use Rattle.thrift_binary.proofs.reader.WireReader.+skip.Goals as goal

pub skip-returns-in_err-skip_inside-clause-reads : goal.skip-returns-in_err-skip_inside-clause-reads
skip-returns-in_err-skip_inside-clause-reads g t c =
    let p = err_from_is_err_and c.from_residual-in_err-skip_inside.result c.from_residual-in_err-skip_inside.ensures.1 in
    let o = c.in_ok-open.ensures.opens in
    rw (p.1, p.2) (nested_fault c.args.ty _ _ _ _ _ _ c.in_err-skip_inside.field-0.0 o.0 o.1 o.2 o.3 c.in_err-skip_inside.ensures.reads)

pub skip-returns-clause-reads : goal.skip-returns-clause-reads
skip-returns-clause-reads g t c = plain_read c.args.self.now.progress.room c.args.ty _ _ _ _ c.skip_plain.result c.skip_plain.ensures.reads

pub skip_elements-loop-done-init : goal.skip_elements-loop-done-init
skip_elements-loop-done-init g t c = record {
  same_source = refl;
  stays = refl;
  within = omega arith;
  so_far = elements_none c.args.self.now.progress.room c.args.ty _ _ _ c.requires.unspent c.args.self.now.within tt;
}

pub skip_elements-returns-in_err-skip-clause-reads : goal.skip_elements-returns-in_err-skip-clause-reads
skip_elements-returns-in_err-skip-clause-reads g t c =
    let p = err_from_is_err_and c.from_residual.result c.from_residual.ensures.1 in
    rw (p.1, p.2) (pass_element_stop c.args.self.now.progress.room c.args.ty c.loop-done.done c.args.count _ _ _ _ _ _ c.in_err-skip.field-0.0 refl (omega arith) c.loop-done.invariant.so_far c.in_err-skip.ensures.reads)

pub skip_elements-loop-done-preserved : goal.skip_elements-loop-done-preserved
skip_elements-loop-done-preserved g t c = record {
  same_source = search rules;
  stays = c.in_ok-skip.ensures.stays ∙ c.loop-done.invariant.stays;
  within = omega arith;
  so_far = pass_element c.args.self.now.progress.room c.args.ty c.loop-done.done _ _ _ _ _ _ refl c.loop-done.invariant.so_far c.in_ok-skip.ensures.reads;
}

pub skip_elements-returns-clause-reads : goal.skip_elements-returns-clause-reads
skip_elements-returns-clause-reads g t c = elements_passed c.args.self.now.progress.room c.args.ty c.args.count c.loop-done.done _ _ _ _ (omega (arith, c.loop-done.invariant.within)) c.loop-done.invariant.so_far

pub skip_entries-loop-done-init : goal.skip_entries-loop-done-init
skip_entries-loop-done-init g t c = record {
  same_source = refl;
  stays = refl;
  within = omega arith;
  so_far = entries_none c.args.self.now.progress.room c.args.key c.args.value _ _ _ c.requires.unspent c.args.self.now.within tt;
}

pub skip_entries-returns-in_err-skip-clause-reads : goal.skip_entries-returns-in_err-skip-clause-reads
skip_entries-returns-in_err-skip-clause-reads g t c =
    let p = err_from_is_err_and c.from_residual.result c.from_residual.ensures.1 in
    rw (p.1, p.2) (pass_key_stop c.args.self.now.progress.room c.args.key c.args.value c.loop-done.done c.args.count _ _ _ _ _ _ c.in_err-skip.field-0.0 refl (omega arith) c.loop-done.invariant.so_far c.in_err-skip.ensures.reads)

pub skip_entries-returns-in_err-skip-2-clause-reads : goal.skip_entries-returns-in_err-skip-2-clause-reads
skip_entries-returns-in_err-skip-2-clause-reads g t c =
    let p = err_from_is_err_and c.from_residual-in_err-skip-2.result c.from_residual-in_err-skip-2.ensures.1 in
    rw (p.1, p.2) (pass_value_stop c.args.self.now.progress.room c.args.key c.args.value c.loop-done.done c.args.count _ _ _ _ _ _ _ _ c.in_err-skip-2.field-0.0 refl (omega arith) c.loop-done.invariant.so_far c.in_ok-skip.ensures.reads c.in_err-skip-2.ensures.reads)

pub skip_entries-loop-done-preserved : goal.skip_entries-loop-done-preserved
skip_entries-loop-done-preserved g t c = record {
  same_source = search rules;
  stays = c.in_ok-skip-2.ensures.stays ∙ c.in_ok-skip.ensures.stays ∙ c.loop-done.invariant.stays;
  within = omega arith;
  so_far = pass_entry c.args.self.now.progress.room c.args.key c.args.value c.loop-done.done _ _ _ _ _ _ _ _ refl c.loop-done.invariant.so_far c.in_ok-skip.ensures.reads c.in_ok-skip-2.ensures.reads;
}

pub skip_entries-returns-clause-reads : goal.skip_entries-returns-clause-reads
skip_entries-returns-clause-reads g t c = entries_passed c.args.self.now.progress.room c.args.key c.args.value c.args.count c.loop-done.done _ _ _ _ (omega (arith, c.loop-done.invariant.within)) c.loop-done.invariant.so_far

pub skip_fields-loop-ty-init : goal.skip_fields-loop-ty-init
skip_fields-loop-ty-init g t c = record {
  same_source = refl;
  stays = refl;
  so_far = fields_none c.args.self.now.progress.room _ _ _ c.requires.unspent c.args.self.now.within tt;
}

pub skip_inside-returns-in-12-clause-reads : goal.skip_inside-returns-in-12-clause-reads
skip_inside-returns-in-12-clause-reads g t c = inside_struct c.args.self.now.progress.room c.args.ty _ _ _ _ c.skip_fields.result c.in-12.is c.skip_fields.ensures.reads

pub skip_inside-returns-in-13-clause-reads : goal.skip_inside-returns-in-13-clause-reads
skip_inside-returns-in-13-clause-reads g t c = inside_map c.args.self.now.progress.room c.args.ty _ _ _ _ c.skip_map.result c.in-13.is c.skip_map.ensures.reads

pub skip_inside-returns-in_default-clause-reads : goal.skip_inside-returns-in_default-clause-reads
skip_inside-returns-in_default-clause-reads g t c = inside_list c.args.self.now.progress.room c.args.ty _ _ _ _ c.skip_list.result (list_code c.args.ty c.requires.nested (λ e. omega (arith, e)) (λ e. omega (arith, e))) c.skip_list.ensures.reads

pub skip_fields-returns-in_err-ty-clause-reads : goal.skip_fields-returns-in_err-ty-clause-reads
skip_fields-returns-in_err-ty-clause-reads g t c =
    let p = err_from_is_err_and c.from_residual.result c.from_residual.ensures.1 in
    rw (p.1, p.2) (fields_stop_head c.args.self.now.progress.room (λ _. ⊤) _ _ _ _ _ _ c.in_err-ty.field-0.0 c.loop-ty.invariant.so_far c.in_err-ty.ensures.reads)

pub skip_fields-loop-ty-preserved : goal.skip_fields-loop-ty-preserved
skip_fields-loop-ty-preserved g t c = record {
  same_source = search rules;
  stays = c.in_ok-skip.ensures.stays ∙ c.in_ok-ty.ensures.stays ∙ c.loop-ty.invariant.stays;
  so_far = pass_field c.args.self.now.progress.room c.in-Some.ty _ _ _ _ _ _ _ _ _ refl c.loop-ty.invariant.so_far (rw c.in-Some.is at c.in_ok-ty.ensures.reads) c.in_ok-skip.ensures.reads;
}

pub skip_fields-returns-in_err-skip-clause-reads : goal.skip_fields-returns-in_err-skip-clause-reads
skip_fields-returns-in_err-skip-clause-reads g t c =
    let p = err_from_is_err_and c.from_residual-in_err-skip.result c.from_residual-in_err-skip.ensures.1 in
    rw (p.1, p.2) (pass_field_stop c.args.self.now.progress.room c.in-Some.ty _ _ _ _ _ _ _ _ _ c.in_err-skip.field-0.0 refl c.loop-ty.invariant.so_far (rw c.in-Some.is at c.in_ok-ty.ensures.reads) c.in_err-skip.ensures.reads)

pub skip_fields-returns-clause-reads : goal.skip_fields-returns-clause-reads
skip_fields-returns-clause-reads g t c = pass_fields_end c.args.self.now.progress.room _ _ _ _ _ _ c.loop-ty.invariant.so_far (rw c.in_default.is at c.in_ok-ty.ensures.reads)

pub skip_list-returns-in_err-ty-clause-reads : goal.skip_list-returns-in_err-ty-clause-reads
skip_list-returns-in_err-ty-clause-reads g t c =
    let p = err_from_is_err_and c.from_residual.result c.from_residual.ensures.1 in
    rw (p.1, p.2) (fault_again _ _ _ _ c.in_err-ty.field-0.0 _ (StopsListBy (StopsWire c.args.self.now.progress.room) c.args.self.now.progress.room) (λ s bytes h. inl h) c.in_err-ty.ensures.reads)

pub skip_list-skip_elements-requires : goal.skip_list-skip_elements-requires
skip_list-skip_elements-requires g t c κs within = (omega (arith, Took-room _ _ _ _ _ c.in_ok-ty.ensures.reads), (within, (c.in_ok-ty.ensures.unspent, c.in_ok-ty.ensures.code)))

pub skip_list-returns-clause-reads : goal.skip_list-returns-clause-reads
skip_list-returns-clause-reads g t c = list_read c.in_ok-ty.ty c.in_ok-ty.count _ _ _ _ _ _ c.skip_elements.result c.in_ok-ty.ensures.reads c.skip_elements.ensures.reads

pub skip_map-returns-in_err-key-clause-reads : goal.skip_map-returns-in_err-key-clause-reads
skip_map-returns-in_err-key-clause-reads g t c =
    let p = err_from_is_err_and c.from_residual.result c.from_residual.ensures.1 in
    rw (p.1, p.2) (fault_again _ _ _ _ c.in_err-key.field-0.0 _ (StopsMapBy (StopsWire c.args.self.now.progress.room) c.args.self.now.progress.room) (λ s bytes h. inl h) c.in_err-key.ensures.reads)

pub skip_map-skip_entries-requires : goal.skip_map-skip_entries-requires
skip_map-skip_entries-requires g t c κs within = (omega (arith, Took-room _ _ _ _ _ c.in_ok-key.ensures.reads), (within, (c.in_ok-key.ensures.unspent, (c.in_ok-key.ensures.keys, c.in_ok-key.ensures.values))))

pub skip_map-returns-clause-reads : goal.skip_map-returns-clause-reads
skip_map-returns-clause-reads g t c = map_read c.in_ok-key.key c.in_ok-key.value c.in_ok-key.count _ _ _ _ _ _ c.skip_entries.result c.in_ok-key.ensures.reads c.skip_entries.ensures.reads
