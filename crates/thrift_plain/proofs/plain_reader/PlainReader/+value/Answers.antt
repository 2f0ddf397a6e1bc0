use mir.Val.{SFits}
use Rattle.std.proofs.Common.{◌≡◌, w16, [], ◌∷◌, ◌++◌, ◌⊎◌, ap, ◌∙◌, arith, rules, inl}
use Rattle.std.proofs.lemmas.Int.{to_z-of_z}
use Rattle.thrift_plain.specs.declared.plain_messages.Token.TheVariants as token
use Rattle.std.proofs.lemmas.Result.{err_from_is_err_and}
use Rattle.thrift_binary.specs.Wire.{StopsListHead, StopsMapHead, StopsPlain, StopsWire}
use Rattle.thrift_plain.specs.PlainReading.{StopsList, StopsMap}
use Rattle.thrift_plain.proofs.PlainTaking.{fault_weaker}
use Rattle.thrift_plain.proofs.PlainValues.{stops_plain, too_deep, nested_struct, nested_list, nested_map, no_fields, struct_ended, head_fault, field_fault, field_added, no_elements, element_fault, element_added, list_whole, no_entries, key_fault, value_fault, entry_added, map_whole}
use Rattle.thrift_plain.proofs.plain_reader.PlainReader.+value.Goals as goal

pub elements-loop-init : goal.elements-loop-init
elements-loop-init t c =
    record { so_far = no_elements _ _ _ _ }

pub elements-returns-in_err-value : goal.elements-returns-in_err-value
elements-returns-in_err-value t c =
    let p = err_from_is_err_and c.from_residual.result c.from_residual.ensures.1 in
    rw (p.1, p.2) (element_fault _ _ _ _ c.args.depth c.args.ty c.loop.counter c.loop.invariant.so_far c.args.count _ (omega arith) c.in_err-value.ensures)

pub elements-loop-preserved : goal.elements-loop-preserved
elements-loop-preserved t c =
    record { so_far = element_added _ _ _ _ c.args.depth c.args.ty c.loop.counter c.loop.invariant.so_far _ _ c.in_ok-value.ensures }

pub entries-loop-init : goal.entries-loop-init
entries-loop-init t c =
    record { so_far = no_entries _ _ _ _ _ }

pub entries-returns-in_err-value : goal.entries-returns-in_err-value
entries-returns-in_err-value t c =
    let p = err_from_is_err_and c.from_residual.result c.from_residual.ensures.1 in
    rw (p.1, p.2) (key_fault _ _ _ _ c.args.depth c.args.key c.args.value c.loop.counter c.loop.invariant.so_far c.args.count _ (omega arith) c.in_err-value.ensures)

pub entries-returns-in_err-value-2 : goal.entries-returns-in_err-value-2
entries-returns-in_err-value-2 t c =
    let p = err_from_is_err_and c.from_residual-in_err-value-2.result c.from_residual-in_err-value-2.ensures.1 in
    rw (p.1, p.2) (value_fault _ _ _ _ c.args.depth c.args.key c.args.value c.loop.counter c.loop.invariant.so_far _ _ c.args.count _ (omega arith) c.in_ok-value.ensures c.in_err-value-2.ensures)

pub entries-loop-preserved : goal.entries-loop-preserved
entries-loop-preserved t c =
    record { so_far = entry_added _ _ _ _ c.args.depth c.args.key c.args.value c.loop.counter c.loop.invariant.so_far _ _ _ _ c.in_ok-value.ensures c.in_ok-value-2.ensures }

pub fields-loop-tokens-init : goal.fields-loop-tokens-init
fields-loop-tokens-init t c =
    record { so_far = no_fields _ _ _ }

pub fields-returns-in_err-field : goal.fields-returns-in_err-field
fields-returns-in_err-field t c =
    let p = err_from_is_err_and c.from_residual.result c.from_residual.ensures.1 in
    rw (p.1, p.2) (head_fault _ _ _ _ c.args.depth c.loop-tokens.invariant.so_far _ c.in_err-field.ensures.takes)

pub fields-returns-in-None : goal.fields-returns-in-None
fields-returns-in-None t c =
    struct_ended _ _ _ _ c.args.depth c.loop-tokens.invariant.so_far _ _ (rw c.in-None.is at c.in_ok-field.ensures.takes) c.in_ok-push-in-None.ensures.ok

pub fields-loop-tokens-preserved : goal.fields-loop-tokens-preserved
fields-loop-tokens-preserved t c =
    let fits : SFits w16 c.in-Some.id = search rules in
    let put = c.in_ok-push-in-Some.ensures.ok ∙ ap (λ z. c.loop-tokens.tokens ++ token.Field c.in-Some.ty z ∷ []) (to_z-of_z w16 c.in-Some.id fits) in
    record { so_far = field_added _ _ _ _ c.args.depth c.loop-tokens.invariant.so_far _ _ c.in-Some.ty c.in-Some.id _ _ (rw c.in-Some.is at c.in_ok-field.ensures.takes) put c.in_ok-value-in-Some.ensures }

pub fields-returns-in_err-value-in-Some : goal.fields-returns-in_err-value-in-Some
fields-returns-in_err-value-in-Some t c =
    let p = err_from_is_err_and c.from_residual-in_err-value-in-Some.result c.from_residual-in_err-value-in-Some.ensures.1 in
    rw (p.1, p.2) (field_fault _ _ _ _ c.args.depth c.loop-tokens.invariant.so_far _ c.in-Some.ty c.in-Some.id _ (rw c.in-Some.is at c.in_ok-field.ensures.takes) c.in_err-value-in-Some.ensures)

pub list-returns-in_err-ty : goal.list-returns-in_err-ty
list-returns-in_err-ty t c =
    let p = err_from_is_err_and c.from_residual.result c.from_residual.ensures.1 in
    rw (p.1, p.2) (fault_weaker _ _ StopsListHead (StopsList c.args.depth) (λ s bytes h. inl h) c.in_err-ty.ensures.takes)

pub list-returns : goal.list-returns
list-returns t c =
    list_whole _ _ _ _ _ _ c.in_ok-ty.ty c.in_ok-ty.count c.args.depth c.elements.result c.in_ok-ty.ensures.takes c.in_ok-push.ensures.ok c.elements.ensures

pub map-returns-in_err-key : goal.map-returns-in_err-key
map-returns-in_err-key t c =
    let p = err_from_is_err_and c.from_residual.result c.from_residual.ensures.1 in
    rw (p.1, p.2) (fault_weaker _ _ StopsMapHead (StopsMap c.args.depth) (λ s bytes h. inl h) c.in_err-key.ensures.takes)

pub map-returns : goal.map-returns
map-returns t c =
    map_whole _ _ _ _ _ _ c.in_ok-key.key c.in_ok-key.value c.in_ok-key.count c.args.depth c.entries.result c.in_ok-key.ensures.takes c.in_ok-push.ensures.ok c.entries.ensures

pub nested-returns-then-depth-eq0 : goal.nested-returns-then-depth-eq0
nested-returns-then-depth-eq0 t c =
    too_deep _ c.args.depth c.args.ty c.if-depth-eq0.true c.requires

pub nested-returns-in-12 : goal.nested-returns-in-12
nested-returns-in-12 t c =
    nested_struct _ _ _ _ c.args.depth c.args.ty c.fields.result c.if-depth-eq0.false c.in-12.is c.fields.ensures

pub nested-returns-in-13 : goal.nested-returns-in-13
nested-returns-in-13 t c =
    nested_map _ _ _ _ c.args.depth c.args.ty c.map.result c.if-depth-eq0.false c.in-13.is c.map.ensures

pub nested-returns-in_default : goal.nested-returns-in_default
nested-returns-in_default t c =
    let is : (c.args.ty ≡ 14) ⊎ (c.args.ty ≡ 15) = search rules in
    nested_list _ _ _ _ c.args.depth c.args.ty c.list.result c.if-depth-eq0.false is c.list.ensures

pub value-returns-in_err-token : goal.value-returns-in_err-token
value-returns-in_err-token t c =
    let p = err_from_is_err_and c.from_residual.result c.from_residual.ensures.1 in
    rw (p.1, p.2) (fault_weaker _ _ (StopsPlain c.args.ty) (StopsWire c.args.depth c.args.ty) (λ s bytes h. stops_plain c.args.depth c.args.ty s bytes h) c.in_err-token.ensures)
