use mir.Val.{SFits}
use Rattle.std.proofs.Common.{◌≡◌, w8, w16, w32, w64, inl, inr, refl, rules}
use Rattle.std.proofs.lemmas.Result.{err_from_is_err_and}
use Rattle.std.proofs.lemmas.Int.{to_z-of_z}
use Rattle.thrift_binary.specs.Wire.{StopsShort, StopsPlain}
use Rattle.thrift_plain.specs.PlainReading.{IsPlain}
use Rattle.thrift_plain.specs.declared.plain_messages.Token.TheVariants as token
use Rattle.thrift_plain.proofs.PlainTaking.{passed_weaker, passed_at, fault_weaker}
use Rattle.thrift_plain.proofs.PlainValues.{plain_flag, plain_byte, plain_short, plain_int, plain_long, plain_eight, plain_text}
use Rattle.thrift_plain.proofs.plain_reader.PlainReader.plain_value.Goals as goal

pub returns-in_err-take-in-4 : goal.returns-in_err-take-in-4
returns-in_err-take-in-4 c =
    let p = err_from_is_err_and c.from_residual-in_err-take-in-4.result c.from_residual-in_err-take-in-4.ensures.1 in
    rw (p.1, p.2) (fault_weaker _ _ (StopsShort 8) (StopsPlain c.args.ty) (λ s bytes h. inl (8, inr (inr (inl (c.in-4.is, refl))), h)) c.in_err-take-in-4.ensures)

pub returns-in_err-take-in-6 : goal.returns-in_err-take-in-6
returns-in_err-take-in-6 c =
    let p = err_from_is_err_and c.from_residual-in_err-take-in-6.result c.from_residual-in_err-take-in-6.ensures.1 in
    rw (p.1, p.2) (fault_weaker _ _ (StopsShort 2) (StopsPlain c.args.ty) (λ s bytes h. inl (2, inr (inr (inr (inl (c.in-6.is, refl)))), h)) c.in_err-take-in-6.ensures)

pub returns-in_err-take-in-8 : goal.returns-in_err-take-in-8
returns-in_err-take-in-8 c =
    let p = err_from_is_err_and c.from_residual-in_err-take-in-8.result c.from_residual-in_err-take-in-8.ensures.1 in
    rw (p.1, p.2) (fault_weaker _ _ (StopsShort 4) (StopsPlain c.args.ty) (λ s bytes h. inl (4, inr (inr (inr (inr (inl (c.in-8.is, refl))))), h)) c.in_err-take-in-8.ensures)

pub returns-in_err-take-in-10 : goal.returns-in_err-take-in-10
returns-in_err-take-in-10 c =
    let p = err_from_is_err_and c.from_residual-in_err-take-in-10.result c.from_residual-in_err-take-in-10.ensures.1 in
    rw (p.1, p.2) (fault_weaker _ _ (StopsShort 8) (StopsPlain c.args.ty) (λ s bytes h. inl (8, inr (inr (inr (inr (inr ((c.in-10.is, refl)))))), h)) c.in_err-take-in-10.ensures)

pub returns-in_ok-take-in-2 : goal.returns-in_ok-take-in-2
returns-in_ok-take-in-2 c =
    passed_weaker _ _ _ _ (λ bytes h. plain_flag c.args.ty 1 _ _ bytes c.in-2.is c.flag_of.ensures h) c.in_ok-take-in-2.ensures

pub returns-in_ok-take-in-4 : goal.returns-in_ok-take-in-4
returns-in_ok-take-in-4 c =
    passed_weaker _ _ _ _ (λ bytes h. plain_eight c.args.ty _ _ bytes c.in-4.is c.eight_of.ensures h) c.in_ok-take-in-4.ensures

pub returns-in_ok-take-in-3 : goal.returns-in_ok-take-in-3
returns-in_ok-take-in-3 c =
    let fits : SFits w8 c.byte_of.result = search rules in
    passed_at _ _ _ c.byte_of.result (λ z. IsPlain c.args.ty (token.Byte z)) (to_z-of_z w8 c.byte_of.result fits) (passed_weaker _ _ _ _ (λ bytes h. plain_byte c.args.ty 1 _ _ bytes c.in-3.is c.byte_of.ensures h) c.in_ok-take-in-3.ensures)

pub returns-in_ok-take-in-6 : goal.returns-in_ok-take-in-6
returns-in_ok-take-in-6 c =
    let fits : SFits w16 c.short_of.result = search rules in
    passed_at _ _ _ c.short_of.result (λ z. IsPlain c.args.ty (token.Short z)) (to_z-of_z w16 c.short_of.result fits) (passed_weaker _ _ _ _ (λ bytes h. plain_short c.args.ty 2 _ _ bytes c.in-6.is c.short_of.ensures h) c.in_ok-take-in-6.ensures)

pub returns-in_ok-take-in-8 : goal.returns-in_ok-take-in-8
returns-in_ok-take-in-8 c =
    let fits : SFits w32 c.int_of.result = search rules in
    passed_at _ _ _ c.int_of.result (λ z. IsPlain c.args.ty (token.Int z)) (to_z-of_z w32 c.int_of.result fits) (passed_weaker _ _ _ _ (λ bytes h. plain_int c.args.ty 4 _ _ bytes c.in-8.is c.int_of.ensures h) c.in_ok-take-in-8.ensures)

pub returns-in_ok-take-in-10 : goal.returns-in_ok-take-in-10
returns-in_ok-take-in-10 c =
    let fits : SFits w64 c.long_of.result = search rules in
    passed_at _ _ _ c.long_of.result (λ z. IsPlain c.args.ty (token.Long z)) (to_z-of_z w64 c.long_of.result fits) (passed_weaker _ _ _ _ (λ bytes h. plain_long c.args.ty 8 _ _ bytes c.in-10.is c.long_of.ensures h) c.in_ok-take-in-10.ensures)

pub returns-in_ok-from_slice-in_default : goal.returns-in_ok-from_slice-in_default
returns-in_ok-from_slice-in_default c =
    let is : c.args.ty ≡ 11 = search rules in
    passed_weaker _ _ _ _ (λ bytes h. plain_text c.args.ty _ _ bytes is c.in_ok-from_slice-in_default.ensures h) c.in_ok-body-in_default.ensures
