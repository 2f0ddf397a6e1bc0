use Rattle.std.proofs.Common.{arith, ◌<◌, ◌^◌, ◌∷◌, [], ◌++◌, List, ℕ, length, inr, ◌∙◌, ap, refl}
use Rattle.std.specs.Prelude.{Ok, Err}
use Rattle.ms_journal.specs.Files.{block}
use Rattle.ms_journal.specs.Books.{logged, first_logged}
use Rattle.ms_journal.proofs.Keeping.{rests, gate_within, staged, staged_within, stage_err_keeps, stage_err_went, both_halves, append_ok_keeps, append_ok_went, append_err_keeps, append_err_went, length-staged, logged-push, first_logged-push}
use Rattle.ms_journal.proofs.journal.Journal.append.Goals as goal

pub returns-in_err-bytes-clause-went : goal.returns-in_err-bytes-clause-went
returns-in_err-bytes-clause-went g c = rw (← c.self.view_is) (rests _ _ _ _ _ _ _ _ c.self.invariant)

pub stage-requires-clause-end : goal.stage-requires-clause-end
stage-requires-clause-end g c = gate_within _ _ _ _ _ _ c.self.invariant

pub invariant_of-self : goal.invariant_of-self
invariant_of-self g c =
    let none = rw (← c.self.view_is) at c.requires in
    let is = c.deref.ensures.value ∙ c.in_ok-bytes.ensures ∙ ap (λ (l : List ℕ). block l ++ 0 ∷ []) c.as_slice.ensures.items in
    stage_err_keeps _ _ _ _ _ _ _ _ _ c.args.payload.now c.self.invariant none
    (staged _ _ _ _ _ _ _ _ _ c.args.payload.now _ (Err c.in_err-stage.field-0.0) c.self.invariant none is c.in_err-stage.ensures.went)

pub returns-in_err-stage-clause-went : goal.returns-in_err-stage-clause-went
returns-in_err-stage-clause-went g c =
    let none = rw (← c.self.view_is) at c.requires in
    let is = c.deref.ensures.value ∙ c.in_ok-bytes.ensures ∙ ap (λ (l : List ℕ). block l ++ 0 ∷ []) c.as_slice.ensures.items in
    rw (← c.self.view_is) (stage_err_went _ _ _ _ _ _ _ _ _ c.args.payload.now c.self.invariant none
    (staged _ _ _ _ _ _ _ _ _ c.args.payload.now _ (Err c.in_err-stage.field-0.0) c.self.invariant none is c.in_err-stage.ensures.went))

pub open_gate-requires : goal.open_gate-requires
open_gate-requires g c =
    let none = rw (← c.self.view_is) at c.requires in
    let is = c.deref.ensures.value ∙ c.in_ok-bytes.ensures ∙ ap (λ (l : List ℕ). block l ++ 0 ∷ []) c.as_slice.ensures.items in
    record {
      end = staged_within _ _ _ _ _ _ _ c.self.invariant.place
          (staged _ _ _ _ _ _ _ _ _ c.args.payload.now _ (Ok c.in_ok-stage.field-0) c.self.invariant none is c.in_ok-stage.ensures.went);
    }

pub invariant_of-self-in-Ok : goal.invariant_of-self-in-Ok
invariant_of-self-in-Ok g c =
    let none = rw (← c.self.view_is) at c.requires in
    let is = c.deref.ensures.value ∙ c.in_ok-bytes.ensures ∙ ap (λ (l : List ℕ). block l ++ 0 ∷ []) c.as_slice.ensures.items in
    let lt : length c.args.payload.now < 2 ^ 64 = omega (arith, c.as_slice.ensures.bounded) in
    append_ok_keeps _ _ _ _ _ _ _ _ _ _ _ c.args.payload.now _ c.self.invariant none lt
    (omega arith)
    (omega (arith, c.in_ok-stage.ensures.fits, length-staged c.args.payload.now _ is))
    (ap logged c.and-self-inside.ensures ∙ logged-push _ _)
    (both_halves _ _ _ _ _ _ _ _ _ _ _ c.args.payload.now (Ok c.in-Ok.field-0) c.self.invariant lt
    (staged _ _ _ _ _ _ _ _ _ c.args.payload.now _ (Ok c.in_ok-stage.field-0) c.self.invariant none is c.in_ok-stage.ensures.went)
    c.in-Ok.ensures.went)

pub returns-in-Ok-clause-added : goal.returns-in-Ok-clause-added
returns-in-Ok-clause-added g c = rw (← c.self.view_is) (ap logged c.and-self-inside.ensures ∙ logged-push _ _)

pub returns-in-Ok-clause-settled : goal.returns-in-Ok-clause-settled
returns-in-Ok-clause-settled g c = rw (← c.self.view_is) at c.requires

pub returns-in-Ok-clause-went : goal.returns-in-Ok-clause-went
returns-in-Ok-clause-went g c =
    let none = rw (← c.self.view_is) at c.requires in
    let is = c.deref.ensures.value ∙ c.in_ok-bytes.ensures ∙ ap (λ (l : List ℕ). block l ++ 0 ∷ []) c.as_slice.ensures.items in
    let lt : length c.args.payload.now < 2 ^ 64 = omega (arith, c.as_slice.ensures.bounded) in
    rw (← c.self.view_is) (append_ok_went _ _ _ _ _ _ _ _ _ _ c.args.payload.now _ c.self.invariant none lt
    (ap logged c.and-self-inside.ensures ∙ logged-push _ _)
    (both_halves _ _ _ _ _ _ _ _ _ _ _ c.args.payload.now (Ok c.in-Ok.field-0) c.self.invariant lt
    (staged _ _ _ _ _ _ _ _ _ c.args.payload.now _ (Ok c.in_ok-stage.field-0) c.self.invariant none is c.in_ok-stage.ensures.went)
    c.in-Ok.ensures.went))

pub invariant_of-self-in-Err : goal.invariant_of-self-in-Err
invariant_of-self-in-Err g c =
    let none = rw (← c.self.view_is) at c.requires in
    let is = c.deref.ensures.value ∙ c.in_ok-bytes.ensures ∙ ap (λ (l : List ℕ). block l ++ 0 ∷ []) c.as_slice.ensures.items in
    let lt : length c.args.payload.now < 2 ^ 64 = omega (arith, c.as_slice.ensures.bounded) in
    append_err_keeps _ _ _ _ _ _ _ _ _ _ c.args.payload.now _ c.self.invariant
    (ap first_logged c.and-self-inside-in-Err.ensures ∙ first_logged-push _ _ none) lt
    (both_halves _ _ _ _ _ _ _ _ _ _ _ c.args.payload.now (Err c.in-Err.outage) c.self.invariant lt
    (staged _ _ _ _ _ _ _ _ _ c.args.payload.now _ (Ok c.in_ok-stage.field-0) c.self.invariant none is c.in_ok-stage.ensures.went)
    c.in-Err.ensures.went)

pub returns-clause-kept : goal.returns-clause-kept
returns-clause-kept g c = rw (← c.self.view_is) refl

pub returns-clause-doubt : goal.returns-clause-doubt
returns-clause-doubt g c =
    let none = rw (← c.self.view_is) at c.requires in
    inr (ap first_logged c.and-self-inside-in-Err.ensures ∙ first_logged-push _ _ none)

pub returns-clause-went : goal.returns-clause-went
returns-clause-went g c =
    let none = rw (← c.self.view_is) at c.requires in
    let is = c.deref.ensures.value ∙ c.in_ok-bytes.ensures ∙ ap (λ (l : List ℕ). block l ++ 0 ∷ []) c.as_slice.ensures.items in
    let lt : length c.args.payload.now < 2 ^ 64 = omega (arith, c.as_slice.ensures.bounded) in
    rw (← c.self.view_is) (append_err_went _ _ _ _ _ _ _ _ _ _ c.args.payload.now _ c.self.invariant
    (ap first_logged c.and-self-inside-in-Err.ensures ∙ first_logged-push _ _ none) lt
    (both_halves _ _ _ _ _ _ _ _ _ _ _ c.args.payload.now (Err c.in-Err.outage) c.self.invariant lt
    (staged _ _ _ _ _ _ _ _ _ c.args.payload.now _ (Ok c.in_ok-stage.field-0) c.self.invariant none is c.in_ok-stage.ensures.went)
    c.in-Err.ensures.went))
