use Rattle.std.proofs.Common.{rules, refl}
use Rattle.std.proofs.lemmas.Bool.{false≢true}
use Rattle.std.specs.Str.{chars}
use Rattle.cat_rules.proofs.Following.{along_none, along_more, fits_along, ended, differs, left_over}
use Rattle.cat_rules.proofs.patterns.follow.Goals as goal
use Rattle.cat_rules.proofs.patterns.follow.Goals.{in_default-split_char-via-in-Some-split_char+else-stands_for, in_default-split_char-via-in_default-split_char}

pub loop-sign-init : goal.loop-sign-init
loop-sign-init c = (c.utf8.signs, c.utf8.name, along_none _ _)

pub loop-sign-preserved : goal.loop-sign-preserved
loop-sign-preserved c = (search rules, search rules, along_more _ _ _ _ c.in-Some.sign c.in-Some-split_char.c _ _ c.loop-sign.invariant.2 c.in-Some.ensures c.in-Some-split_char.ensures c.if-sign-eq-RUN.false (c.if-stands_for.ensures.0 refl))

pub returns-in_default-split_char : goal.returns-in_default-split_char
returns-in_default-split_char c = λ h.
    let f = fits_along _ _ _ _ c.loop-sign.invariant.2 h in
    elim c.in_default-split_char.branch [
      | in_default-split_char-via-in-Some-split_char+else-stands_for w ↦ differs _ _ _ _ _ _ c.in-Some.ensures w.in-Some-split_char.ensures c.if-sign-eq-RUN.false (λ d. false≢true (w.if-stands_for.ensures.1 d)) f
      | in_default-split_char-via-in_default-split_char w ↦ ended _ _ _ _ c.in-Some.ensures w.in_default-split_char.ensures c.if-sign-eq-RUN.false f
    ]

pub returns-in-Some-split_char-2 : goal.returns-in-Some-split_char-2
returns-in-Some-split_char-2 c = λ h. left_over _ _ c.in-Some-split_char-2.field-0.0 (chars c.in-Some-split_char-2.field-0.1.now) c.in_default.ensures c.in-Some-split_char-2.ensures (fits_along _ _ _ _ c.loop-sign.invariant.2 h)
