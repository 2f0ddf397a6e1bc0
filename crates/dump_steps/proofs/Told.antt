-- Items that are told, the first of them and whether others follow.
use Rattle.std.proofs.Common.{◌≡◌, refl, sym, ap, ◌∙◌, ◌≤◌, List, [], ◌∷◌, ◌++◌, length, take, nat_lt, true, false, append-nil, length-append, arith}
use Rattle.std.proofs.lemmas.Bool.{le-ltb, lt-ltb}
use Rattle.std.proofs.lemmas.List.{take_at, take_all}
use Rattle.cat_types.specs.declared.items.Item.{Item}
use Rattle.cat_types.specs.declared.steps.Answer.TheVariants.{Parts}
use Rattle.dump_steps.specs.Pieces.{told_parts}

-- where one follows on 64
pub parts_cut : (whole items left rest : List Item) (x : Item) → length items ≡ 64 → items ++ left ≡ whole → left ≡ x ∷ rest → Parts items true ≡ told_parts whole
parts_cut whole items left rest x full is next =
    let joined : whole ≡ items ++ x ∷ rest = sym is ∙ ap (λ l. items ++ l) next in
    let front : take 64 whole ≡ items = ap (take 64) joined ∙ take_at items (x ∷ rest) 64 full in
    let more : nat_lt 64 (length whole) ≡ true = lt-ltb 64 (length whole) (omega (arith, ap length joined, length-append items (x ∷ rest), full)) in
    rw (front, more) refl

-- and where none is left
pub parts_whole : (whole items left : List Item) → length items ≤ 64 → items ++ left ≡ whole → left ≡ [] → Parts items false ≡ told_parts whole
parts_whole whole items left few is none =
    let all : items ≡ whole = sym (append-nil items) ∙ (ap (λ l. items ++ l) (sym none) ∙ is) in
    let front : take 64 whole ≡ items = ap (take 64) (sym all) ∙ take_all 64 items few in
    let more : nat_lt 64 (length whole) ≡ false = le-ltb 64 (length whole) (omega (arith, ap length all, few)) in
    rw (front, more) refl
