-- A walk comes nearer to its end.
use Rattle.std.proofs.Common.{◌≡◌, ◌≢◌, ℕ, ◌+◌, ◌*◌, ◌<◌, ◌≤◌, Bool, true, false, cond, List, [], ◌∷◌, ◌++◌, length, map, Some, refl, sym, ◌∙◌, ap, subst, inl, inr, arith}
use Rattle.std.proofs.lemmas.List.{length-append, length-map}
use Rattle.cat_types.specs.declared.changes.Event.{Event}
use Rattle.cat_types.specs.declared.items.Item.{Item}
use Rattle.cat_types.specs.declared.steps.Answer.{Answer}
use Rattle.cat_types.specs.declared.steps.Answer.TheVariants as answer
use Rattle.cat_values.specs.declared.list_of.TheConstants.{LIST_END}
use Rattle.desk.specs.Walks.{Moves, Place}
use Rattle.desk.specs.Walks as walk
use Rattle.dump_texts.specs.Texts.{line_of}
use Rattle.repl_dump.specs.Files.{files_next}
use Rattle.repl_dump.specs.Turns.{FitsPlace, place_of, rank, steps_left}
use Rattle.repl_dump.specs.declared.place.Place.{Place as At}
use Rattle.repl_dump.specs.declared.place.Place.TheVariants as at
use Rattle.repl_dump.specs.declared.writer.Writer.{Writer}

-- how far a place of a walk is from its end
abbrev far : Place → ℕ
far (walk.tables after) = 3
far (walk.parts table born after) = 4
far walk.seal = 2
far (walk.events after) = 1
far walk.end = 0
far walk.done = 0

is_far : (place : At) → rank place ≡ far (place_of place)
is_far (at.Tables after) = refl
is_far (at.Parts table born after) = refl
is_far at.Seal = refl
is_far (at.Events after) = refl
is_far at.End = refl

-- how many files an answer makes
abbrev made : Writer → Answer → ℕ
made writer given = length (files_next writer given)

items_make : (writer : Writer) (items : List Item) (more : Bool) → items ≢ [] → 1 ≤ made writer (answer.Parts items more)
items_make writer [] more some = absurd (some refl)
items_make writer (x ∷ xs) more some = omega arith

events_make : (writer : Writer) (events : List Event) (more : Bool) → events ≢ [] → 1 ≤ made writer (answer.Events events more)
events_make writer [] more some = absurd (some refl)
events_make writer (x ∷ xs) more some = omega arith

-- a step leads nearer, or makes a file
made_or_nearer : (writer : Writer) (from : At) (begin : ℕ) (given : Answer) (to : Place) → FitsPlace (place_of from) given → Moves begin (place_of from) given to → far to < rank from + 4 * made writer given
made_or_nearer writer (at.Tables cursor) begin given to fits (inl came) =
    let file : 1 ≤ made writer given = subst (λ (a : Answer). 1 ≤ made writer a) (sym came.is) (omega arith) in
    let four : far to ≡ 4 = ap far came.next in omega (arith, file, four)
made_or_nearer writer (at.Tables cursor) begin given to fits (inr gone) = let two : far to ≡ 2 = ap far gone.1 in omega (arith, two)
made_or_nearer writer (at.Parts table born cursor) begin given to fits came = by came.more came.is came.next
  where
    by : (more : Bool) → given ≡ answer.Parts came.items more → to ≡ cond more (walk.parts table born (walk.last_values cursor came.items)) (walk.tables (Some table)) → far to < rank (at.Parts table born cursor) + 4 * made writer given
    by true is next =
        let fit : FitsPlace (walk.parts table born cursor) (answer.Parts came.items true) = subst (λ (a : Answer). FitsPlace (walk.parts table born cursor) a) is fits in
        let file : 1 ≤ made writer given = subst (λ (a : Answer). 1 ≤ made writer a) (sym is) (items_make writer came.items true (fit.1 refl)) in
        let four : far to ≡ 4 = ap far next in omega (arith, file, four)
    by false is next = let three : far to ≡ 3 = ap far next in omega (arith, three)
made_or_nearer writer at.Seal begin given to fits came = let one : far to ≡ 1 = ap far came.next in omega (arith, one)
made_or_nearer writer (at.Events cursor) begin given to fits came = by came.more came.is came.next
  where
    by : (more : Bool) → given ≡ answer.Events came.found more → to ≡ cond more (walk.events (walk.last_number cursor came.found)) walk.end → far to < rank (at.Events cursor) + 4 * made writer given
    by true is next =
        let fit : FitsPlace (walk.events cursor) (answer.Events came.found true) = subst (λ (a : Answer). FitsPlace (walk.events cursor) a) is fits in
        let file : 1 ≤ made writer given = subst (λ (a : Answer). 1 ≤ made writer a) (sym is) (events_make writer came.found true (fit refl)) in
        let one : far to ≡ 1 = ap far next in omega (arith, file, one)
    by false is next = let none : far to ≡ 0 = ap far next in omega (arith, none)
made_or_nearer writer at.End begin given to fits came = absurd fits

-- fewer steps are left after one that was written
pub nearer : (old new : Writer) (from to : At) (begin : ℕ) (given : Answer) → FitsPlace (place_of from) given → Moves begin (place_of from) given (place_of to)
    → new.files ≡ old.files ++ map line_of (files_next old given) → length new.files ≤ LIST_END → steps_left new to < steps_left old from
nearer old new from to begin given fits moves lines most =
    let grown : length new.files ≡ length old.files + made old given = ap length lines ∙ (length-append old.files (map line_of (files_next old given)) ∙ ap (λ n. length old.files + n) (length-map (files_next old given) line_of)) in
    let near : far (place_of to) < rank from + 4 * made old given = made_or_nearer old from begin given (place_of to) fits moves in
    omega (arith, grown, near, most, is_far to)
