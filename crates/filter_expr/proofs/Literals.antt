-- Lists of literals, one by one.
use Rattle.std.proofs.Common.{◌≡◌, ℕ, ◌<◌, List, [], ◌∷◌, ◌++◌, length, refl, sym, ap, ◌∙◌, subst, arith, append_assoc, Bool, true, false, Option, Some, None}
use Rattle.std.proofs.lemmas.Bool.{false≢true}
use Rattle.filter_expr.specs.declared.token.Literal.{Literal}
use Rattle.filter_expr.specs.declared.token.Mark.{Mark}
use Rattle.filter_expr.specs.declared.token.Mark.TheVariants.{Comma}
use Rattle.filter_expr.specs.declared.token.Token.{Token}
use Rattle.filter_expr.specs.declared.token.Token.TheVariants.{End}
use Rattle.filter_expr.specs.Grammar.{IsNext, IsMark, IsLiteral, AreMore, TakesMark, TakesOperator}
use Rattle.filter_expr.specs.declared.token.Operator.{Operator}

abbrev pub first_token : List (ℕ × Token) → Token
first_token [] = End
first_token (x ∷ xs) = x.1

-- a list is shorter behind its first token
pub next_shorter : (token : Token) (xs ys : List (ℕ × Token)) → IsNext token xs ys → length ys < length xs
next_shorter token xs ys next = omega (arith, ap (λ (l : List (ℕ × Token)). length l) next.1)

-- one more literal behind the others
pub more_one : (more : List Literal) (literal : Literal) (xs a b ys : List (ℕ × Token)) → AreMore more xs a → IsMark Comma a b → IsLiteral literal b ys → AreMore (more ++ literal ∷ []) xs ys
more_one [] literal xs a b ys h comma l = (b, ys, subst (λ (t : List (ℕ × Token)). IsMark Comma t b) (sym h) comma, l, refl)
more_one (first ∷ more) literal xs a b ys h comma l = (h.0, h.1, h.2, h.3, more_one more literal h.1 a b ys h.4 comma l)

pub took_it : (mark : Mark) (took : Bool) (old new : List (ℕ × Token)) → took ≡ true → TakesMark mark took old new → IsMark mark old new
took_it mark true old new e h = h
took_it mark false old new e h = absurd (false≢true e)

-- a comma and a literal more
pub more_pushed : (literal : Literal) (xs a b ys : List (ℕ × Token)) (took : Bool) (old now new : List Literal) → ((more : List Literal) × AreMore more xs a × (now ≡ old ++ more)) → took ≡ true → TakesMark Comma took a b → IsLiteral literal b ys → new ≡ now ++ literal ∷ [] → (more : List Literal) × AreMore more xs ys × (new ≡ old ++ more)
more_pushed literal xs a b ys took old now new so_far e comma l pushed = (
  so_far.0 ++ literal ∷ [],
  more_one so_far.0 literal xs a b ys so_far.1 (took_it Comma took a b e comma) l,
  pushed ∙ ap (λ (ls : List Literal). ls ++ literal ∷ []) so_far.2 ∙ append_assoc old so_far.0 (literal ∷ []),
)

pub none_taken : (found : Option Operator) (old new : List (ℕ × Token)) → ((operator : Operator) → found ≡ Some operator → ⊥) → TakesOperator found old new → new ≡ old
none_taken None old new none h = h.0
none_taken (Some operator) old new none h = absurd (none operator refl)

pub mark_behind : (mark : Mark) (a b ys : List (ℕ × Token)) → b ≡ a → IsMark mark b ys → IsMark mark a ys
mark_behind mark a b ys e h = subst (λ (t : List (ℕ × Token)). IsMark mark t ys) e h
