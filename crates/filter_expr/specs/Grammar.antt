-- The grammar of filters, over lists of tokens with their places. Each kind of phrase has two definitions: how tokens spell it (from a
-- list to what is left of it behind the phrase), and where tokens stop to be one, with the fault. n is how many parentheses may still
-- be opened inside one another.
use Rattle.std.specs.Prelude.{◌≡◌, ℕ, ◌+◌, ◌⊎◌, Bool, true, false, List, [], ◌∷◌, Option, None, Some, Result, Ok, Err}
use Rattle.filter_expr.specs.declared.token.Mark.{Mark}
use Rattle.filter_expr.specs.declared.token.Mark.TheVariants.{Open, Close, Comma, And, Or, Not, In, Between}
use Rattle.filter_expr.specs.declared.token.Operator.{Operator}
use Rattle.filter_expr.specs.declared.token.Operator.TheVariants.{Equals, Differs, Below, AtMost, Above, AtLeast}
use Rattle.filter_expr.specs.declared.token.Literal.{Literal}
use Rattle.filter_expr.specs.declared.token.Token.{Token}
use Rattle.filter_expr.specs.declared.token.Token.TheVariants.{Marked, Compare, Key, Value, End}
use Rattle.filter_expr.specs.declared.tree.Test.{Test}
use Rattle.filter_expr.specs.declared.tree.Test.TheVariants.{Is, Among, Within}
use Rattle.filter_expr.specs.declared.tree.Written.{Written}
use Rattle.filter_expr.specs.declared.fault.FilterFault.{FilterFault}
use Rattle.filter_expr.specs.declared.fault.FilterFault.TheVariants.{Syntax, TooDeep, UnknownKey, WrongType, NoMemory}
use Rattle.filter_expr.specs.Trees.{Any, All, Term, one, and_also, lone, or_else, compare, group}

-- ---- single tokens

-- the token is the first one, and the others are behind it
abbrev pub IsNext : Token → List (ℕ × Token) → List (ℕ × Token) → Type 0
IsNext token xs ys = (place : ℕ) × (xs ≡ (place, token) ∷ ys)

abbrev pub BeginsWith : Token → List (ℕ × Token) → Type 0
BeginsWith token xs = (ys : List (ℕ × Token)) × IsNext token xs ys

abbrev pub IsMark : Mark → List (ℕ × Token) → List (ℕ × Token) → Type 0
IsMark mark = IsNext (Marked mark)

abbrev pub IsKey : List ℕ → List (ℕ × Token) → List (ℕ × Token) → Type 0
IsKey key = IsNext (Key key)

abbrev pub IsLiteral : Literal → List (ℕ × Token) → List (ℕ × Token) → Type 0
IsLiteral literal = IsNext (Value literal)

abbrev pub IsOperator : Operator → List (ℕ × Token) → List (ℕ × Token) → Type 0
IsOperator operator = IsNext (Compare operator)

-- the first token is none of those that may stand there
abbrev pub Refuses : (Token → Type 0) → FilterFault → List (ℕ × Token) → Type 0
Refuses May fault xs = (place : ℕ) × (token : Token) × (ys : List (ℕ × Token)) × (xs ≡ (place, token) ∷ ys) × (May token → ⊥) × (fault ≡ Syntax place)

-- the fault is that of the first token
abbrev pub IsRefused : List (ℕ × Token) → FilterFault → Type 0
IsRefused xs fault = (place : ℕ) × (token : Token) × (ys : List (ℕ × Token)) × (xs ≡ (place, token) ∷ ys) × (fault ≡ Syntax place)

-- the first token is not such a one
abbrev pub IsNotFirst : (Token → Type 0) → List (ℕ × Token) → Type 0
IsNotFirst May xs = (place : ℕ) (token : Token) (ys : List (ℕ × Token)) → xs ≡ (place, token) ∷ ys → May token → ⊥

abbrev pub IsMarked : Mark → Token → Type 0
IsMarked mark token = token ≡ Marked mark

abbrev pub IsAKey : Token → Type 0
IsAKey token = (key : List ℕ) × (token ≡ Key key)

abbrev pub IsALiteral : Token → Type 0
IsALiteral token = (literal : Literal) × (token ≡ Value literal)

abbrev pub IsAnOperator : Token → Type 0
IsAnOperator token = (operator : Operator) × (token ≡ Compare operator)

abbrev pub StopsMark : Mark → FilterFault → List (ℕ × Token) → Type 0
StopsMark mark = Refuses (IsMarked mark)

abbrev pub StopsKey : FilterFault → List (ℕ × Token) → Type 0
StopsKey = Refuses IsAKey

abbrev pub StopsLiteral : FilterFault → List (ℕ × Token) → Type 0
StopsLiteral = Refuses IsALiteral

abbrev pub StopsOperator : FilterFault → List (ℕ × Token) → Type 0
StopsOperator = Refuses IsAnOperator

-- an open parenthesis, where k may be opened inside it
abbrev pub IsOpen : ℕ → ℕ → List (ℕ × Token) → List (ℕ × Token) → Type 0
IsOpen n k xs ys = (n ≡ k + 1) × IsMark Open xs ys

abbrev pub IsOneTooMany : ℕ → FilterFault → List (ℕ × Token) → Type 0
IsOneTooMany n fault xs = (n ≡ 0) × BeginsWith (Marked Open) xs × (fault ≡ TooDeep)

abbrev pub StopsOpen : ℕ → FilterFault → List (ℕ × Token) → Type 0
StopsOpen n fault xs = StopsMark Open fault xs ⊎ IsOneTooMany n fault xs

-- ---- what stands behind a key

-- { "," literal }
abbrev pub AreMore : List Literal → List (ℕ × Token) → List (ℕ × Token) → Type 0
AreMore [] xs ys = xs ≡ ys
AreMore (literal ∷ literals) xs ys = (a b : List (ℕ × Token)) × IsMark Comma xs a × IsLiteral literal a b × AreMore literals b ys

abbrev pub StopsMore : FilterFault → List (ℕ × Token) → Type 0
StopsMore fault xs = (literals : List Literal) × (a b : List (ℕ × Token)) × AreMore literals xs a × IsMark Comma a b × StopsLiteral fault b

-- literal { "," literal }
abbrev pub AreLiterals : List Literal → List (ℕ × Token) → List (ℕ × Token) → Type 0
AreLiterals [] xs ys = ⊥
AreLiterals (literal ∷ literals) xs ys = (a : List (ℕ × Token)) × IsLiteral literal xs a × AreMore literals a ys

abbrev pub StopsLiterals : FilterFault → List (ℕ × Token) → Type 0
StopsLiterals fault xs = StopsLiteral fault xs ⊎ ((literal : Literal) × (a : List (ℕ × Token)) × IsLiteral literal xs a × StopsMore fault a)

-- "(" literal { "," literal } ")"
abbrev pub IsListed : ℕ → List Literal → List (ℕ × Token) → List (ℕ × Token) → Type 0
IsListed n literals xs ys = (k : ℕ) × (a b : List (ℕ × Token)) × IsOpen n k xs a × AreLiterals literals a b × IsMark Close b ys

abbrev pub IsCommaOrClose : Token → Type 0
IsCommaOrClose token = IsMarked Comma token ⊎ IsMarked Close token

abbrev pub StopsListed : ℕ → FilterFault → List (ℕ × Token) → Type 0
StopsListed n fault xs =
    StopsOpen n fault xs
    ⊎ ((k : ℕ) × (a : List (ℕ × Token)) × IsOpen n k xs a × StopsLiterals fault a)
    ⊎ ((k : ℕ) × (literals : List Literal) × (a b : List (ℕ × Token)) × IsOpen n k xs a × AreLiterals literals a b × Refuses IsCommaOrClose fault b)

-- "in" and a list
abbrev pub IsMembers : ℕ → Bool → Test → List (ℕ × Token) → List (ℕ × Token) → Type 0
IsMembers n positive test xs ys = (literals : List Literal) × (a : List (ℕ × Token)) × IsMark In xs a × IsListed n literals a ys × (test ≡ Among positive literals)

abbrev pub StopsMembers : ℕ → FilterFault → List (ℕ × Token) → Type 0
StopsMembers n fault xs = (a : List (ℕ × Token)) × IsMark In xs a × StopsListed n fault a

-- the same, where a token other than "in" may stand too
abbrev pub StopsInOrElse : ℕ → FilterFault → List (ℕ × Token) → Type 0
StopsInOrElse n fault xs = StopsMark In fault xs ⊎ StopsMembers n fault xs

-- literal "and" literal
abbrev pub IsBounds : Literal → Literal → List (ℕ × Token) → List (ℕ × Token) → Type 0
IsBounds low high xs ys = (a b : List (ℕ × Token)) × IsLiteral low xs a × IsMark And a b × IsLiteral high b ys

abbrev pub StopsBounds : FilterFault → List (ℕ × Token) → Type 0
StopsBounds fault xs =
    StopsLiteral fault xs
    ⊎ ((low : Literal) × (a : List (ℕ × Token)) × IsLiteral low xs a × StopsMark And fault a)
    ⊎ ((low : Literal) × (a b : List (ℕ × Token)) × IsLiteral low xs a × IsMark And a b × StopsLiteral fault b)

-- "between" and two bounds
abbrev pub IsBetween : Bool → Test → List (ℕ × Token) → List (ℕ × Token) → Type 0
IsBetween positive test xs ys = (low high : Literal) × (a : List (ℕ × Token)) × IsMark Between xs a × IsBounds low high a ys × (test ≡ Within positive low high)

abbrev pub StopsBetween : FilterFault → List (ℕ × Token) → Type 0
StopsBetween fault xs = (a : List (ℕ × Token)) × IsMark Between xs a × StopsBounds fault a

-- either of the two
abbrev pub IsRange : ℕ → Bool → Test → List (ℕ × Token) → List (ℕ × Token) → Type 0
IsRange n positive test xs ys = IsMembers n positive test xs ys ⊎ IsBetween positive test xs ys

abbrev pub IsInOrBetween : Token → Type 0
IsInOrBetween token = IsMarked In token ⊎ IsMarked Between token

abbrev pub StopsInRange : ℕ → FilterFault → List (ℕ × Token) → Type 0
StopsInRange n fault xs = StopsMembers n fault xs ⊎ StopsBetween fault xs

abbrev pub StopsRange : ℕ → FilterFault → List (ℕ × Token) → Type 0
StopsRange n fault xs = Refuses IsInOrBetween fault xs ⊎ StopsInRange n fault xs

-- what stands behind a key: an operator and a literal, or such a range, behind "not" or not
abbrev pub IsRelation : Test → List (ℕ × Token) → List (ℕ × Token) → Type 0
IsRelation test xs ys = (operator : Operator) × (literal : Literal) × (a : List (ℕ × Token)) × IsOperator operator xs a × IsLiteral literal a ys × (test ≡ Is operator literal)

abbrev pub IsTest : ℕ → Test → List (ℕ × Token) → List (ℕ × Token) → Type 0
IsTest n test xs ys =
    IsRelation test xs ys
    ⊎ IsRange n true test xs ys
    ⊎ ((a : List (ℕ × Token)) × IsMark Not xs a × IsRange n false test a ys)

abbrev pub BeginsTest : Token → Type 0
BeginsTest token = IsAnOperator token ⊎ IsMarked Not token ⊎ IsInOrBetween token

abbrev pub StopsTest : ℕ → FilterFault → List (ℕ × Token) → Type 0
StopsTest n fault xs =
    Refuses BeginsTest fault xs
    ⊎ ((operator : Operator) × (a : List (ℕ × Token)) × IsOperator operator xs a × StopsLiteral fault a)
    ⊎ StopsInRange n fault xs
    ⊎ ((a : List (ℕ × Token)) × IsMark Not xs a × StopsRange n fault a)

-- what stands behind a key in parentheses: "in" and a list, behind "not" or not
abbrev pub IsMembership : ℕ → Test → List (ℕ × Token) → List (ℕ × Token) → Type 0
IsMembership n test xs ys =
    IsMembers n true test xs ys
    ⊎ ((a : List (ℕ × Token)) × IsMark Not xs a × IsMembers n false test a ys)

abbrev pub IsNotOrIn : Token → Type 0
IsNotOrIn token = IsMarked Not token ⊎ IsMarked In token

abbrev pub StopsMembership : ℕ → FilterFault → List (ℕ × Token) → Type 0
StopsMembership n fault xs =
    Refuses IsNotOrIn fault xs
    ⊎ StopsMembers n fault xs
    ⊎ ((a : List (ℕ × Token)) × IsMark Not xs a × StopsInOrElse n fault a)

-- ---- comparisons

-- a literal op key says of the key what key op' literal says
abbrev pub mirrored : Operator → Operator
mirrored Equals = Equals
mirrored Differs = Differs
mirrored Below = Above
mirrored AtMost = AtLeast
mirrored Above = Below
mirrored AtLeast = AtMost

-- key, and what is said of it
abbrev pub IsKeyFirst : ℕ → Written → List (ℕ × Token) → List (ℕ × Token) → Type 0
IsKeyFirst n w xs ys = (a : List (ℕ × Token)) × IsKey w.key xs a × IsTest n w.test a ys

-- literal op key
abbrev pub IsLiteralFirst : Written → List (ℕ × Token) → List (ℕ × Token) → Type 0
IsLiteralFirst w xs ys =
    (literal : Literal) × (operator : Operator) × (a b : List (ℕ × Token))
    × IsLiteral literal xs a × IsOperator operator a b × IsKey w.key b ys × (w.test ≡ Is (mirrored operator) literal)

-- "(" key ")" and what is said of it; and the same behind the open parenthesis
abbrev pub IsClosedKey : ℕ → Written → List (ℕ × Token) → List (ℕ × Token) → Type 0
IsClosedKey n w xs ys = (a b : List (ℕ × Token)) × IsKey w.key xs a × IsMark Close a b × IsMembership n w.test b ys

abbrev pub IsKeyEnclosed : ℕ → Written → List (ℕ × Token) → List (ℕ × Token) → Type 0
IsKeyEnclosed n w xs ys = (k : ℕ) × (a : List (ℕ × Token)) × IsOpen n k xs a × IsClosedKey n w a ys

abbrev pub IsComparison : ℕ → Written → List (ℕ × Token) → List (ℕ × Token) → Type 0
IsComparison n w xs ys = IsKeyFirst n w xs ys ⊎ IsLiteralFirst w xs ys ⊎ IsKeyEnclosed n w xs ys

abbrev pub StopsKeyFirst : ℕ → FilterFault → List (ℕ × Token) → Type 0
StopsKeyFirst n fault xs = (key : List ℕ) × (a : List (ℕ × Token)) × IsKey key xs a × StopsTest n fault a

abbrev pub StopsLiteralFirst : FilterFault → List (ℕ × Token) → Type 0
StopsLiteralFirst fault xs =
    ((literal : Literal) × (a : List (ℕ × Token)) × IsLiteral literal xs a × StopsOperator fault a)
    ⊎ ((literal : Literal) × (operator : Operator) × (a b : List (ℕ × Token)) × IsLiteral literal xs a × IsOperator operator a b × StopsKey fault b)

abbrev pub StopsClosedKey : ℕ → FilterFault → List (ℕ × Token) → Type 0
StopsClosedKey n fault xs = (key : List ℕ) × (a b : List (ℕ × Token)) × IsKey key xs a × IsMark Close a b × StopsMembership n fault b

abbrev pub StopsKeyEnclosed : ℕ → FilterFault → List (ℕ × Token) → Type 0
StopsKeyEnclosed n fault xs = (k : ℕ) × (a : List (ℕ × Token)) × IsOpen n k xs a × StopsClosedKey n fault a

-- a comparison that begins with no parenthesis
abbrev pub IsKeyOrLiteral : Token → Type 0
IsKeyOrLiteral token = IsAKey token ⊎ IsALiteral token

abbrev pub StopsBare : ℕ → FilterFault → List (ℕ × Token) → Type 0
StopsBare n fault xs = Refuses IsKeyOrLiteral fault xs ⊎ StopsKeyFirst n fault xs ⊎ StopsLiteralFirst fault xs

-- ---- terms, what and joins, and what or joins

-- a parenthesis that holds a key alone
abbrev pub IsKeyClosed : List (ℕ × Token) → Type 0
IsKeyClosed xs = (key : List ℕ) × (a b : List (ℕ × Token)) × IsKey key xs a × IsMark Close a b

abbrev mutual
  pub IsAny : ℕ → Any Written → List (ℕ × Token) → List (ℕ × Token) → Type 0
  IsAny n (lone all) xs ys = IsAll n all xs ys
  IsAny n (or_else any all) xs ys = (a b : List (ℕ × Token)) × IsAny n any xs a × IsMark Or a b × IsAll n all b ys

  pub IsAll : ℕ → All Written → List (ℕ × Token) → List (ℕ × Token) → Type 0
  IsAll n (one term) xs ys = IsTerm n term xs ys
  IsAll n (and_also all term) xs ys = (a b : List (ℕ × Token)) × IsAll n all xs a × IsMark And a b × IsTerm n term b ys

  pub IsTerm : ℕ → Term Written → List (ℕ × Token) → List (ℕ × Token) → Type 0
  IsTerm n (compare w) xs ys = IsComparison n w xs ys
  IsTerm n (group any) xs ys = (k : ℕ) × (a b : List (ℕ × Token)) × IsOpen n k xs a × IsAny k any a b × IsMark Close b ys

abbrev pub BeginsTerm : Token → Type 0
BeginsTerm token = IsMarked Open token ⊎ IsKeyOrLiteral token

abbrev pub GoesOn : Token → Type 0
GoesOn token = IsMarked And token ⊎ IsMarked Or token

mutual
  pub data StopsAny : ℕ → FilterFault → List (ℕ × Token) → Type 0 where
    any_first : (n : ℕ) (fault : FilterFault) (xs : List (ℕ × Token)) → StopsAll n fault xs → StopsAny n fault xs
    any_later : (n : ℕ) (fault : FilterFault) (xs a b : List (ℕ × Token)) (any : Any Written) → IsAny n any xs a → IsMark Or a b → StopsAll n fault b → StopsAny n fault xs

  pub data StopsAll : ℕ → FilterFault → List (ℕ × Token) → Type 0 where
    all_first : (n : ℕ) (fault : FilterFault) (xs : List (ℕ × Token)) → StopsTerm n fault xs → StopsAll n fault xs
    all_later : (n : ℕ) (fault : FilterFault) (xs a b : List (ℕ × Token)) (all : All Written) → IsAll n all xs a → IsMark And a b → StopsTerm n fault b → StopsAll n fault xs

  pub data StopsTerm : ℕ → FilterFault → List (ℕ × Token) → Type 0 where
    no_term : (n : ℕ) (fault : FilterFault) (xs : List (ℕ × Token)) → Refuses BeginsTerm fault xs → StopsTerm n fault xs
    one_too_many : (n : ℕ) (fault : FilterFault) (xs : List (ℕ × Token)) → IsOneTooMany n fault xs → StopsTerm n fault xs
    behind_key : (n : ℕ) (fault : FilterFault) (xs : List (ℕ × Token)) → StopsKeyFirst n fault xs → StopsTerm n fault xs
    behind_literal : (n : ℕ) (fault : FilterFault) (xs : List (ℕ × Token)) → StopsLiteralFirst fault xs → StopsTerm n fault xs
    behind_closed_key : (n : ℕ) (fault : FilterFault) (xs : List (ℕ × Token)) → StopsKeyEnclosed n fault xs → StopsTerm n fault xs
    in_group : (n k : ℕ) (fault : FilterFault) (xs a : List (ℕ × Token)) → IsOpen n k xs a → (IsKeyClosed a → ⊥) → StopsAny k fault a → StopsTerm n fault xs
    behind_group : (n k : ℕ) (fault : FilterFault) (xs a b : List (ℕ × Token)) (any : Any Written) → IsOpen n k xs a → IsAny k any a b → Refuses (λ token. IsMarked Close token ⊎ GoesOn token) fault b → StopsTerm n fault xs

-- "or" and what "and" joins, and "and" and a term
abbrev pub IsLaterAll : ℕ → All Written → List (ℕ × Token) → List (ℕ × Token) → Type 0
IsLaterAll n all xs ys = (a : List (ℕ × Token)) × IsMark Or xs a × IsAll n all a ys

abbrev pub StopsLaterAll : ℕ → FilterFault → List (ℕ × Token) → Type 0
StopsLaterAll n fault xs = (a : List (ℕ × Token)) × IsMark Or xs a × StopsAll n fault a

abbrev pub IsLaterTerm : ℕ → Term Written → List (ℕ × Token) → List (ℕ × Token) → Type 0
IsLaterTerm n term xs ys = (a : List (ℕ × Token)) × IsMark And xs a × IsTerm n term a ys

abbrev pub StopsLaterTerm : ℕ → FilterFault → List (ℕ × Token) → Type 0
StopsLaterTerm n fault xs = (a : List (ℕ × Token)) × IsMark And xs a × StopsTerm n fault a

-- ---- whole filters

abbrev pub IsEnd : Token → Type 0
IsEnd token = token ≡ End

-- the tokens of a whole text are a filter with a tree; an empty one has none
abbrev pub IsFilter : Option (Any Written) → List (ℕ × Token) → Type 0
IsFilter None xs = BeginsWith End xs
IsFilter (Some any) xs = (ys : List (ℕ × Token)) × IsAny 64 any xs ys × BeginsWith End ys

abbrev pub StopsFilter : FilterFault → List (ℕ × Token) → Type 0
StopsFilter fault xs =
    (IsNotFirst IsEnd xs × StopsAny 64 fault xs)
    ⊎ ((any : Any Written) × (ys : List (ℕ × Token)) × IsAny 64 any xs ys × Refuses (λ token. IsEnd token ⊎ GoesOn token) fault ys)

-- a call took the tokens of a phrase off a list, or the list stops to be one
abbrev pub Parsed : {T : Type 0} → List (ℕ × Token) → List (ℕ × Token) → Result T FilterFault → (T → List (ℕ × Token) → List (ℕ × Token) → Type 0) → (FilterFault → List (ℕ × Token) → Type 0) → Type 0
Parsed old new (Ok value) Spelled Stops = Spelled value old new
Parsed old new (Err (Syntax place)) Spelled Stops = Stops (Syntax place) old
Parsed old new (Err TooDeep) Spelled Stops = Stops TooDeep old
Parsed old new (Err (UnknownKey key)) Spelled Stops = ⊥
Parsed old new (Err (WrongType key)) Spelled Stops = ⊥
Parsed old new (Err NoMemory) Spelled Stops = Unit {0}

-- a mark was taken, or it isn't the first token and nothing was
abbrev pub TakesMark : Mark → Bool → List (ℕ × Token) → List (ℕ × Token) → Type 0
TakesMark mark true old new = IsMark mark old new
TakesMark mark false old new = (new ≡ old) × IsNotFirst (IsMarked mark) old

abbrev pub TakesOperator : Option Operator → List (ℕ × Token) → List (ℕ × Token) → Type 0
TakesOperator (Some operator) old new = IsOperator operator old new
TakesOperator None old new = (new ≡ old) × IsNotFirst IsAnOperator old
