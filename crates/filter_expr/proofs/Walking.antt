-- How the machine goes over a phrase, and where it stops.
use Rattle.std.proofs.Common.{◌≡◌, ℕ, Bool, List, [], ◌∷◌, ◌++◌, refl, sym, ap, ◌∙◌, append_assoc, append-nil, inl, inr, add-one}
use Rattle.filter_expr.specs.declared.token.Mark.TheVariants.{Open, Close, Comma, And}
use Rattle.filter_expr.specs.declared.token.Literal.{Literal}
use Rattle.filter_expr.specs.declared.token.Token.{Token}
use Rattle.filter_expr.specs.declared.token.Token.TheVariants.{Marked, Value}
use Rattle.filter_expr.specs.declared.tree.Test.{Test}
use Rattle.filter_expr.specs.declared.tree.Test.TheVariants.{Among, Within}
use Rattle.filter_expr.specs.declared.fault.FilterFault.{FilterFault}
use Rattle.filter_expr.specs.declared.fault.FilterFault.TheVariants.{Syntax}
use Rattle.filter_expr.specs.Grammar.{IsNext, IsMark, IsMarked, IsALiteral, IsOpen, Refuses, AreMore, AreLiterals, IsListed, IsCommaOrClose, StopsOpen, StopsMore, StopsLiterals, StopsListed, StopsBounds}
use Rattle.filter_expr.proofs.Machine as m
use Rattle.filter_expr.proofs.Machine.{Level, State, Next, End_of, run, step, follow, level, compared, behind_term, depth_of, inner, joined_any, joined_all, stopped, go, stop}

-- over one token
pub over : (token : Token) (xs ys : List (ℕ × Token)) (s : State) (h : IsNext token xs ys) → run xs s ≡ follow (step s h.0 token) (λ t. run ys t)
over token xs ys s h = ap (λ (l : List (ℕ × Token)). run l s) h.1

-- a token that is refused stops it
pub refused : (May : Token → Type 0) (fault : FilterFault) (xs : List (ℕ × Token)) (s : State) → ((place : ℕ) (token : Token) → (May token → ⊥) → step s place token ≡ stop (Syntax place)) → Refuses May fault xs → run xs s ≡ stopped fault
refused May fault xs s f h =
    ap (λ (l : List (ℕ × Token)). run l s) h.3
    ∙ ap (λ (next : Next). follow next (λ t. run h.2 t)) (f h.0 h.1 h.4)
    ∙ ap stopped (sym h.5)

-- ---- lists of literals

over_more : (more : List Literal) (items : List Literal) (key : List ℕ) (positive : Bool) (l : Level) (ls : List Level) (xs ys : List (ℕ × Token)) → AreMore more xs ys → run xs (m.behind_item key positive items l ls) ≡ run ys (m.behind_item key positive (items ++ more) l ls)
over_more [] items key positive l ls xs ys h = ap (λ (t : List (ℕ × Token)). run t (m.behind_item key positive items l ls)) h ∙ ap (λ (is : List Literal). run ys (m.behind_item key positive is l ls)) (sym (append-nil items))
over_more (literal ∷ more) items key positive l ls xs ys h =
    over (Marked Comma) xs h.0 (m.behind_item key positive items l ls) h.2
    ∙ over (Value literal) h.0 h.1 (m.at_item key positive items l ls) h.3
    ∙ over_more more (items ++ literal ∷ []) key positive l ls h.1 ys h.4
    ∙ ap (λ (is : List Literal). run ys (m.behind_item key positive is l ls)) (append_assoc items (literal ∷ []) more)

over_literals : (literals : List Literal) (key : List ℕ) (positive : Bool) (l : Level) (ls : List Level) (xs ys : List (ℕ × Token)) → AreLiterals literals xs ys → run xs (m.at_item key positive [] l ls) ≡ run ys (m.behind_item key positive literals l ls)
over_literals [] key positive l ls xs ys h = absurd h
over_literals (literal ∷ more) key positive l ls xs ys h =
    over (Value literal) xs h.0 (m.at_item key positive [] l ls) h.1
    ∙ over_more more (literal ∷ []) key positive l ls h.0 ys h.2

-- an open parenthesis where one may be opened
over_open : (key : List ℕ) (positive : Bool) (l : Level) (ls : List Level) (k : ℕ) (xs ys : List (ℕ × Token)) → IsOpen (depth_of l) k xs ys → run xs (m.at_list key positive l ls) ≡ run ys (m.at_item key positive [] l ls)
over_open key positive l ls k xs ys h =
    over (Marked Open) xs ys (m.at_list key positive l ls) h.1
    ∙ ap (λ n. follow (m.listed_open key positive n l ls) (λ t. run ys t)) (h.0 ∙ add-one k)

pub over_listed : (literals : List Literal) (key : List ℕ) (positive : Bool) (l : Level) (ls : List Level) (xs ys : List (ℕ × Token)) → IsListed (depth_of l) literals xs ys → run xs (m.at_list key positive l ls) ≡ run ys (compared key (Among positive literals) l ls)
over_listed literals key positive l ls xs ys h =
    over_open key positive l ls h.0 xs h.1 h.3
    ∙ over_literals literals key positive l ls h.1 h.2 h.4
    ∙ over (Marked Close) h.2 ys (m.behind_item key positive literals l ls) h.5

refuse_item : (key : List ℕ) (positive : Bool) (items : List Literal) (l : Level) (ls : List Level) (place : ℕ) (token : Token) → (IsALiteral token → ⊥) → step (m.at_item key positive items l ls) place token ≡ stop (Syntax place)
refuse_item key positive items l ls place (Value v) h = absurd (h (v, refl))
refuse_item key positive items l ls place _ h = refl

refuse_behind_item : (key : List ℕ) (positive : Bool) (items : List Literal) (l : Level) (ls : List Level) (place : ℕ) (token : Token) → (IsCommaOrClose token → ⊥) → step (m.behind_item key positive items l ls) place token ≡ stop (Syntax place)
refuse_behind_item key positive items l ls place (Marked Comma) h = absurd (h (inl refl))
refuse_behind_item key positive items l ls place (Marked Close) h = absurd (h (inr refl))
refuse_behind_item key positive items l ls place _ h = refl

refuse_list : (key : List ℕ) (positive : Bool) (l : Level) (ls : List Level) (place : ℕ) (token : Token) → (IsMarked Open token → ⊥) → step (m.at_list key positive l ls) place token ≡ stop (Syntax place)
refuse_list key positive l ls place (Marked Open) h = absurd (h refl)
refuse_list key positive l ls place _ h = refl

stops_open : (key : List ℕ) (positive : Bool) (l : Level) (ls : List Level) (fault : FilterFault) (xs : List (ℕ × Token)) → StopsOpen (depth_of l) fault xs → run xs (m.at_list key positive l ls) ≡ stopped fault
stops_open key positive l ls fault xs (inl h) = refused (IsMarked Open) fault xs (m.at_list key positive l ls) (refuse_list key positive l ls) h
stops_open key positive l ls fault xs (inr h) =
    over (Marked Open) xs h.1.0 (m.at_list key positive l ls) h.1.1
    ∙ ap (λ n. follow (m.listed_open key positive n l ls) (λ t. run h.1.0 t)) h.0
    ∙ ap stopped (sym h.2)

stops_more : (items : List Literal) (key : List ℕ) (positive : Bool) (l : Level) (ls : List Level) (fault : FilterFault) (xs : List (ℕ × Token)) → StopsMore fault xs → run xs (m.behind_item key positive items l ls) ≡ stopped fault
stops_more items key positive l ls fault xs h =
    over_more h.0 items key positive l ls xs h.1 h.3
    ∙ over (Marked Comma) h.1 h.2 (m.behind_item key positive (items ++ h.0) l ls) h.4
    ∙ refused IsALiteral fault h.2 (m.at_item key positive (items ++ h.0) l ls) (refuse_item key positive (items ++ h.0) l ls) h.5

stops_literals : (key : List ℕ) (positive : Bool) (l : Level) (ls : List Level) (fault : FilterFault) (xs : List (ℕ × Token)) → StopsLiterals fault xs → run xs (m.at_item key positive [] l ls) ≡ stopped fault
stops_literals key positive l ls fault xs (inl h) = refused IsALiteral fault xs (m.at_item key positive [] l ls) (refuse_item key positive [] l ls) h
stops_literals key positive l ls fault xs (inr h) =
    over (Value h.0) xs h.1 (m.at_item key positive [] l ls) h.2
    ∙ stops_more (h.0 ∷ []) key positive l ls fault h.1 h.3

pub stops_listed : (key : List ℕ) (positive : Bool) (l : Level) (ls : List Level) (fault : FilterFault) (xs : List (ℕ × Token)) → StopsListed (depth_of l) fault xs → run xs (m.at_list key positive l ls) ≡ stopped fault
stops_listed key positive l ls fault xs (inl h) = stops_open key positive l ls fault xs h
stops_listed key positive l ls fault xs (inr (inl h)) = over_open key positive l ls h.0 xs h.1 h.2 ∙ stops_literals key positive l ls fault h.1 h.3
stops_listed key positive l ls fault xs (inr (inr h)) =
    over_open key positive l ls h.0 xs h.2 h.4
    ∙ over_literals h.1 key positive l ls h.2 h.3 h.5
    ∙ refused IsCommaOrClose fault h.3 (m.behind_item key positive h.1 l ls) (refuse_behind_item key positive h.1 l ls) h.6

-- ---- bounds

pub over_between : (positive : Bool) (test : Test) (key : List ℕ) (l : Level) (ls : List Level) (a xs ys : List (ℕ × Token)) (low high : Literal) (b c : List (ℕ × Token)) → IsNext (Value low) a b → IsMark And b c → IsNext (Value high) c ys → test ≡ Within positive low high → run a (m.at_low key positive l ls) ≡ run ys (compared key test l ls)
over_between positive test key l ls a xs ys low high b c p q r e =
    over (Value low) a b (m.at_low key positive l ls) p
    ∙ over (Marked And) b c (m.behind_low key positive low l ls) q
    ∙ over (Value high) c ys (m.at_high key positive low l ls) r
    ∙ ap (λ (t : Test). run ys (compared key t l ls)) (sym e)

refuse_low : (key : List ℕ) (positive : Bool) (l : Level) (ls : List Level) (place : ℕ) (token : Token) → (IsALiteral token → ⊥) → step (m.at_low key positive l ls) place token ≡ stop (Syntax place)
refuse_low key positive l ls place (Value v) h = absurd (h (v, refl))
refuse_low key positive l ls place _ h = refl

refuse_behind_low : (key : List ℕ) (positive : Bool) (low : Literal) (l : Level) (ls : List Level) (place : ℕ) (token : Token) → (IsMarked And token → ⊥) → step (m.behind_low key positive low l ls) place token ≡ stop (Syntax place)
refuse_behind_low key positive low l ls place (Marked And) h = absurd (h refl)
refuse_behind_low key positive low l ls place _ h = refl

refuse_high : (key : List ℕ) (positive : Bool) (low : Literal) (l : Level) (ls : List Level) (place : ℕ) (token : Token) → (IsALiteral token → ⊥) → step (m.at_high key positive low l ls) place token ≡ stop (Syntax place)
refuse_high key positive low l ls place (Value v) h = absurd (h (v, refl))
refuse_high key positive low l ls place _ h = refl

pub stops_bounds : (key : List ℕ) (positive : Bool) (l : Level) (ls : List Level) (fault : FilterFault) (xs : List (ℕ × Token)) → StopsBounds fault xs → run xs (m.at_low key positive l ls) ≡ stopped fault
stops_bounds key positive l ls fault xs (inl h) = refused IsALiteral fault xs (m.at_low key positive l ls) (refuse_low key positive l ls) h
stops_bounds key positive l ls fault xs (inr (inl h)) =
    over (Value h.0) xs h.1 (m.at_low key positive l ls) h.2
    ∙ refused (IsMarked And) fault h.1 (m.behind_low key positive h.0 l ls) (refuse_behind_low key positive h.0 l ls) h.3
stops_bounds key positive l ls fault xs (inr (inr h)) =
    over (Value h.0) xs h.1 (m.at_low key positive l ls) h.3
    ∙ over (Marked And) h.1 h.2 (m.behind_low key positive h.0 l ls) h.4
    ∙ refused IsALiteral fault h.2 (m.at_high key positive h.0 l ls) (refuse_high key positive h.0 l ls) h.5
