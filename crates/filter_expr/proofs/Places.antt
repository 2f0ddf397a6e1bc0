-- Where the machine stops: at the token whose place it tells, whatever stands behind that token.
use Rattle.std.proofs.Common.{◌≡◌, ℕ, Bool, List, [], ◌∷◌, ◌++◌, refl, sym, ap, ◌∙◌, subst, inl, inr, Option, None, Some, zero, suc}
use Rattle.std.specs.Prelude.{◌⊎◌}
use Rattle.filter_expr.specs.declared.token.Mark.TheVariants.{Open, Close, Comma, And, Or, Not, In, Between}
use Rattle.filter_expr.specs.declared.token.Literal.{Literal}
use Rattle.filter_expr.specs.declared.token.Operator.{Operator}
use Rattle.filter_expr.specs.declared.token.Token.{Token}
use Rattle.filter_expr.specs.declared.token.Token.TheVariants.{Marked, Compare, Key, Value, End}
use Rattle.filter_expr.specs.declared.tree.Written.{Written}
use Rattle.filter_expr.specs.declared.fault.FilterFault.{FilterFault}
use Rattle.filter_expr.specs.declared.fault.FilterFault.TheVariants.{Syntax, TooDeep}
use Rattle.filter_expr.specs.Grammar.{IsFilter, StopsFilter}
use Rattle.filter_expr.specs.Laws.{NoFilterGoesOn}
use Rattle.filter_expr.specs.Trees.{Any, All}
use Rattle.filter_expr.proofs.Literals.{first_token}
use Rattle.filter_expr.proofs.Machine
use Rattle.filter_expr.proofs.Machine.{Level, State, Next, End_of, run, step, follow, level, depth_of, inner, stopped, read, unended, go, stop, accept}
use Rattle.filter_expr.proofs.OneWay.{filter_run, start, stop_run}
use Rattle.filter_expr.proofs.Terms.{any_not_end}

abbrev Here : ℕ → Next → Type 0
Here place (go state) = Unit {0}
Here place (stop fault) = (fault ≡ Syntax place) ⊎ (fault ≡ TooDeep)
Here place (accept any) = Unit {0}

here_opened : (place n : ℕ) (l : Level) (ls : List Level) → Here place (Machine.opened n l ls)
here_opened place zero l ls = inr refl
here_opened place (suc n) l ls = tt

here_listed : (place n : ℕ) (key : List ℕ) (positive : Bool) (l : Level) (ls : List Level) → Here place (Machine.listed_open key positive n l ls)
here_listed place zero key positive l ls = inr refl
here_listed place (suc n) key positive l ls = tt

here_closed : (place : ℕ) (any : Option (Any Written)) (all : All Written) (ls : List Level) → Here place (Machine.closed place any all ls)
here_closed place any all [] = inl refl
here_closed place any all (l ∷ ls) = tt

here_ended : (place : ℕ) (any : Option (Any Written)) (all : All Written) (ls : List Level) → Here place (Machine.ended place any all ls)
here_ended place any all [] = tt
here_ended place any all (l ∷ ls) = inl refl

here_term : (place : ℕ) (token : Token) (l : Level) (ls : List Level) → Here place (Machine.step_term place token l ls)
here_term place (Marked Open) l ls = here_opened place (depth_of l) l ls
here_term place (Key key) l ls = tt
here_term place (Value v) l ls = tt
here_term place _ l ls = inl refl

here_group : (place : ℕ) (token : Token) (k : ℕ) (l : Level) (ls : List Level) → Here place (Machine.step_group place token k l ls)
here_group place (Key key) k l ls = tt
here_group place (Marked Open) k l ls = here_opened place k (inner k) (l ∷ ls)
here_group place (Value v) k l ls = tt
here_group place _ k l ls = inl refl

here_key : (place : ℕ) (token : Token) (key : List ℕ) (l : Level) (ls : List Level) → Here place (Machine.step_key place token key l ls)
here_key place (Compare operator) key l ls = tt
here_key place (Marked Not) key l ls = tt
here_key place (Marked In) key l ls = tt
here_key place (Marked Between) key l ls = tt
here_key place _ key l ls = inl refl

here_open_key : (place : ℕ) (token : Token) (key : List ℕ) (k : ℕ) (l : Level) (ls : List Level) → Here place (Machine.step_open_key place token key k l ls)
here_open_key place (Marked Close) key k l ls = tt
here_open_key place (Compare operator) key k l ls = tt
here_open_key place (Marked Not) key k l ls = tt
here_open_key place (Marked In) key k l ls = tt
here_open_key place (Marked Between) key k l ls = tt
here_open_key place _ key k l ls = inl refl

here_operator : (place : ℕ) (token : Token) (key : List ℕ) (operator : Operator) (l : Level) (ls : List Level) → Here place (Machine.step_operator place token key operator l ls)
here_operator place (Value v) key operator (level n any all) ls = tt
here_operator place _ key operator l ls = inl refl

here_not : (place : ℕ) (token : Token) (key : List ℕ) (l : Level) (ls : List Level) → Here place (Machine.step_not place token key l ls)
here_not place (Marked In) key l ls = tt
here_not place (Marked Between) key l ls = tt
here_not place _ key l ls = inl refl

here_list : (place : ℕ) (token : Token) (key : List ℕ) (positive : Bool) (l : Level) (ls : List Level) → Here place (Machine.step_list place token key positive l ls)
here_list place (Marked Open) key positive l ls = here_listed place (depth_of l) key positive l ls
here_list place _ key positive l ls = inl refl

here_item : (place : ℕ) (token : Token) (key : List ℕ) (positive : Bool) (items : List Literal) (l : Level) (ls : List Level) → Here place (Machine.step_item place token key positive items l ls)
here_item place (Value v) key positive items l ls = tt
here_item place _ key positive items l ls = inl refl

here_behind_item : (place : ℕ) (token : Token) (key : List ℕ) (positive : Bool) (items : List Literal) (l : Level) (ls : List Level) → Here place (Machine.step_behind_item place token key positive items l ls)
here_behind_item place (Marked Comma) key positive items l ls = tt
here_behind_item place (Marked Close) key positive items (level n any all) ls = tt
here_behind_item place _ key positive items l ls = inl refl

here_low : (place : ℕ) (token : Token) (key : List ℕ) (positive : Bool) (l : Level) (ls : List Level) → Here place (Machine.step_low place token key positive l ls)
here_low place (Value v) key positive l ls = tt
here_low place _ key positive l ls = inl refl

here_behind_low : (place : ℕ) (token : Token) (key : List ℕ) (positive : Bool) (low : Literal) (l : Level) (ls : List Level) → Here place (Machine.step_behind_low place token key positive low l ls)
here_behind_low place (Marked And) key positive low l ls = tt
here_behind_low place _ key positive low l ls = inl refl

here_high : (place : ℕ) (token : Token) (key : List ℕ) (positive : Bool) (low : Literal) (l : Level) (ls : List Level) → Here place (Machine.step_high place token key positive low l ls)
here_high place (Value v) key positive low (level n any all) ls = tt
here_high place _ key positive low l ls = inl refl

here_literal : (place : ℕ) (token : Token) (literal : Literal) (l : Level) (ls : List Level) → Here place (Machine.step_literal place token literal l ls)
here_literal place (Compare operator) literal l ls = tt
here_literal place _ literal l ls = inl refl

here_at_key : (place : ℕ) (token : Token) (literal : Literal) (operator : Operator) (l : Level) (ls : List Level) → Here place (Machine.step_at_key place token literal operator l ls)
here_at_key place (Key key) literal operator (level n any all) ls = tt
here_at_key place _ literal operator l ls = inl refl

here_closed_key : (place : ℕ) (token : Token) (key : List ℕ) (l : Level) (ls : List Level) → Here place (Machine.step_closed_key place token key l ls)
here_closed_key place (Marked Not) key l ls = tt
here_closed_key place (Marked In) key l ls = tt
here_closed_key place _ key l ls = inl refl

here_closed_not : (place : ℕ) (token : Token) (key : List ℕ) (l : Level) (ls : List Level) → Here place (Machine.step_closed_not place token key l ls)
here_closed_not place (Marked In) key l ls = tt
here_closed_not place _ key l ls = inl refl

here_all : (place : ℕ) (token : Token) (n : ℕ) (any : Option (Any Written)) (all : All Written) (ls : List Level) → Here place (Machine.step_all place token n any all ls)
here_all place (Marked And) n any all ls = tt
here_all place (Marked Or) n any all ls = tt
here_all place (Marked Close) n any all ls = here_closed place any all ls
here_all place End n any all ls = here_ended place any all ls
here_all place _ n any all ls = inl refl

here : (s : State) (place : ℕ) (token : Token) → Here place (step s place token)
here (Machine.at_term l ls) place token = here_term place token l ls
here (Machine.at_group k l ls) place token = here_group place token k l ls
here (Machine.open_key key k l ls) place token = here_open_key place token key k l ls
here (Machine.behind_key key l ls) place token = here_key place token key l ls
here (Machine.behind_operator key operator l ls) place token = here_operator place token key operator l ls
here (Machine.behind_not key l ls) place token = here_not place token key l ls
here (Machine.at_list key positive l ls) place token = here_list place token key positive l ls
here (Machine.at_item key positive items l ls) place token = here_item place token key positive items l ls
here (Machine.behind_item key positive items l ls) place token = here_behind_item place token key positive items l ls
here (Machine.at_low key positive l ls) place token = here_low place token key positive l ls
here (Machine.behind_low key positive low l ls) place token = here_behind_low place token key positive low l ls
here (Machine.at_high key positive low l ls) place token = here_high place token key positive low l ls
here (Machine.behind_literal literal l ls) place token = here_literal place token literal l ls
here (Machine.at_key literal operator l ls) place token = here_at_key place token literal operator l ls
here (Machine.closed_key key l ls) place token = here_closed_key place token key l ls
here (Machine.closed_not key l ls) place token = here_closed_not place token key l ls
here (Machine.behind_all n any all ls) place token = here_all place token n any all ls

-- the token at which it stops, the tokens before it, and those behind it, which don't matter
pub record Stop (xs : List (ℕ × Token)) (s : State) (fault : FilterFault) : Type 0 where
  pub front : List (ℕ × Token)
  pub token : ℕ × Token
  pub rest : List (ℕ × Token)
  pub parts : xs ≡ front ++ token ∷ rest
  pub place : (fault ≡ Syntax token.0) ⊎ (fault ≡ TooDeep)
  pub always : (others : List (ℕ × Token)) → run (front ++ token ∷ others) s ≡ stopped fault

further : (x : ℕ × Token) (xs : List (ℕ × Token)) (s t : State) (fault : FilterFault) → step s x.0 x.1 ≡ go t → Stop xs t fault → Stop (x ∷ xs) s fault
further x xs s t fault e h = record {
  front = x ∷ h.front;
  token = h.token;
  rest = h.rest;
  parts = ap (λ (l : List (ℕ × Token)). x ∷ l) h.parts;
  place = h.place;
  always = λ others. ap (λ (next : Next). follow next (λ u. run (h.front ++ h.token ∷ others) u)) e ∙ h.always others;
}

stop_found : (xs : List (ℕ × Token)) (s : State) (fault : FilterFault) → run xs s ≡ stopped fault → Stop xs s fault
stop_found [] s fault e = absurd (let none : unended ≡ stopped fault = e in cc)
stop_found (x ∷ xs) s fault e = at (step s x.0 x.1) refl (here s x.0 x.1) e (λ t. stop_found xs t fault)
  where
    at : (next : Next) → step s x.0 x.1 ≡ next → Here x.0 next → follow next (λ t. run xs t) ≡ stopped fault → ((t : State) → run xs t ≡ stopped fault → Stop xs t fault) → Stop (x ∷ xs) s fault
    at (go t) p h q ih = further x xs s t fault p (ih t q)
    at (stop f) p h q ih =
        let same : f ≡ fault = cc in
        record {
          front = [];
          token = x;
          rest = xs;
          parts = refl;
          place = subst (λ (g : FilterFault). (g ≡ Syntax x.0) ⊎ (g ≡ TooDeep)) same h;
          always = λ others. ap (λ (next : Next). follow next (λ u. run others u)) p ∙ q;
        }
    at (accept any) p h q ih = absurd (let none : read any ≡ stopped fault = q in cc)

same_begin : (front rest others : List (ℕ × Token)) (x : ℕ × Token) → first_token (front ++ x ∷ rest) ≡ first_token (front ++ x ∷ others)
same_begin [] rest others x = refl
same_begin (y ∷ front) rest others x = refl

first_is : (xs : List (ℕ × Token)) → first_token xs ≡ End → ((place : ℕ) (ys : List (ℕ × Token)) → xs ≡ (place, End) ∷ ys → ⊥) → xs ≡ []
first_is [] e h = refl
first_is ((place, token) ∷ xs) e h = absurd (h place xs (ap (λ (t : Token). (place, t) ∷ xs) e))

not_begun : (fault : FilterFault) (xs : List (ℕ × Token)) → StopsFilter fault xs → (place : ℕ) (ys : List (ℕ × Token)) → xs ≡ (place, End) ∷ ys → ⊥
not_begun fault xs (inl h) place ys e = h.0 place End ys e refl
not_begun fault xs (inr h) place ys e = any_not_end h.0 64 xs h.1 ys h.2 (place, e)

never_empty : (front rest : List (ℕ × Token)) (x : ℕ × Token) → front ++ x ∷ rest ≡ [] → ⊥
never_empty [] rest x e = cc
never_empty (y ∷ front) rest x e = cc

goes_on : (fault : FilterFault) (xs : List (ℕ × Token)) (stops : StopsFilter fault xs) (s : Stop xs start fault) (tree : Option (Any Written)) (others : List (ℕ × Token)) → IsFilter tree (s.front ++ s.token ∷ others) → ⊥
goes_on fault xs stops s None others h =
    let begins : first_token xs ≡ End = ap first_token s.parts ∙ same_begin s.front s.rest others s.token ∙ ap first_token h.1.1 in
    never_empty s.front s.rest s.token (sym s.parts ∙ first_is xs begins (not_begun fault xs stops))
goes_on fault xs stops s (Some any) others h =
    let e : stopped fault ≡ read any = sym (s.always others) ∙ filter_run any (s.front ++ s.token ∷ others) h in
    cc

pub no_filter : NoFilterGoesOn
no_filter fault xs stops =
    let s = stop_found xs start fault (stop_run fault xs stops) in
    (s.front, s.token, s.rest, s.parts, s.place, goes_on fault xs stops s)
