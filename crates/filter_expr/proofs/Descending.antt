-- Tokens up to a last one are a filter, or stop to be one; so every text is read or refused.
use Rattle.std.proofs.Common.{◌≡◌, ◌≢◌, ℕ, zero, suc, ◌+◌, ◌-◌, ◌<◌, ◌≤◌, Bool, true, false, cond, List, [], ◌∷◌, length, drop, refl, sym, ap, ◌∙◌, subst, arith, inl, inr, Option, None, Some}
use Rattle.std.specs.Prelude.{◌⊎◌}
use Rattle.cat_values.specs.declared.storage.Column.{Column}
use Rattle.filter_expr.specs.declared.token.Mark.TheVariants.{Open, Close, And, Or}
use Rattle.filter_expr.specs.declared.token.Literal.{Literal}
use Rattle.filter_expr.specs.declared.token.Operator.{Operator}
use Rattle.filter_expr.specs.declared.token.Token.{Token}
use Rattle.filter_expr.specs.declared.token.Token.TheVariants.{Marked, Compare, Key, Value, End}
use Rattle.filter_expr.specs.declared.tree.Test.TheVariants.{Is}
use Rattle.filter_expr.specs.declared.tree.Written.{Written}
use Rattle.filter_expr.specs.declared.expr.Comparison.{Comparison}
use Rattle.filter_expr.specs.declared.fault.FilterFault.{FilterFault}
use Rattle.filter_expr.specs.declared.fault.FilterFault.TheVariants.{Syntax, TooDeep, UnknownKey, WrongType, NoMemory}
use Rattle.filter_expr.specs.Grammar
use Rattle.filter_expr.specs.Grammar.{IsMarked, IsAKey, IsAnOperator, IsNotFirst, StopsMark, IsTest, StopsTest, IsMembership, StopsMembership, mirrored, IsOpen, IsKeyClosed, IsAny, IsAll, IsTerm, BeginsTerm, GoesOn, StopsAny, StopsAll, StopsTerm, IsEnd, IsFilter, StopsFilter}
use Rattle.filter_expr.specs.Keys.{bound, first_unknown, first_wrong}
use Rattle.filter_expr.specs.Laws.{TextsAreReadOrRefused}
use Rattle.filter_expr.specs.Reading.{IsFault, Reads}
use Rattle.filter_expr.specs.Tokens.{is_last, is_space, token_at, tokens, tokens_behind}
use Rattle.filter_expr.specs.Trees.{Any, All, lone, or_else, one, and_also, compare, group, comparisons, tree_map}
use Rattle.filter_expr.proofs.Literals.{first_token}
use Rattle.filter_expr.proofs.Places.{no_filter}
use Rattle.filter_expr.proofs.Stopping.{refuses_also}
use Rattle.filter_expr.proofs.Taking.{Places, AreEnded, Front, front_of, Step, step, Took, Outcome, refused, not_first, either, key_or_not, literal_or_not, operator_or_not, marked_or_not, needed, wanted, test_at, membership_at}

-- ---- comparisons with no parenthesis

key_test : (n : ℕ) (xs : Places) (key : List ℕ) (s : Step (Key key) xs) → Outcome (IsTest n) (StopsTest n) s.rest → Outcome (IsTerm n) (StopsTerm n) xs
key_test n xs key s (inl t) =
    inl (record { value = compare (record { key = key; test = t.value }); rest = t.rest; ended = t.ended; within = omega (arith, s.shorter, t.within); holds = inl (s.rest, s.next, t.holds) })
key_test n xs key s (inr h) = inr (h.0, Grammar.behind_key n h.0 xs (key, s.rest, s.next, h.1))

literal_key : (n : ℕ) (xs : Places) (literal : Literal) (s : Step (Value literal) xs) (operator : Operator) (o : Step (Compare operator) s.rest) (f : Front o.rest) → IsAKey f.token ⊎ (IsAKey f.token → ⊥) → Outcome (IsTerm n) (StopsTerm n) xs
literal_key n xs literal s operator o f (inl is) =
    let k = step (Key is.0) o.rest f is.1 refl in
    inl (record {
      value = compare (record { key = is.0; test = Is (mirrored operator) literal });
      rest = k.rest;
      ended = k.ended;
      within = omega (arith, s.shorter, o.shorter, k.shorter);
      holds = inr (inl (literal, operator, s.rest, o.rest, s.next, o.next, k.next, refl));
    })
literal_key n xs literal s operator o f (inr none) =
    let h = refused IsAKey o.rest f none in
    inr (h.0, Grammar.behind_literal n h.0 xs (inr (literal, operator, s.rest, o.rest, s.next, o.next, h.1)))

literal_operator : (n : ℕ) (xs : Places) (literal : Literal) (s : Step (Value literal) xs) (f : Front s.rest) → IsAnOperator f.token ⊎ (IsAnOperator f.token → ⊥) → Outcome (IsTerm n) (StopsTerm n) xs
literal_operator n xs literal s f (inl is) =
    let o = step (Compare is.0) s.rest f is.1 refl in
    let g = front_of o.rest o.ended in
    literal_key n xs literal s is.0 o g (key_or_not g.token)
literal_operator n xs literal s f (inr none) =
    let h = refused IsAnOperator s.rest f none in
    inr (h.0, Grammar.behind_literal n h.0 xs (inl (literal, s.rest, s.next, h.1)))

-- ---- a parenthesis

-- a key alone, and the parenthesis closed
record Closed (xs : Places) : Type 0 where
  pub key : List ℕ
  pub at_key : Step (Key key) xs
  pub at_close : Step (Marked Close) at_key.rest

same_rest : (xs a b : Places) (x y : ℕ × Token) → xs ≡ x ∷ a → xs ≡ y ∷ b → a ≡ b
same_rest xs a b x y p q = ap (λ (l : Places). drop 1 l) (sym p ∙ q)

close_told : (xs : Places) (key : List ℕ) (s : Step (Key key) xs) → Step (Marked Close) s.rest ⊎ IsNotFirst (IsMarked Close) s.rest → Closed xs ⊎ (IsKeyClosed xs → ⊥)
close_told xs key s (inl c) = inl (record { key = key; at_key = s; at_close = c })
close_told xs key s (inr none) =
    inr (λ h. let same : s.rest ≡ h.1 = same_rest xs s.rest h.1 (s.next.0, Key key) (h.3.0, Key h.0) s.next.1 h.3.1 in
    none h.4.0 (Marked Close) h.2 (same ∙ h.4.1) refl)

closed_first : (xs : Places) (f : Front xs) → IsAKey f.token ⊎ (IsAKey f.token → ⊥) → Closed xs ⊎ (IsKeyClosed xs → ⊥)
closed_first xs f (inl is) = let s = step (Key is.0) xs f is.1 refl in close_told xs is.0 s (wanted Close s.rest s.ended)
closed_first xs f (inr none) =
    inr (λ h. let same : f.token ≡ Key h.0 = ap first_token (sym f.is ∙ h.3.1) in none (h.0, same))

closed_or_not : (xs : Places) → AreEnded xs → Closed xs ⊎ (IsKeyClosed xs → ⊥)
closed_or_not xs e = let f = front_of xs e in closed_first xs f (key_or_not f.token)

abbrev IsAnyAlone : ℕ → Any Written → Places → Places → Type 0
IsAnyAlone n any xs ys = IsAny n any xs ys × IsNotFirst GoesOn ys

abbrev IsAllAlone : ℕ → All Written → Places → Places → Type 0
IsAllAlone n all xs ys = IsAll n all xs ys × IsNotFirst (IsMarked And) ys

-- What stands inside a parenthesis is one, or stops to be; so what it stands in does.
module _ (n : ℕ) (inside : (k : ℕ) → n ≡ k + 1 → (xs : Places) → AreEnded xs → Outcome (IsAnyAlone k) (StopsAny k) xs) where
  closed_test : (k : ℕ) (xs a : Places) → IsOpen n k xs a → length a ≤ length xs → (c : Closed a) → Outcome (IsMembership n) (StopsMembership n) c.at_close.rest → Outcome (IsTerm n) (StopsTerm n) xs
  closed_test k xs a opened within c (inl t) =
      inl (record {
        value = compare (record { key = c.key; test = t.value });
        rest = t.rest;
        ended = t.ended;
        within = omega (arith, within, c.at_key.shorter, c.at_close.shorter, t.within);
        holds = inr (inr (k, a, opened, (c.at_key.rest, c.at_close.rest, c.at_key.next, c.at_close.next, t.holds)));
      })
  closed_test k xs a opened within c (inr h) = inr (h.0, Grammar.behind_closed_key n h.0 xs (k, a, opened, (c.key, c.at_key.rest, c.at_close.rest, c.at_key.next, c.at_close.next, h.1)))

  group_closed : (k : ℕ) (xs a : Places) → IsOpen n k xs a → length a ≤ length xs → (t : Took (IsAnyAlone k) a) → Step (Marked Close) t.rest ⊎ ((fault : FilterFault) × StopsMark Close fault t.rest) → Outcome (IsTerm n) (StopsTerm n) xs
  group_closed k xs a opened within t (inl s) =
      inl (record { value = group t.value; rest = s.rest; ended = s.ended; within = omega (arith, within, t.within, s.shorter); holds = (k, a, t.rest, opened, t.holds.0, s.next) })
  group_closed k xs a opened within t (inr h) =
      inr (h.0, Grammar.behind_group n k h.0 xs a t.rest t.value opened t.holds.0 (refuses_also (IsMarked Close) GoesOn h.0 t.rest h.1 t.holds.1))

  group_inside : (k : ℕ) (xs a : Places) → IsOpen n k xs a → length a ≤ length xs → (IsKeyClosed a → ⊥) → Outcome (IsAnyAlone k) (StopsAny k) a → Outcome (IsTerm n) (StopsTerm n) xs
  group_inside k xs a opened within none (inl t) = group_closed k xs a opened within t (needed Close t.rest t.ended)
  group_inside k xs a opened within none (inr h) = inr (h.0, Grammar.in_group n k h.0 xs a opened none h.1)

  parenthesis : (k : ℕ) (xs a : Places) → IsOpen n k xs a → AreEnded a → length a ≤ length xs → Closed a ⊎ (IsKeyClosed a → ⊥) → Outcome (IsTerm n) (StopsTerm n) xs
  parenthesis k xs a opened ended within (inl c) = closed_test k xs a opened within c (membership_at n c.at_close.rest c.at_close.ended)
  parenthesis k xs a opened ended within (inr none) = group_inside k xs a opened within none (inside k opened.0 a ended)

  open_term : (m : ℕ) → n ≡ m → (xs : Places) → Step (Marked Open) xs → Outcome (IsTerm n) (StopsTerm n) xs
  open_term zero is xs s = inr (TooDeep, Grammar.one_too_many n TooDeep xs (is, (s.rest, s.next), refl))
  open_term (suc k) is xs s = parenthesis k xs s.rest (omega (arith, is), s.next) s.ended (omega (arith, s.shorter)) (closed_or_not s.rest s.ended)

  -- ---- terms
  term_first : (xs : Places) (f : Front xs) → BeginsTerm f.token ⊎ (BeginsTerm f.token → ⊥) → Outcome (IsTerm n) (StopsTerm n) xs
  term_first xs f (inl (inl is)) = open_term n refl xs (step (Marked Open) xs f is refl)
  term_first xs f (inl (inr (inl is))) = let s = step (Key is.0) xs f is.1 refl in key_test n xs is.0 s (test_at n s.rest s.ended)
  term_first xs f (inl (inr (inr is))) =
      let s = step (Value is.0) xs f is.1 refl in
      let g = front_of s.rest s.ended in
      literal_operator n xs is.0 s g (operator_or_not g.token)
  term_first xs f (inr none) = let h = refused BeginsTerm xs f none in inr (h.0, Grammar.no_term n h.0 xs h.1)

  term_at : (xs : Places) → AreEnded xs → Outcome (IsTerm n) (StopsTerm n) xs
  term_at xs e = let f = front_of xs e in term_first xs f (either (marked_or_not Open f.token) (either (key_or_not f.token) (literal_or_not f.token)))

  -- ---- what and joins
  all_term : (fuel : ℕ) → ((xs a : Places) (all : All Written) → IsAll n all xs a → AreEnded a → length a ≤ length xs → length a < fuel → Outcome (IsAllAlone n) (StopsAll n) xs) → (xs a : Places) (all : All Written) → IsAll n all xs a → length a ≤ length xs → length a < suc fuel
      → (s : Step (Marked And) a) → Outcome (IsTerm n) (StopsTerm n) s.rest → Outcome (IsAllAlone n) (StopsAll n) xs
  all_term fuel others xs a all p within few s (inl t) = others xs t.rest (and_also all t.value) (a, s.rest, p, s.next, t.holds) t.ended (omega (arith, within, s.shorter, t.within)) (omega (arith, few, s.shorter, t.within))
  all_term fuel others xs a all p within few s (inr h) = inr (h.0, Grammar.all_later n h.0 xs a s.rest all p s.next h.1)

  all_next : (fuel : ℕ) → ((xs a : Places) (all : All Written) → IsAll n all xs a → AreEnded a → length a ≤ length xs → length a < fuel → Outcome (IsAllAlone n) (StopsAll n) xs) → (xs a : Places) (all : All Written) → IsAll n all xs a → AreEnded a → length a ≤ length xs → length a < suc fuel
      → Step (Marked And) a ⊎ IsNotFirst (IsMarked And) a → Outcome (IsAllAlone n) (StopsAll n) xs
  all_next fuel others xs a all p e within few (inl s) = all_term fuel others xs a all p within few s (term_at s.rest s.ended)
  all_next fuel others xs a all p e within few (inr none) = inl (record { value = all; rest = a; ended = e; within = within; holds = (p, none) })

  all_loop : (fuel : ℕ) (xs a : Places) (all : All Written) → IsAll n all xs a → AreEnded a → length a ≤ length xs → length a < fuel → Outcome (IsAllAlone n) (StopsAll n) xs
  all_loop zero xs a all p e within few = absurd (omega (arith, few))
  all_loop (suc fuel) xs a all p e within few = all_next fuel (all_loop fuel) xs a all p e within few (wanted And a e)

  all_first : (xs : Places) → Outcome (IsTerm n) (StopsTerm n) xs → Outcome (IsAllAlone n) (StopsAll n) xs
  all_first xs (inl t) = all_loop (suc (length t.rest)) xs t.rest (one t.value) t.holds t.ended t.within (omega arith)
  all_first xs (inr h) = inr (h.0, Grammar.all_first n h.0 xs h.1)

  all_at : (xs : Places) → AreEnded xs → Outcome (IsAllAlone n) (StopsAll n) xs
  all_at xs e = all_first xs (term_at xs e)

  -- ---- what or joins
  no_more : (a : Places) → IsNotFirst (IsMarked And) a → IsNotFirst (IsMarked Or) a → IsNotFirst GoesOn a
  no_more a ands ors place token ys is (inl h) = ands place token ys is h
  no_more a ands ors place token ys is (inr h) = ors place token ys is h

  any_all : (fuel : ℕ) → ((xs a : Places) (any : Any Written) → IsAny n any xs a → IsNotFirst (IsMarked And) a → AreEnded a → length a ≤ length xs → length a < fuel → Outcome (IsAnyAlone n) (StopsAny n) xs)
      → (xs a : Places) (any : Any Written) → IsAny n any xs a → length a ≤ length xs → length a < suc fuel → (s : Step (Marked Or) a) → Outcome (IsAllAlone n) (StopsAll n) s.rest → Outcome (IsAnyAlone n) (StopsAny n) xs
  any_all fuel others xs a any p within few s (inl t) = others xs t.rest (or_else any t.value) (a, s.rest, p, s.next, t.holds.0) t.holds.1 t.ended (omega (arith, within, s.shorter, t.within)) (omega (arith, few, s.shorter, t.within))
  any_all fuel others xs a any p within few s (inr h) = inr (h.0, Grammar.any_later n h.0 xs a s.rest any p s.next h.1)

  any_next : (fuel : ℕ) → ((xs a : Places) (any : Any Written) → IsAny n any xs a → IsNotFirst (IsMarked And) a → AreEnded a → length a ≤ length xs → length a < fuel → Outcome (IsAnyAlone n) (StopsAny n) xs)
      → (xs a : Places) (any : Any Written) → IsAny n any xs a → IsNotFirst (IsMarked And) a → AreEnded a → length a ≤ length xs → length a < suc fuel → Step (Marked Or) a ⊎ IsNotFirst (IsMarked Or) a → Outcome (IsAnyAlone n) (StopsAny n) xs
  any_next fuel others xs a any p ands e within few (inl s) = any_all fuel others xs a any p within few s (all_at s.rest s.ended)
  any_next fuel others xs a any p ands e within few (inr ors) = inl (record { value = any; rest = a; ended = e; within = within; holds = (p, no_more a ands ors) })

  any_loop : (fuel : ℕ) (xs a : Places) (any : Any Written) → IsAny n any xs a → IsNotFirst (IsMarked And) a → AreEnded a → length a ≤ length xs → length a < fuel → Outcome (IsAnyAlone n) (StopsAny n) xs
  any_loop zero xs a any p ands e within few = absurd (omega (arith, few))
  any_loop (suc fuel) xs a any p ands e within few = any_next fuel (any_loop fuel) xs a any p ands e within few (wanted Or a e)

  any_first : (xs : Places) → Outcome (IsAllAlone n) (StopsAll n) xs → Outcome (IsAnyAlone n) (StopsAny n) xs
  any_first xs (inl t) = any_loop (suc (length t.rest)) xs t.rest (lone t.value) t.holds.0 t.holds.1 t.ended t.within (omega arith)
  any_first xs (inr h) = inr (h.0, Grammar.any_first n h.0 xs h.1)

  any_within : (xs : Places) → AreEnded xs → Outcome (IsAnyAlone n) (StopsAny n) xs
  any_within xs e = any_first xs (all_at xs e)

any_at : (n : ℕ) (xs : Places) → AreEnded xs → Outcome (IsAnyAlone n) (StopsAny n) xs
any_at zero = any_within zero (λ k none. absurd (omega (arith, none)))
any_at (suc n) = any_within (suc n) (λ k is. let same : n ≡ k = omega (arith, is) in subst (λ (m : ℕ). (xs : Places) → AreEnded xs → Outcome (IsAnyAlone m) (StopsAny m) xs) same (any_at n))

-- ---- whole filters

end_or_not : (token : Token) → IsEnd token ⊎ (IsEnd token → ⊥)
end_or_not End = inl refl
end_or_not token = inr (λ (e : token ≡ End). cc)

abbrev Filtered : Places → Type 0
Filtered xs = ((written : Option (Any Written)) × IsFilter written xs) ⊎ ((fault : FilterFault) × StopsFilter fault xs)

filter_end : (xs : Places) (t : Took (IsAnyAlone 64) xs) (f : Front t.rest) → IsEnd f.token ⊎ (IsEnd f.token → ⊥) → Filtered xs
filter_end xs t f (inl is) = inl (Some t.value, (t.rest, t.holds.0, (f.rest, (f.place, f.is ∙ ap (λ (u : Token). (f.place, u) ∷ f.rest) is))))
filter_end xs t f (inr none) =
    let h = refused IsEnd t.rest f none in
    inr (h.0, inr (t.value, t.rest, t.holds.0, refuses_also IsEnd GoesOn h.0 t.rest h.1 t.holds.1))

filter_any : (xs : Places) → IsNotFirst IsEnd xs → Outcome (IsAnyAlone 64) (StopsAny 64) xs → Filtered xs
filter_any xs none (inl t) = let f = front_of t.rest t.ended in filter_end xs t f (end_or_not f.token)
filter_any xs none (inr h) = inr (h.0, inl (none, h.1))

filter_first : (xs : Places) → AreEnded xs → (f : Front xs) → IsEnd f.token ⊎ (IsEnd f.token → ⊥) → Filtered xs
filter_first xs e f (inl is) = inl (None, (f.rest, (f.place, f.is ∙ ap (λ (u : Token). (f.place, u) ∷ f.rest) is)))
filter_first xs e f (inr none) = filter_any xs (not_first IsEnd xs f none) (any_at 64 xs e)

filter_at : (xs : Places) → AreEnded xs → Filtered xs
filter_at xs e = let f = front_of xs e in filter_first xs e f (end_or_not f.token)

-- ---- texts

-- a token, and those behind it where it isn't the last
with_others : (place : ℕ) (token : Token) (xs : Places) (last : Bool) → is_last token ≡ last → AreEnded xs → AreEnded ((place, token) ∷ cond last [] xs)
with_others place token xs true is e = is
with_others place token [] false is e = absurd e
with_others place token (x ∷ xs) false is e = e

either_ends : (space : Bool) (xs ys : Places) → AreEnded xs → AreEnded ys → AreEnded (cond space xs ys)
either_ends true xs ys p q = p
either_ends false xs ys p q = q

are_ended : (taken place : ℕ) (bytes : List ℕ) → AreEnded (tokens_behind taken place bytes)
are_ended taken place [] = refl
are_ended (suc taken) place (byte ∷ bytes) = are_ended taken (place + 1) bytes
are_ended zero place (byte ∷ bytes) =
    either_ends (is_space byte) _ _ (are_ended 0 (place + 1) bytes)
    (with_others place (token_at (byte ∷ bytes)).0 _ (is_last (token_at (byte ∷ bytes)).0) refl (are_ended ((token_at (byte ∷ bytes)).1 - 1) (place + 1) bytes))

abbrev Told : List ℕ → List Column → Type 0
Told text keys = ((tree : Option (Any Comparison)) × Reads text keys tree) ⊎ ((fault : FilterFault) × (fault ≢ NoMemory) × IsFault text keys fault)

wrong_told : (text : List ℕ) (keys : List Column) (written : Option (Any Written)) (unknown wrong : Option (List ℕ)) → IsFilter written (tokens text) → first_unknown keys (comparisons written) ≡ unknown → first_wrong keys (comparisons written) ≡ wrong → Told text keys
wrong_told text keys written (Some key) wrong p q r = inr (UnknownKey key, (λ (e : UnknownKey key ≡ NoMemory). cc), (written, p, q))
wrong_told text keys written None (Some key) p q r = inr (WrongType key, (λ (e : WrongType key ≡ NoMemory). cc), (written, p, q, r))
wrong_told text keys written None None p q r = inl (tree_map (bound keys) written, (written, p, q, r, refl))

stop_told : (text : List ℕ) (keys : List Column) (fault : FilterFault) (place : ℕ) → (fault ≡ Syntax place) ⊎ (fault ≡ TooDeep) → StopsFilter fault (tokens text) → Told text keys
stop_told text keys fault place (inl is) h = inr (Syntax place, (λ (e : Syntax place ≡ NoMemory). cc), subst (λ (f : FilterFault). StopsFilter f (tokens text)) is h)
stop_told text keys fault place (inr is) h = inr (TooDeep, (λ (e : TooDeep ≡ NoMemory). cc), subst (λ (f : FilterFault). StopsFilter f (tokens text)) is h)

text_told : (text : List ℕ) (keys : List Column) → Filtered (tokens text) → Told text keys
text_told text keys (inl h) = wrong_told text keys h.0 (first_unknown keys (comparisons h.0)) (first_wrong keys (comparisons h.0)) h.1 refl refl
text_told text keys (inr h) = let s = no_filter h.0 (tokens text) h.1 in stop_told text keys h.0 s.1.0 s.4 h.1

pub read_or_refused : TextsAreReadOrRefused
read_or_refused text keys = text_told text keys (filter_at (tokens text) (are_ended 0 0 text))
