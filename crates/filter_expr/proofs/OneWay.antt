-- A text is read in one way, or refused in one way.
use Rattle.std.proofs.Common.{◌≡◌, ◌≢◌, ℕ, List, [], refl, sym, ap, ◌∙◌, inl, inr, Option, None, Some}
use Rattle.std.specs.Prelude.{◌⊎◌}
use Rattle.cat_values.specs.declared.storage.Column.{Column}
use Rattle.filter_expr.specs.declared.expr.Comparison.{Comparison}
use Rattle.filter_expr.specs.declared.fault.FilterFault.{FilterFault}
use Rattle.filter_expr.specs.declared.fault.FilterFault.TheVariants.{Syntax, TooDeep, UnknownKey, WrongType, NoMemory}
use Rattle.filter_expr.specs.declared.token.Token.{Token}
use Rattle.filter_expr.specs.declared.token.Token.TheVariants.{End}
use Rattle.filter_expr.specs.declared.tree.Written.{Written}
use Rattle.filter_expr.specs.Grammar.{IsEnd, IsFilter, GoesOn, StopsFilter}
use Rattle.filter_expr.specs.Keys.{bound, first_unknown, first_wrong}
use Rattle.filter_expr.specs.Laws.{ReadTextsNotRefused, TextsReadOneWay, TextsRefusedOneWay}
use Rattle.filter_expr.specs.Reading.{IsFault, Reads}
use Rattle.filter_expr.specs.Tokens.{tokens}
use Rattle.filter_expr.specs.Trees.{Any, comparisons, tree_map}
use Rattle.filter_expr.proofs.Machine.{State, Next, run, follow, level, at_term, stopped, read}
use Rattle.filter_expr.proofs.Walking.{over, refused}
use Rattle.filter_expr.proofs.Terms.{any_not_end, behind_any, end_behind, over_any, refuse_end, stops_any}

abbrev pub start : State
start = at_term (level 64 None None) []

pub filter_run : (any : Any Written) (xs : List (ℕ × Token)) → IsFilter (Some any) xs → run xs start ≡ read any
filter_run any xs h =
    over_any any 64 [] xs h.0 h.1
    ∙ over End h.0 h.2.0 (behind_any 64 any []) h.2.1
    ∙ ap (λ (next : Next). follow next (λ t. run h.2.0 t)) (end_behind 64 any h.2.1.0)

pub stop_run : (fault : FilterFault) (xs : List (ℕ × Token)) → StopsFilter fault xs → run xs start ≡ stopped fault
stop_run fault xs (inl h) = stops_any 64 fault xs h.1 []
stop_run fault xs (inr h) =
    over_any h.0 64 [] xs h.1 h.2
    ∙ refused (λ token. IsEnd token ⊎ GoesOn token) fault h.1 (behind_any 64 h.0 []) (refuse_end 64 h.0) h.3

one_tree : (a b : Option (Any Written)) (xs : List (ℕ × Token)) → IsFilter a xs → IsFilter b xs → a ≡ b
one_tree None None xs p q = refl
one_tree None (Some b) xs p q = absurd (any_not_end b 64 xs q.0 p.0 q.1 p.1)
one_tree (Some a) None xs p q = absurd (any_not_end a 64 xs p.0 q.0 p.1 q.1)
one_tree (Some a) (Some b) xs p q =
    let e : read a ≡ read b = sym (filter_run a xs p) ∙ filter_run b xs q in
    cc

one_stop : (f g : FilterFault) (xs : List (ℕ × Token)) → StopsFilter f xs → StopsFilter g xs → f ≡ g
one_stop f g xs p q =
    let e : stopped f ≡ stopped g = sym (stop_run f xs p) ∙ stop_run g xs q in
    cc

not_both : (f : FilterFault) (tree : Option (Any Written)) (xs : List (ℕ × Token)) → StopsFilter f xs → IsFilter tree xs → ⊥
not_both f None xs (inl h) q = h.0 q.1.0 End q.0 q.1.1 refl
not_both f None xs (inr h) q = any_not_end h.0 64 xs h.1 q.0 h.2 q.1
not_both f (Some any) xs p q =
    let e : stopped f ≡ read any = sym (stop_run f xs p) ∙ filter_run any xs q in
    cc

some_not_none : {A : Type 0} (x : A) (y : Option A) → y ≡ None → y ≡ Some x → ⊥
some_not_none x y p q = let e : None ≡ Some x = sym p ∙ q in cc

-- what a text's first tree says, its other one says too
module _ (text : List ℕ) (keys : List Column) where
  same_unknown : (a b : Option (Any Written)) → IsFilter a (tokens text) → IsFilter b (tokens text) → first_unknown keys (comparisons a) ≡ first_unknown keys (comparisons b)
  same_unknown a b p q = ap (λ (t : Option (Any Written)). first_unknown keys (comparisons t)) (one_tree a b (tokens text) p q)

  same_wrong : (a b : Option (Any Written)) → IsFilter a (tokens text) → IsFilter b (tokens text) → first_wrong keys (comparisons a) ≡ first_wrong keys (comparisons b)
  same_wrong a b p q = ap (λ (t : Option (Any Written)). first_wrong keys (comparisons t)) (one_tree a b (tokens text) p q)

  one_fault : (f g : FilterFault) → f ≢ NoMemory → g ≢ NoMemory → IsFault text keys f → IsFault text keys g → f ≡ g
  one_fault (Syntax p) (Syntax q) h k x y = one_stop (Syntax p) (Syntax q) (tokens text) x y
  one_fault (Syntax p) TooDeep h k x y = one_stop (Syntax p) TooDeep (tokens text) x y
  one_fault (Syntax p) (UnknownKey b) h k x y = absurd (not_both (Syntax p) y.0 (tokens text) x y.1)
  one_fault (Syntax p) (WrongType b) h k x y = absurd (not_both (Syntax p) y.0 (tokens text) x y.1)
  one_fault TooDeep (Syntax q) h k x y = one_stop TooDeep (Syntax q) (tokens text) x y
  one_fault TooDeep TooDeep h k x y = refl
  one_fault TooDeep (UnknownKey b) h k x y = absurd (not_both TooDeep y.0 (tokens text) x y.1)
  one_fault TooDeep (WrongType b) h k x y = absurd (not_both TooDeep y.0 (tokens text) x y.1)
  one_fault (UnknownKey a) (Syntax q) h k x y = absurd (not_both (Syntax q) x.0 (tokens text) y x.1)
  one_fault (UnknownKey a) TooDeep h k x y = absurd (not_both TooDeep x.0 (tokens text) y x.1)
  one_fault (UnknownKey a) (UnknownKey b) h k x y =
      let e : Some a ≡ Some b = sym x.2 ∙ same_unknown x.0 y.0 x.1 y.1 ∙ y.2 in
      cc
  one_fault (UnknownKey a) (WrongType b) h k x y = absurd (some_not_none a _ (same_unknown x.0 y.0 x.1 y.1 ∙ y.2) x.2)
  one_fault (WrongType a) (Syntax q) h k x y = absurd (not_both (Syntax q) x.0 (tokens text) y x.1)
  one_fault (WrongType a) TooDeep h k x y = absurd (not_both TooDeep x.0 (tokens text) y x.1)
  one_fault (WrongType a) (UnknownKey b) h k x y = absurd (some_not_none b _ (same_unknown y.0 x.0 y.1 x.1 ∙ x.2) y.2)
  one_fault (WrongType a) (WrongType b) h k x y =
      let e : Some a ≡ Some b = sym x.3 ∙ same_wrong x.0 y.0 x.1 y.1 ∙ y.3 in
      cc
  one_fault NoMemory g h k x y = absurd (h refl)
  one_fault f NoMemory h k x y = absurd (k refl)

  none_read : (tree : Option (Any Comparison)) (f : FilterFault) → f ≢ NoMemory → Reads text keys tree → IsFault text keys f → ⊥
  none_read tree (Syntax p) h r x = not_both (Syntax p) r.0 (tokens text) x r.1
  none_read tree TooDeep h r x = not_both TooDeep r.0 (tokens text) x r.1
  none_read tree (UnknownKey a) h r x = some_not_none a _ (same_unknown x.0 r.0 x.1 r.1 ∙ r.2) x.2
  none_read tree (WrongType a) h r x = some_not_none a _ (same_wrong x.0 r.0 x.1 r.1 ∙ r.3) x.3
  none_read tree NoMemory h r x = h refl

pub read_one_way : TextsReadOneWay
read_one_way text keys tree other p q = p.4 ∙ ap (tree_map (bound keys)) (one_tree p.0 q.0 (tokens text) p.1 q.1) ∙ sym q.4

pub refused_one_way : TextsRefusedOneWay
refused_one_way text keys f g h k x y = one_fault text keys f g h k x y

pub not_refused : ReadTextsNotRefused
not_refused text keys tree f h r x = none_read text keys tree f h r x
