use Rattle.std.proofs.Common.{rules, ◌≡◌, ◌∙◌, ap, sym, subst, map, length, List, ℕ, [], ◌∷◌, ◌++◌, refl, true, false}
use Rattle.std.specs.List.{list_any}
use Rattle.std.specs.Str.{bytes_eq}
use Rattle.std.proofs.lemmas.Bool.{false≢true}
use Rattle.std.proofs.lemmas.Iterator.{YieldsList-from_slice}
use Rattle.std.proofs.lemmas.Iterator.Consumers.{YieldsList-from_chain, YieldsList-so_far, YieldsList-turn, YieldsList-end}
use Rattle.cat_rules.specs.Tables.{names_of}
use Rattle.cat_rules.proofs.Apart.{has_none, has_more, names_push, distinct_none, distinct_more, is_old, is_new, apart_from_distinct, seen_twice}
use Rattle.cat_rules.proofs.columns.are_apart.Goals as goal

pub loop-column-init : goal.loop-column-init
loop-column-init c = (search rules, search rules, λ q. has_none _ q c.new-seen.ensures.empty, distinct_none)

pub loop-column-preserved : goal.loop-column-preserved
loop-column-preserved c =
    let name = c.as_str.ensures.bytes in
    let push = names_push c.loop-column.yielded c.in-Some.column in
    let fresh : list_any (bytes_eq c.in-Some.column.now.name) (names_of (map (λ c. c.now) c.loop-column.yielded)) ≡ false =
    subst (λ (x : List ℕ). list_any (bytes_eq x) (names_of (map (λ c. c.now) c.loop-column.yielded)) ≡ false) name (sym (c.loop-column.invariant.2 c.as_str.result.now) ∙ is_new _ _ c.in_ok-insert.ensures.added c.if-not-branch.false) in (
      search rules,
      search rules,
      λ q. has_more _ _ c.as_str.result (names_of (map (λ c. c.now) c.loop-column.yielded)) c.in_ok-insert.ensures.updates c.loop-column.invariant.2 q
          ∙ ap (list_any (bytes_eq q)) (ap (λ (x : List ℕ). names_of (map (λ c. c.now) c.loop-column.yielded) ++ x ∷ []) name ∙ sym push),
      rw push (distinct_more _ _ c.loop-column.invariant.3 fresh),
    )

pub returns-then-not-branch : goal.returns-then-not-branch
returns-then-not-branch c =
    let road = YieldsList-from_chain (YieldsList-from_slice c.args.cols.now (cc)) (YieldsList-from_slice c.args.keys.now (cc)) (cc) (cc) in
    let turn = YieldsList-turn road c.loop-column.yielded _ c.loop-column.yielded_by _ _ _ c.in-Some.is c.next.ensures.steps in
    let known : list_any (bytes_eq c.in-Some.column.now.name) (names_of (map (λ c. c.now) c.loop-column.yielded)) ≡ true =
    subst (λ (x : List ℕ). list_any (bytes_eq x) (names_of (map (λ c. c.now) c.loop-column.yielded)) ≡ true) c.as_str.ensures.bytes (sym (c.loop-column.invariant.2 c.as_str.result.now) ∙ is_old _ _ c.in_ok-insert.ensures.added c.if-not-branch.true) in (
      λ h. absurd (false≢true h),
      λ apart. absurd (seen_twice c.args.cols.now c.args.keys.now _ c.in-Some.column.now (length c.loop-column.yielded) (YieldsList-so_far road c.loop-column.yielded _ c.loop-column.yielded_by) turn.0 turn.1 known apart),
    )

pub returns : goal.returns
returns c =
    let road = YieldsList-from_chain (YieldsList-from_slice c.args.cols.now (cc)) (YieldsList-from_slice c.args.keys.now (cc)) (cc) (cc) in
    let all = YieldsList-end road c.loop-column.yielded _ c.loop-column.yielded_by _ _ c.in-None.is c.next.ensures.steps in
    (λ _. apart_from_distinct c.args.cols.now c.args.keys.now _ all.0 c.loop-column.invariant.3, λ _. refl)
