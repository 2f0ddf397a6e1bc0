-- The events of one database between two numbers, found place by place.
use Rattle.std.proofs.Common.{◌≡◌, refl, sym, ap, ◌∙◌, ℕ, zero, suc, ◌+◌, ◌-◌, ◌<◌, ◌≤◌, min, nat_le, nat_lt, List, [], ◌∷◌, ◌++◌, length, take, drop, get_or, Bool, true, false, ◌&&◌, cond, append_assoc, append-nil, length-append, arith}
use Rattle.std.proofs.lemmas.Bool.{le-leb, le-ltb, lt-leb, lt-ltb}
use Rattle.std.proofs.lemmas.List.{take_at, take-append-drop, take_all}
use Rattle.std.proofs.lemmas.List.Elements.{filter-append, filter_more}
use Rattle.cat_types.specs.declared.changes.Event.{Event}
use Rattle.notify_log.specs.Logs.{AreNumbered, events_between, is_between, is_of}

and_true : (b c : Bool) → c ≡ true → (b && c) ≡ b
and_true true c is = is
and_true false c is = refl

and_false : (b c : Bool) → c ≡ false → (b && c) ≡ false
and_false true c is = is
and_false false c is = refl

and_both : (b c : Bool) → b ≡ true → c ≡ true → (b && c) ≡ true
and_both b c first second = rw first second

-- the number of the event at a place
pub id_at : (k first : ℕ) (es : List Event) (d : Event) → AreNumbered first es → k < length es → (get_or es k d).id ≡ first + k
id_at k first [] d numbered within = absurd (omega arith)
id_at zero first (e ∷ es) d numbered within = omega (arith, numbered.0)
id_at (suc k) first (e ∷ es) d numbered within = omega (arith, id_at k (first + 1) es d numbered.1 (omega arith))

-- between the two numbers only the database counts
within_both : (db : List ℕ) (born after end : ℕ) (e : Event) → after < e.id → e.id ≤ end → is_between db born after end e ≡ is_of db born e
within_both db born after end e above below =
    and_true (is_of db born e) (nat_lt after e.id && nat_le e.id end) (and_both _ _ (lt-ltb after e.id above) (le-leb e.id end below))

not_above : (db : List ℕ) (born after end : ℕ) (e : Event) → e.id ≤ after → is_between db born after end e ≡ false
not_above db born after end e low =
    and_false (is_of db born e) _ (rw (le-ltb after e.id low) refl)

not_below : (db : List ℕ) (born after end : ℕ) (e : Event) → end < e.id → is_between db born after end e ≡ false
not_below db born after end e high =
    and_false (is_of db born e) _ (and_false (nat_lt after e.id) _ (lt-leb e.id end high))

-- none of those up to the first number counts
pub none_before : (db : List ℕ) (born after end n first : ℕ) (es : List Event) → AreNumbered first es → n ≤ suc after - first → events_between db born after end (take n es) ≡ []
none_before db born after end zero first es numbered few = refl
none_before db born after end (suc n) first [] numbered few = refl
none_before db born after end (suc n) first (e ∷ es) numbered few =
    rw (not_above db born after end e (omega (arith, numbered.0))) (none_before db born after end n (first + 1) es numbered.1 (omega arith))

none_behind : (db : List ℕ) (born after end first : ℕ) (es : List Event) → AreNumbered first es → end < first → events_between db born after end es ≡ []
none_behind db born after end first [] numbered high = refl
none_behind db born after end first (e ∷ es) numbered high =
    rw (not_below db born after end e (omega (arith, numbered.0))) (none_behind db born after end (first + 1) es numbered.1 (omega arith))

-- those up to the second number are all that count
pub all_before : (db : List ℕ) (born after end n first : ℕ) (es : List Event) → AreNumbered first es → min (suc end - first) (length es) ≤ n → events_between db born after end (take n es) ≡ events_between db born after end es
all_before db born after end zero first [] numbered many = refl
all_before db born after end (suc n) first [] numbered many = refl
all_before db born after end zero first (e ∷ es) numbered many = sym (none_behind db born after end first (e ∷ es) numbered (omega arith))
all_before db born after end (suc n) first (e ∷ es) numbered many =
    ap (λ found. cond (is_between db born after end e) (e ∷ found) found) (all_before db born after end n (first + 1) es numbered.1 (omega arith))

-- an event between the two numbers counts where it is the database's
test_at : (db : List ℕ) (born after end at first : ℕ) (es : List Event) (d : Event) → AreNumbered first es → min (suc after - first) (length es) ≤ at → at < min (suc end - first) (length es) → is_between db born after end (get_or es at d) ≡ is_of db born (get_or es at d)
test_at db born after end at first es d numbered from upto =
    let id : (get_or es at d).id ≡ first + at = id_at at first es d numbered (omega arith) in
    within_both db born after end (get_or es at d) (omega arith) (omega arith)

pub one_more : (db : List ℕ) (born after end at first : ℕ) (es : List Event) (e : Event) → AreNumbered first es → min (suc after - first) (length es) ≤ at → at < min (suc end - first) (length es) → e ≡ get_or es at e → is_of db born e ≡ true →
    events_between db born after end (take (at + 1) es) ≡ events_between db born after end (take at es) ++ e ∷ []
one_more db born after end at first es e numbered from upto same is =
    let counts : is_between db born after end (get_or es at e) ≡ true = test_at db born after end at first es e numbered from upto ∙ (ap (is_of db born) (sym same) ∙ is) in
    filter_more (is_between db born after end) es at e (omega arith) ∙ rw (counts, ← same) refl

pub none_more : (db : List ℕ) (born after end at first : ℕ) (es : List Event) (e : Event) → AreNumbered first es → min (suc after - first) (length es) ≤ at → at < min (suc end - first) (length es) → e ≡ get_or es at e → is_of db born e ≡ false →
    events_between db born after end (take (at + 1) es) ≡ events_between db born after end (take at es)
none_more db born after end at first es e numbered from upto same is =
    let counts : is_between db born after end (get_or es at e) ≡ false = test_at db born after end at first es e numbered from upto ∙ (ap (is_of db born) (sym same) ∙ is) in
    filter_more (is_between db born after end) es at e (omega arith) ∙ rw counts (append-nil _)

-- what is pushed is what was found and the event
pub added : (new old before found : List Event) (item e : Event) → new ≡ old ++ item ∷ [] → old ≡ before → item ≡ e → found ≡ before ++ e ∷ [] → new ≡ found
added new old before found item e pushed so_far same more = rw (pushed, so_far, same, more) refl

pub longer : (new old : List Event) (item : Event) → new ≡ old ++ item ∷ [] → length new ≡ length old + 1
longer new old item pushed = ap length pushed ∙ length-append old (item ∷ [])

-- an event that is left out shows that others follow
abbrev pub IsCut : ℕ → List Event → List Event → Type 0
IsCut max found all = (found ≡ take max all) × (true ≡ nat_lt max (length all))

cut_by : (max : ℕ) (found rest all : List Event) (e : Event) → length found ≡ max → all ≡ (found ++ e ∷ []) ++ rest → IsCut max found all
cut_by max found rest all e full whole =
    let whole' : all ≡ found ++ e ∷ rest = whole ∙ append_assoc found (e ∷ []) rest in
    (sym (ap (take max) whole' ∙ take_at found (e ∷ rest) max full), sym (lt-ltb max (length all) (omega (arith, ap length whole', length-append found (e ∷ rest), full))))

pub left_out : (db : List ℕ) (born after end at first max : ℕ) (es found : List Event) (e : Event) → AreNumbered first es → min (suc after - first) (length es) ≤ at → at < min (suc end - first) (length es) → e ≡ get_or es at e → is_of db born e ≡ true →
    found ≡ events_between db born after end (take at es) → length found ≡ max → IsCut max found (events_between db born after end es)
left_out db born after end at first max es found e numbered from upto same is so_far full =
    let p = is_between db born after end in
    let whole : events_between db born after end es ≡ (found ++ e ∷ []) ++ events_between db born after end (drop (at + 1) es) =
    ap (events_between db born after end) (sym (take-append-drop (at + 1) es))
    ∙ (filter-append (is_between db born after end) (take (at + 1) es) (drop (at + 1) es)
    ∙ ap (λ front. front ++ events_between db born after end (drop (at + 1) es)) (one_more db born after end at first es e numbered from upto same is ∙ ap (λ front. front ++ e ∷ []) (sym so_far))) in
    cut_by max found (events_between db born after end (drop (at + 1) es)) _ e full whole

-- and where none was left out all were found
abbrev pub IsWhole : ℕ → List Event → List Event → Type 0
IsWhole max found all = (found ≡ take max all) × (false ≡ nat_lt max (length all))

pub found_all : (max : ℕ) (found all : List Event) → found ≡ all → length found ≤ max → IsWhole max found all
found_all max found all same few =
    let few' : length all ≤ max = omega (arith, ap length same, few) in
    (same ∙ sym (take_all max all few'), sym (le-ltb max (length all) few'))
