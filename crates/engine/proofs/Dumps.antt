-- What the steps of a dump did.
use Rattle.std.proofs.Common.{◌≡◌, ℕ, ◌+◌, Bool, true, false, ◌&&◌, List, Option, None, Some, Result, Ok, Err, refl, sym, ◌∙◌, ap, subst, eq-eqb}
use Rattle.std.specs.Prelude.{cond, IfOk, MatchResult, is_some}
use Rattle.cat_objects.specs.Catalogue.{Catalogue, database}
use Rattle.cat_objects.specs.Changes.{is_born}
use Rattle.cat_objects.specs.declared.held.HeldDb.{HeldDb}
use Rattle.cat_objects.specs.declared.held.HeldTable.{HeldTable}
use Rattle.cat_types.specs.declared.items.Item.{Item}
use Rattle.cat_types.specs.declared.steps.Answer.{Answer}
use Rattle.cat_types.specs.declared.steps.Answer.TheVariants as answer
use Rattle.cat_types.specs.declared.steps.DumpRefusal.{DumpRefusal}
use Rattle.cat_types.specs.declared.steps.DumpRefusal.TheVariants.{BadRange, DatabaseGone, MissingEvents, UsedUp}
use Rattle.cat_types.specs.declared.steps.Step.{Step}
use Rattle.cat_types.specs.declared.steps.Step.TheVariants.{DumpBegin, DumpEnd, DumpEvents, DumpParts, DumpSeal, DumpTable}
use Rattle.cat_values.specs.Names.{lower}
use Rattle.desk.specs.State.{Beginning, State, Written, begin_answer, beginning, beginning_by, drawn_by, drew, due, due_answer, dumps_begun, end_answer, may_want, opens, refused_dump, unbegun, untaken, with_dumps, with_written, writing}
use Rattle.dump_steps.specs.Open.{open_dump, takes_events, takes_objects, with_dump, with_sealed, without_dump}
use Rattle.dump_steps.specs.Pieces.{answered_in, begun, first_item, is_taken_in, kind_of, next_events, next_parts, next_table, told_begun, told_table}
use Rattle.dump_steps.specs.Ranges.{begin_refusal, is_bad_range, is_missing, is_too_early, is_used_up}
use Rattle.dump_steps.specs.declared.ranges.Asked.{Asked}
use Rattle.dump_steps.specs.declared.open_dumps.DumpKind.{DumpKind}
use Rattle.dump_steps.specs.declared.open_dumps.OpenDump.{OpenDump}
use Rattle.engine.proofs.Steps.{failed_by, stepped_failed, stepped_quiet, stepped_wanting, stepped_written, well}
use Rattle.engine.specs.Inside.{IsSure, Logged, Seen, Stepped, Unwritten, refused_by}
use Rattle.ms_journal.specs.declared.fault.StoreFault.{StoreFault}

-- ---- how a beginning ends

-- one that is refused, by its database's refusal
pub begins_refused : (s : State) (caller : ℕ) (name low : List ℕ) (asked : Asked) (held : Option HeldDb) (refusal : DumpRefusal) → low ≡ lower name → held ≡ database s.catalogue low → Some refusal ≡ begin_refusal held s.first s.newest s.last_dump asked
    → unbegun refusal ≡ beginning s caller name asked
begins_refused s caller name low asked held refusal is same refused =
    let found : held ≡ database s.catalogue (lower name) = same ∙ ap (λ (n : List ℕ). database s.catalogue n) is in
    let why : Some refusal ≡ refused_dump s name asked = refused ∙ ap (λ (h : Option HeldDb). begin_refusal h s.first s.newest s.last_dump asked) found in
    ap (λ (r : Option DumpRefusal). beginning_by r (database s.catalogue (lower name)) s caller (lower name) asked) why

-- one that isn't
pub begins_ready : (s : State) (caller : ℕ) (name low : List ℕ) (asked : Asked) (held : HeldDb) (dump : OpenDump) (item : Option Item) → low ≡ lower name → Some held ≡ database s.catalogue low → None ≡ begin_refusal (Some held) s.first s.newest s.last_dump asked
    → dump ≡ begun caller low held.born s.newest s.last_dump asked → item ≡ first_item dump.kind s.newest held
    → opens dump item ≡ beginning s caller name asked
begins_ready s caller name low asked held dump item is same none made first =
    let found : Some held ≡ database s.catalogue (lower name) = same ∙ ap (λ (n : List ℕ). database s.catalogue n) is in
    let why : None ≡ refused_dump s name asked = none ∙ ap (λ (h : Option HeldDb). begin_refusal h s.first s.newest s.last_dump asked) found in
    let told : item ≡ first_item (kind_of asked.from) s.newest held = first ∙ ap (λ (d : OpenDump). first_item d.kind s.newest held) made in
    ap (λ (i : Option Item). opens dump i) told
    ∙ ap (λ (d : OpenDump). opens d (first_item (kind_of asked.from) s.newest held)) (made ∙ ap (λ (n : List ℕ). begun caller n held.born s.newest s.last_dump asked) is)
    ∙ ap (λ (h : Option HeldDb). beginning_by None h s caller (lower name) asked) found
    ∙ ap (λ (r : Option DumpRefusal). beginning_by r (database s.catalogue (lower name)) s caller (lower name) asked) why

-- a dump is refused where the numbers are used up
pub not_used_up : (held : HeldDb) (first newest last : ℕ) (asked : Asked) → None ≡ begin_refusal (Some held) first newest last asked → is_used_up last ≡ false
not_used_up held first newest last asked none = by_tests (is_bad_range newest asked.from asked.to asked.limit) (is_too_early held.born asked.from) (is_missing first newest asked.from) (is_used_up last) BadRange (DatabaseGone held.born) (MissingEvents first) none
  where
    by_tests : (a b c d : Bool) (x y z : DumpRefusal) → None ≡ cond a (Some x) (cond b (Some y) (cond c (Some z) (cond d (Some UsedUp) None))) → d ≡ false
    by_tests a b c false x y z is = refl
    by_tests true b c true x y z is = absurd cc
    by_tests false true c true x y z is = absurd cc
    by_tests false false true true x y z is = absurd cc
    by_tests false false false true x y z is = absurd cc

-- ---- the first step

refused_draws : (held : Option HeldDb) (s : State) (caller : ℕ) (db : List ℕ) (asked : Asked) (refusal : DumpRefusal) → unbegun refusal ≡ beginning_by (begin_refusal held s.first s.newest s.last_dump asked) held s caller db asked
    → drawn_by (begin_refusal held s.first s.newest s.last_dump asked) s.last_dump ≡ None
refused_draws None s caller db asked refusal is = refl
refused_draws (Some h) s caller db asked refusal is = by_refusal (begin_refusal (Some h) s.first s.newest s.last_dump asked) is
  where
    by_refusal : (r : Option DumpRefusal) → unbegun refusal ≡ beginning_by r (Some h) s caller db asked → drawn_by r s.last_dump ≡ None
    by_refusal (Some x) so = refl
    by_refusal None so = absurd cc

opened_draws : (held : Option HeldDb) (s : State) (caller : ℕ) (db : List ℕ) (asked : Asked) (dump : OpenDump) (item : Option Item) → opens dump item ≡ beginning_by (begin_refusal held s.first s.newest s.last_dump asked) held s caller db asked
    → (drawn_by (begin_refusal held s.first s.newest s.last_dump asked) s.last_dump ≡ Some (drew (s.last_dump + 1))) × (dump.number ≡ s.last_dump + 1)
opened_draws None s caller db asked dump item is = absurd cc
opened_draws (Some h) s caller db asked dump item is = by_refusal (begin_refusal (Some h) s.first s.newest s.last_dump asked) is
  where
    by_refusal : (r : Option DumpRefusal) → opens dump item ≡ beginning_by r (Some h) s caller db asked → (drawn_by r s.last_dump ≡ Some (drew (s.last_dump + 1))) × (dump.number ≡ s.last_dump + 1)
    by_refusal (Some x) so = absurd cc
    by_refusal None so = let same : dump ≡ begun caller db h.born s.newest s.last_dump asked = cc in (refl, ap (λ (d : OpenDump). d.number) same)

-- a dump that is refused
pub stepped_unbegun : (s : State) (caller : ℕ) (db : List ℕ) (asked : Asked) (refusal : DumpRefusal) (v : Seen) → IsSure v → unbegun refusal ≡ beginning s caller db asked
    → Stepped s caller (DumpBegin db asked.from asked.to asked.limit) (answer.DumpRefused refusal) s v v
stepped_unbegun s caller db asked refusal v sure is =
    let none : writing s (DumpBegin db asked.from asked.to asked.limit) ≡ None = refused_draws (database s.catalogue (lower db)) s caller (lower db) asked refusal is in
    stepped_quiet s s caller (DumpBegin db asked.from asked.to asked.limit) (answer.DumpRefused refusal) v refl
    (ap (λ (b : Beginning). begin_answer s.id b) is) none
    (ap (λ (b : Beginning). with_dumps (dumps_begun s.dumps b) s) is ∙ ap (λ (o : Option Written). with_dumps (dumps_begun s.dumps (beginning s caller db asked)) (with_written o s)) (sym none)) sure

-- one whose number was written
pub stepped_begun : (s t : State) (caller : ℕ) (db : List ℕ) (asked : Asked) (dump : OpenDump) (item : Option Item) (given : Answer) (v u : Seen) → opens dump item ≡ beginning s caller db asked → given ≡ told_begun s.id dump item
    → t ≡ with_dumps (with_dump dump s.dumps) (with_written (Some (drew dump.number)) s) → Logged (drew dump.number) (well given) v u
    → Stepped s caller (DumpBegin db asked.from asked.to asked.limit) given t v u
stepped_begun s t caller db asked dump item given v u is told done log =
    let draws = opened_draws (database s.catalogue (lower db)) s caller (lower db) asked dump item is in
    let writes_it : writing s (DumpBegin db asked.from asked.to asked.limit) ≡ Some (drew dump.number) = draws.0 ∙ ap (λ (n : ℕ). Some (drew n)) (sym draws.1) in
    stepped_written s t caller (DumpBegin db asked.from asked.to asked.limit) given (drew dump.number) given v u (ap (λ (a : Answer). untaken a) told)
    (told ∙ ap (λ (b : Beginning). begin_answer s.id b) is) writes_it (eq-eqb dump.number (s.last_dump + 1) draws.1)
    (done ∙ ap (λ (b : Beginning). with_dumps (dumps_begun s.dumps b) (with_written (Some (drew dump.number)) s)) is
    ∙ ap (λ (o : Option Written). with_dumps (dumps_begun s.dumps (beginning s caller db asked)) (with_written o s)) (sym writes_it)) log

-- one whose number wasn't
pub stepped_undrawn : (s t : State) (caller : ℕ) (db : List ℕ) (asked : Asked) (dump : OpenDump) (item : Option Item) (f : StoreFault) (v u : Seen) → opens dump item ≡ beginning s caller db asked
    → t ≡ s → Logged (drew dump.number) (failed_by Answer f) v u
    → Stepped s caller (DumpBegin db asked.from asked.to asked.limit) (refused_by f) t v u
stepped_undrawn s t caller db asked dump item f v u is stays log =
    let draws = opened_draws (database s.catalogue (lower db)) s caller (lower db) asked dump item is in
    stepped_failed Answer s t caller (DumpBegin db asked.from asked.to asked.limit) (drew dump.number) f v u refl (draws.0 ∙ ap (λ (n : ℕ). Some (drew n)) (sym draws.1)) (eq-eqb dump.number (s.last_dump + 1) draws.1) stays log

-- ---- the steps after it

-- what such a step is answered doesn't refuse it, where what it finds doesn't
answered_taken : (o : Option OpenDump) (allows : DumpKind → Bool) (cat : Catalogue) (finds : OpenDump → Answer) → ((dump : OpenDump) → untaken (finds dump) ≡ None) → untaken (answered_in o allows cat finds) ≡ None
answered_taken None allows cat finds each = refl
answered_taken (Some dump) allows cat finds each = by_tests (allows dump.kind) (is_born dump.born (database cat dump.db))
  where
    by_tests : (a b : Bool) → untaken (cond a (cond b (finds dump) (answer.DumpRefused (DatabaseGone dump.born))) answer.NotOpen) ≡ None
    by_tests false b = refl
    by_tests true false = refl
    by_tests true true = each dump

table_taken : (newest : ℕ) (o : Option (List ℕ × HeldTable)) → untaken (told_table newest o) ≡ None
table_taken newest None = refl
table_taken newest (Some entry) = refl

-- it is answered what is due
unwritten_due : (s : State) (caller : ℕ) (step : Step) (given : Answer) → writing s step ≡ None → s ≡ (due s caller step).state → untaken (due_answer s caller step) ≡ None → due_answer s caller step ≡ given → Unwritten s caller step given s
unwritten_due s caller step given quiet stays taken is = λ v sure. stepped_quiet s s caller step given v (ap (λ (a : Answer). untaken a) (sym is) ∙ taken) (sym is) quiet stays sure

-- or that, or want of memory
unwritten_told : {E : Type 0} (s : State) (caller : ℕ) (step : Step) (finds : Answer) (r : Result Answer E) (given : Answer) → may_want step ≡ true → writing s step ≡ None → s ≡ (due s caller step).state → untaken (due_answer s caller step) ≡ None
    → due_answer s caller step ≡ finds → IfOk r (λ a. a ≡ finds) → MatchResult r (λ a. given ≡ a) (λ e. given ≡ answer.NoMemory) → Unwritten s caller step given s
unwritten_told s caller step finds (Ok a) given wants quiet stays taken is found told = unwritten_due s caller step given quiet stays taken (is ∙ sym found ∙ sym told)
unwritten_told s caller step finds (Err e) given wants quiet stays taken is found told = λ v sure. subst (λ (a : Answer). Stepped s caller step a s v v) (sym told) (stepped_wanting s caller step v wants sure)

pub due_table : (s : State) (caller number : ℕ) (after : Option (List ℕ)) (given : Answer) → due_answer s caller (DumpTable number after) ≡ given → Unwritten s caller (DumpTable number after) given s
due_table s caller number after given is =
    unwritten_due s caller (DumpTable number after) given refl refl (answered_taken (open_dump caller number s.dumps) takes_objects s.catalogue (next_table s.catalogue s.newest after) (λ dump. table_taken s.newest _)) is

pub found_table : {E : Type 0} (s : State) (caller number : ℕ) (after : Option (List ℕ)) (finds : Answer) (r : Result Answer E) (given : Answer) → due_answer s caller (DumpTable number after) ≡ finds
    → IfOk r (λ a. a ≡ finds) → MatchResult r (λ a. given ≡ a) (λ e. given ≡ answer.NoMemory) → Unwritten s caller (DumpTable number after) given s
found_table s caller number after finds r given is found told =
    unwritten_told s caller (DumpTable number after) finds r given refl refl refl (answered_taken (open_dump caller number s.dumps) takes_objects s.catalogue (next_table s.catalogue s.newest after) (λ dump. table_taken s.newest _)) is found told

pub due_parts : (s : State) (caller number : ℕ) (table : List ℕ) (born : ℕ) (after : Option (List (List ℕ))) (given : Answer) → due_answer s caller (DumpParts number table born after) ≡ given → Unwritten s caller (DumpParts number table born after) given s
due_parts s caller number table born after given is =
    unwritten_due s caller (DumpParts number table born after) given refl refl (answered_taken (open_dump caller number s.dumps) takes_objects s.catalogue (next_parts s.catalogue s.newest table born after) (λ dump. refl)) is

pub found_parts : {E : Type 0} (s : State) (caller number : ℕ) (table : List ℕ) (born : ℕ) (after : Option (List (List ℕ))) (finds : Answer) (r : Result Answer E) (given : Answer) → due_answer s caller (DumpParts number table born after) ≡ finds
    → IfOk r (λ a. a ≡ finds) → MatchResult r (λ a. given ≡ a) (λ e. given ≡ answer.NoMemory) → Unwritten s caller (DumpParts number table born after) given s
found_parts s caller number table born after finds r given is found told =
    unwritten_told s caller (DumpParts number table born after) finds r given refl refl refl (answered_taken (open_dump caller number s.dumps) takes_objects s.catalogue (next_parts s.catalogue s.newest table born after) (λ dump. refl)) is found told

pub due_events : (s : State) (caller number after : ℕ) (given : Answer) → due_answer s caller (DumpEvents number after) ≡ given → Unwritten s caller (DumpEvents number after) given s
due_events s caller number after given is =
    unwritten_due s caller (DumpEvents number after) given refl refl (answered_taken (open_dump caller number s.dumps) takes_events s.catalogue (next_events s.events after) (λ dump. refl)) is

pub found_events : {E : Type 0} (s : State) (caller number after : ℕ) (finds : Answer) (r : Result Answer E) (given : Answer) → due_answer s caller (DumpEvents number after) ≡ finds
    → IfOk r (λ a. a ≡ finds) → MatchResult r (λ a. given ≡ a) (λ e. given ≡ answer.NoMemory) → Unwritten s caller (DumpEvents number after) given s
found_events s caller number after finds r given is found told =
    unwritten_told s caller (DumpEvents number after) finds r given refl refl refl (answered_taken (open_dump caller number s.dumps) takes_events s.catalogue (next_events s.events after) (λ dump. refl)) is found told

-- ---- seals and ends

-- whether a step is taken, by what it would be answered
is_taken : (o : Option OpenDump) (allows : DumpKind → Bool) (cat : Catalogue) → answered_in o allows cat (λ dump. answer.Ended) ≡ answer.Ended → is_taken_in o allows cat ≡ true
is_taken None allows cat is = absurd cc
is_taken (Some dump) allows cat is = by_tests (allows dump.kind) (is_born dump.born (database cat dump.db)) is
  where
    by_tests : (a b : Bool) → cond a (cond b answer.Ended (answer.DumpRefused (DatabaseGone dump.born))) answer.NotOpen ≡ answer.Ended → (a && b) ≡ true
    by_tests false b so = absurd cc
    by_tests true false so = absurd cc
    by_tests true true so = refl

isnt_taken : (o : Option OpenDump) (allows : DumpKind → Bool) (cat : Catalogue) (given : Answer) → answered_in o allows cat (λ dump. answer.Ended) ≡ given → answered_in o allows cat (λ dump. answer.NoTable) ≡ given → is_taken_in o allows cat ≡ false
isnt_taken None allows cat given one two = refl
isnt_taken (Some dump) allows cat given one two = by_tests (allows dump.kind) (is_born dump.born (database cat dump.db)) one two
  where
    by_tests : (a b : Bool) → cond a (cond b answer.Ended (answer.DumpRefused (DatabaseGone dump.born))) answer.NotOpen ≡ given → cond a (cond b answer.NoTable (answer.DumpRefused (DatabaseGone dump.born))) answer.NotOpen ≡ given → (a && b) ≡ false
    by_tests false b is so = refl
    by_tests true false is so = refl
    by_tests true true is so = absurd cc

sealed_taken : (s : State) (caller number : ℕ) → untaken (due_answer s caller (DumpSeal number)) ≡ None
sealed_taken s caller number = answered_taken (open_dump caller number s.dumps) takes_objects s.catalogue (λ dump. answer.Sealed s.newest) (λ dump. refl)

-- a dump that is sealed
pub unwritten_seal : (s : State) (caller number : ℕ) (dump : OpenDump) (dumps : List OpenDump) → ((finds : OpenDump → Answer) → answered_in (open_dump caller number s.dumps) takes_objects s.catalogue finds ≡ finds dump)
    → dumps ≡ with_sealed caller number s.newest s.dumps → Unwritten s caller (DumpSeal number) (answer.Sealed s.newest) (with_dumps dumps s)
unwritten_seal s caller number dump dumps is done = λ v sure.
    stepped_quiet s (with_dumps dumps s) caller (DumpSeal number) (answer.Sealed s.newest) v refl (sym (is (λ found. answer.Sealed s.newest))) refl
    (ap (λ (ds : List OpenDump). with_dumps ds s) done
    ∙ ap (λ (b : Bool). with_dumps (cond b (with_sealed caller number s.newest s.dumps) s.dumps) s) (sym (is_taken (open_dump caller number s.dumps) takes_objects s.catalogue (is (λ found. answer.Ended))))) sure

-- one that isn't
pub unwritten_unsealed : (s : State) (caller number : ℕ) (given : Answer) → ((finds : OpenDump → Answer) → answered_in (open_dump caller number s.dumps) takes_objects s.catalogue finds ≡ given) → Unwritten s caller (DumpSeal number) given s
unwritten_unsealed s caller number given is =
    unwritten_due s caller (DumpSeal number) given refl
    (ap (λ (b : Bool). with_dumps (cond b (with_sealed caller number s.newest s.dumps) s.dumps) s) (sym (isnt_taken (open_dump caller number s.dumps) takes_objects s.catalogue given (is (λ found. answer.Ended)) (is (λ found. answer.NoTable)))))
    (sealed_taken s caller number) (is (λ found. answer.Sealed s.newest))

end_is : (o : Option OpenDump) → end_answer o ≡ cond (is_some o) answer.Ended answer.NotOpen
end_is None = refl
end_is (Some dump) = refl

-- the end of a dump
pub unwritten_end : (s : State) (caller number : ℕ) (found : Bool) (dumps : List OpenDump) → found ≡ is_some (open_dump caller number s.dumps) → dumps ≡ without_dump caller number s.dumps
    → Unwritten s caller (DumpEnd number) (cond found answer.Ended answer.NotOpen) (with_dumps dumps s)
unwritten_end s caller number found dumps is done = λ v sure.
    stepped_quiet s (with_dumps dumps s) caller (DumpEnd number) (cond found answer.Ended answer.NotOpen) v (taken found)
    (ap (λ (b : Bool). cond b answer.Ended answer.NotOpen) is ∙ sym (end_is (open_dump caller number s.dumps))) refl (ap (λ (ds : List OpenDump). with_dumps ds s) done) sure
  where
    taken : (b : Bool) → untaken (cond b answer.Ended answer.NotOpen) ≡ None
    taken true = refl
    taken false = refl
