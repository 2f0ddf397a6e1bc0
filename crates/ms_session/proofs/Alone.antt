-- A caller alone at a new store.
use Rattle.std.proofs.Common.{◌≡◌, ℕ, ◌+◌, ◌==◌, ◌⊎◌, Bool, true, false, not, ◌||◌, List, [], ◌∷◌, ◌++◌, map, codes, Option, Some, None, is_some, refl, sym, ◌∙◌, ap, subst, inl, inr}
use Rattle.std.specs.Prelude.{⊤, cond}
use Rattle.std.proofs.lemmas.Bool.{false≢true}
use Rattle.std.proofs.lemmas.Map.{keys-set_value}
use Rattle.std.proofs.lemmas.Map.Text.{is_eq-slice_cmp}
use Rattle.std.specs.BTreeMap.{insert_entry}
use Rattle.std.specs.Cmp.Lexicographic.{slice_cmp}
use Rattle.std.specs.List.{AllByRecursion, flat_map, list_any}
use Rattle.std.specs.Map.{keys_of, lookup, set_value}
use Rattle.std.specs.Ordering.{nat_cmp}
use Rattle.std.specs.Str.{bytes_eq}
use Rattle.cat_types.specs.declared.arguments.DbArg.{DbArg}
use Rattle.cat_types.specs.declared.arguments.PartArg.{PartArg}
use Rattle.cat_types.specs.declared.arguments.StatArg.{StatArg}
use Rattle.cat_types.specs.declared.arguments.StatsArg.{StatsArg}
use Rattle.cat_types.specs.declared.arguments.TableArg.{TableArg}
use Rattle.cat_types.specs.declared.calls.Call.{Call}
use Rattle.cat_types.specs.declared.calls.Call.TheVariants.{AddPartition, AddPartitions, AddPartitionsReq, AlterDatabase, AlterPartition, AlterPartitions, AlterTable, AppendPartition, AppendPartitionByName, CreateDatabase, CreateTable, DeletePartitionColumnStatistics, DeleteTableColumnStatistics, DropDatabase, DropPartition, DropPartitionByName, DropTable, GetAllDatabases, GetAllTables, GetCurrentNotificationEventId, GetDatabase, GetDatabases, GetFields, GetNextNotification, GetNumPartitionsByFilter, GetPartition, GetPartitionByName, GetPartitionColumnStatistics, GetPartitionNames, GetPartitionNamesPs, GetPartitions, GetPartitionsByFilter, GetPartitionsByNames, GetPartitionsPs, GetSchema, GetTable, GetTableColumnStatistics, GetTableObjectsByName, GetTableReq, GetTableStatisticsReq, GetTables, RenamePartition, UpdatePartitionColumnStatistics, UpdateTableColumnStatistics}
use Rattle.cat_types.specs.declared.changes.Change.{Change}
use Rattle.cat_types.specs.declared.changes.EventKind.{EventKind}
use Rattle.cat_types.specs.declared.changes.EventKind.TheVariants as kind
use Rattle.cat_types.specs.declared.changes.Op.{Op}
use Rattle.cat_types.specs.declared.changes.Op.TheVariants.{DropDb, DropPart, MovePart, MoveTable, PutDb, PutPart, PutTable, DropTable as DropTableOp}
use Rattle.cat_types.specs.declared.replies.Reply.{Reply}
use Rattle.cat_types.specs.declared.replies.Reply.TheVariants.{Names}
use Rattle.cat_types.specs.declared.steps.Answer.{Answer}
use Rattle.cat_types.specs.declared.steps.Answer.TheVariants as answer
use Rattle.cat_types.specs.declared.steps.Step.{Step}
use Rattle.cat_types.specs.declared.steps.Step.TheVariants as step
use Rattle.cat_objects.specs.Catalogue.{Catalogue, at_name, database, has_database, is_name, put_at, table}
use Rattle.cat_objects.specs.Changes.{changed_in, changed_parts, done, done_op, done_ops, has_operation, moved_table, put_table, with_tables, without_table}
use Rattle.cat_objects.specs.Parts.{PartList, moved_part, put_part, without_part}
use Rattle.cat_values.specs.declared.records.PartRec.{PartRec}
use Rattle.rulings.specs.Rules.{Rule, first_broken}
use Rattle.table_rules.specs.Databases.{alter_database_rules, database_altered, database_dropped, drop_database_rules, matching}
use Rattle.rulings.specs.Names.{kept_name}
use Rattle.rulings.specs.Decisions.{decided_by}
use Rattle.part_rules.specs.PartChanges.{all_altered, appended, list_added, list_change, ops_under, partition_appended, partition_dropped, partition_renamed, partitions_added, parts_altered, parts_put, renaming, revalues}
use Rattle.rulings.specs.Changes.{part_change, table_born}
use Rattle.rulings.specs.Meant.{by_name, by_values, meant_values}
use Rattle.catalogue.specs.Rules.{breaks, first_refusal, lacks_number, refusal, result_of, rules_of}
use Rattle.stat_rules.specs.Records.{StatMap}
use Rattle.stat_rules.specs.Statistics.{part_deleted, part_given, part_updated, said_db, said_table, table_deleted, table_given, table_updated, unless_empty}
use Rattle.table_rules.specs.Tables.{renames, table_altered, table_created, table_dropped, table_put}
use Rattle.rulings.specs.declared.bars.Bars.{Bars}
use Rattle.cat_objects.specs.declared.held.HeldDb.{HeldDb}
use Rattle.cat_objects.specs.declared.held.HeldTable.{HeldTable}
use Rattle.rulings.specs.declared.refusal.Refusal.{Refusal}
use Rattle.desk.specs.History.{Entry, IsLegal, MayFollow, Point, next, point_of, took}
use Rattle.cat_types.specs.declared.steps.DumpRefusal.{DumpRefusal}
use Rattle.desk.specs.State.{State, MayAnswer, asked_for, bars_of, drawn_by, due as due_in, first_after_trim, is_refused, refused_dump, written_first, kept, next_event, start, state_after_answer, trimmed, with_written, writes, written_by}
use Rattle.ms_calls.specs.declared.request.Asked.{Asked}
use Rattle.ms_calls.specs.declared.request.Asked.TheVariants as ask
use Rattle.ms_calls.specs.Refusals.{out_of_memory}
use Rattle.ms_session.specs.Laws.{AloneListsDefault, Lists, MakesNone}
use Rattle.ms_session.specs.Requests.{asks}
use Rattle.ms_session.specs.Turns.{Due, IsReplyTo, IsTurn, Shelf, Turn}
use Rattle.ms_session.proofs.Dumping.{IsNoCall, NoCalls, in_dump}
use Rattle.ms_session.proofs.Results.{reply_in}

abbrev names : List (List ℕ)
names = codes "default" ∷ []

-- `default` is the one database
abbrev HasDefault : Catalogue → Type 0
HasDefault cat = keys_of cat.databases ≡ names

-- ---- what is listed

-- a step that writes nothing is answered what is due, or want of memory
answered_so : (s : State) (before caller after : ℕ) (step : Step) (a : Answer) (wanted : Reply) → writes s step ≡ false → (due_in s caller step).answer ≡ answer.Reply wanted → MayAnswer s before caller step a after → (due : Reply) → IsReplyTo a due → (due ≡ wanted) ⊎ (due ≡ out_of_memory)
answered_so s before caller after step answer.NoMemory wanted still answers may due is = inr is
answered_so s before caller after step answer.StoreFault wanted still answers may due is = absurd (false≢true (sym still ∙ may.0))
answered_so s before caller after step (answer.Reply r) wanted still answers may due is = inl (is ∙ ap reply_in (may ∙ answers))
answered_so s before caller after step (answer.Began dump source born begin end first) wanted still answers may due is = absurd is
answered_so s before caller after step (answer.Table item) wanted still answers may due is = absurd is
answered_so s before caller after step answer.NoTable wanted still answers may due is = absurd is
answered_so s before caller after step (answer.Parts parts more) wanted still answers may due is = absurd is
answered_so s before caller after step (answer.Sealed end) wanted still answers may due is = absurd is
answered_so s before caller after step (answer.Events events more) wanted still answers may due is = absurd is
answered_so s before caller after step answer.Ended wanted still answers may due is = absurd is
answered_so s before caller after step (answer.DumpRefused refusal) wanted still answers may due is = absurd is
answered_so s before caller after step (answer.Kept first) wanted still answers may due is = absurd is
answered_so s before caller after step answer.NotOpen wanted still answers may due is = absurd is

-- what is sent in place of what is due is want of memory
instead : (due reply wanted : Reply) → (due ≡ wanted) ⊎ (due ≡ out_of_memory) → (reply ≡ due) ⊎ (reply ≡ out_of_memory) → (reply ≡ wanted) ⊎ (reply ≡ out_of_memory)
instead due reply wanted is (inr none) = inr none
instead due reply wanted (inl is) (inl same) = inl (same ∙ is)
instead due reply wanted (inr none) (inl same) = inr (same ∙ none)

one_listing : (p : Point) (e : Entry) (call : Call) (moment : ℕ) (due reply wanted : Reply) → writes p.state (step.Client call moment) ≡ false → (due_in p.state e.0.caller (step.Client call moment)).answer ≡ answer.Reply wanted
    → e.0.step ≡ step.Client call moment → MayFollow p (took e) → IsReplyTo e.1.answer due → (reply ≡ due) ⊎ (reply ≡ out_of_memory) → (reply ≡ wanted) ⊎ (reply ≡ out_of_memory)
one_listing p e call moment due reply wanted still answers is may told which =
    instead due reply wanted
    (answered_so p.state p.fault e.0.caller e.1.fault (step.Client call moment) e.1.answer wanted still answers (subst (λ (s : Step). MayAnswer p.state p.fault e.0.caller s e.1.answer e.1.fault) is may.1) due told)
    which

lists : (p : Point) (e : Entry) (call : Call) (moment : ℕ) (due reply : Reply) → HasDefault p.state.catalogue → e.0.step ≡ step.Client call moment → MayFollow p (took e) → IsReplyTo e.1.answer due → (reply ≡ due) ⊎ (reply ≡ out_of_memory) → Lists names (ask.Client call) reply
lists p e GetAllDatabases moment due reply has is may told which = one_listing p e GetAllDatabases moment due reply (Names names) refl (ap (λ (l : List (List ℕ)). answer.Reply (Names l)) has) is may told which
lists p e (GetDatabases pattern) moment due reply has is may told which =
    one_listing p e (GetDatabases pattern) moment due reply (Names (matching pattern names)) refl (ap (λ (l : List (List ℕ)). answer.Reply (Names (matching pattern l))) has) is may told which
lists p e (GetDatabase name) moment due reply has is may told which = tt
lists p e (CreateDatabase db) moment due reply has is may told which = tt
lists p e (DropDatabase name cascade) moment due reply has is may told which = tt
lists p e (AlterDatabase name db) moment due reply has is may told which = tt
lists p e (CreateTable new) moment due reply has is may told which = tt
lists p e (DropTable db name) moment due reply has is may told which = tt
lists p e (GetTables db pattern) moment due reply has is may told which = tt
lists p e (GetAllTables db) moment due reply has is may told which = tt
lists p e (GetTable db name) moment due reply has is may told which = tt
lists p e (GetTableReq db name) moment due reply has is may told which = tt
lists p e (GetTableObjectsByName db tables) moment due reply has is may told which = tt
lists p e (AlterTable db name new) moment due reply has is may told which = tt
lists p e (GetFields db name) moment due reply has is may told which = tt
lists p e (GetSchema db name) moment due reply has is may told which = tt
lists p e (AddPartition part) moment due reply has is may told which = tt
lists p e (AddPartitions parts) moment due reply has is may told which = tt
lists p e (AddPartitionsReq db name parts if_not_exists need_result) moment due reply has is may told which = tt
lists p e (AppendPartition db name values) moment due reply has is may told which = tt
lists p e (AppendPartitionByName db name called) moment due reply has is may told which = tt
lists p e (DropPartition db name values) moment due reply has is may told which = tt
lists p e (DropPartitionByName db name called) moment due reply has is may told which = tt
lists p e (GetPartition db name values) moment due reply has is may told which = tt
lists p e (GetPartitionByName db name called) moment due reply has is may told which = tt
lists p e (GetPartitions db name max) moment due reply has is may told which = tt
lists p e (GetPartitionNames db name max) moment due reply has is may told which = tt
lists p e (GetPartitionsPs db name values max) moment due reply has is may told which = tt
lists p e (GetPartitionNamesPs db name values max) moment due reply has is may told which = tt
lists p e (GetPartitionsByNames db name named) moment due reply has is may told which = tt
lists p e (AlterPartition db name part) moment due reply has is may told which = tt
lists p e (AlterPartitions db name parts) moment due reply has is may told which = tt
lists p e (RenamePartition db name values part) moment due reply has is may told which = tt
lists p e (GetPartitionsByFilter db name filter max) moment due reply has is may told which = tt
lists p e (GetNumPartitionsByFilter db name filter) moment due reply has is may told which = tt
lists p e (UpdateTableColumnStatistics stats) moment due reply has is may told which = tt
lists p e (UpdatePartitionColumnStatistics stats) moment due reply has is may told which = tt
lists p e (GetTableColumnStatistics db name col) moment due reply has is may told which = tt
lists p e (GetPartitionColumnStatistics db name part col) moment due reply has is may told which = tt
lists p e (DeleteTableColumnStatistics db name col) moment due reply has is may told which = tt
lists p e (DeletePartitionColumnStatistics db name part col) moment due reply has is may told which = tt
lists p e (GetTableStatisticsReq db name cols) moment due reply has is may told which = tt
lists p e (GetNextNotification last max) moment due reply has is may told which = tt
lists p e GetCurrentNotificationEventId moment due reply has is may told which = tt

-- ---- what changes no name of a database

tables_keep : (o : Option HeldDb) (db : List ℕ) (change : List (List ℕ × HeldTable) → List (List ℕ × HeldTable)) (cat : Catalogue) → keys_of (changed_in o db change cat).databases ≡ keys_of cat.databases
tables_keep None db change cat = refl
tables_keep (Some held) db change cat = keys-set_value (is_name db) cat.databases (with_tables (change held.tables) held)

-- an operation on tables alone
abbrev IsOnTables : Op → Type 0
IsOnTables (PutDb rec) = ⊥
IsOnTables DropDb = ⊥
IsOnTables (PutTable table at rec) = ⊤
IsOnTables (DropTableOp table at) = ⊤
IsOnTables (MoveTable table at to rec) = ⊤
IsOnTables (PutPart table at values rec) = ⊤
IsOnTables (DropPart table at values) = ⊤
IsOnTables (MovePart table at values to rec) = ⊤

op_keeps : (name : List ℕ) (born : ℕ) (cat : Catalogue) (op : Op) → IsOnTables op → keys_of (done_op name born cat op).databases ≡ keys_of cat.databases
op_keeps name born cat (PutDb rec) on = absurd on
op_keeps name born cat DropDb on = absurd on
op_keeps name born cat (PutTable table at rec) on = tables_keep (database cat name) name (put_table table at rec) cat
op_keeps name born cat (DropTableOp table at) on = tables_keep (database cat name) name (without_table table) cat
op_keeps name born cat (MoveTable table at to rec) on = tables_keep (database cat name) name (moved_table table to at rec) cat
op_keeps name born cat (PutPart table at values rec) on = tables_keep (database cat name) name (changed_parts table (put_part values rec)) cat
op_keeps name born cat (DropPart table at values) on = tables_keep (database cat name) name (changed_parts table (without_part values)) cat
op_keeps name born cat (MovePart table at values to rec) on = tables_keep (database cat name) name (changed_parts table (moved_part values to rec)) cat

ops_keep : (name : List ℕ) (born : ℕ) (cat : Catalogue) (ops : List Op) → AllByRecursion IsOnTables ops → keys_of (done_ops name born cat ops).databases ≡ keys_of cat.databases
ops_keep name born cat [] on = refl
ops_keep name born cat (op ∷ ops) on = ops_keep name born (done_op name born cat op) ops on.1 ∙ op_keeps name born cat op on.0

table_keeps : (c : Change) (cat : Catalogue) → AllByRecursion IsOnTables c.ops → HasDefault cat → HasDefault (done c cat)
table_keeps c cat on has = ops_keep c.db c.db_born cat c.ops on ∙ has

either_on : (b : Bool) (xs ys : List Op) → AllByRecursion IsOnTables xs → AllByRecursion IsOnTables ys → AllByRecursion IsOnTables (cond b xs ys)
either_on true xs ys left right = left
either_on false xs ys left right = right

put_on : (o : Option HeldTable) (name : List ℕ) (new : TableArg) (moment : ℕ) → AllByRecursion IsOnTables (table_put o name new moment)
put_on None name new moment = tt
put_on (Some held) name new moment = either_on (renames new name) _ _ (tt, tt) (tt, tt)

-- ---- rules

abbrev first_test : List Rule → Bool
first_test [] = false
first_test (rule ∷ rules) = rule.0

abbrev later_rules : List Rule → List Rule
later_rules [] = []
later_rules (rule ∷ rules) = rules

none_first : (rules : List Rule) → first_broken rules ≡ None → (first_test rules ≡ false) × (first_broken (later_rules rules) ≡ None)
none_first [] is = (refl, refl)
none_first (rule ∷ rules) is = by_test rule.0 is
  where
    by_test : (b : Bool) → cond b (Some rule.1) (first_broken rules) ≡ None → (b ≡ false) × (first_broken rules ≡ None)
    by_test true same = absurd cc
    by_test false same = (refl, same)

not_false : (b : Bool) → not b ≡ false → b ≡ true
not_false true is = refl
not_false false is = absurd cc

-- ---- altering a database

put_keeps : (name : List ℕ) (held : HeldDb) (es : List (List ℕ × HeldDb)) → is_some (at_name name es) ≡ true → keys_of (put_at name held es) ≡ keys_of es
put_keeps name held es there =
    ap (λ (b : Bool). keys_of (cond b (set_value (is_name name) es held) (insert_entry (slice_cmp nat_cmp) es name held))) there ∙ keys-set_value (is_name name) es held

altered : (cat : Catalogue) (bars : Bars) (name : List ℕ) (db : DbArg) → HasDefault cat → first_broken (alter_database_rules cat bars name db) ≡ None → HasDefault (done (database_altered cat name db) cat)
altered cat bars name db has is = put_keeps name _ cat.databases (not_false (has_database cat name) (none_first (alter_database_rules cat bars name db) is).0) ∙ has

-- ---- dropping a database

any_key : (test : List ℕ → Bool) (es : List (List ℕ × HeldDb)) → is_some (lookup test es) ≡ list_any test (keys_of es)
any_key test [] = refl
any_key test (e ∷ es) = by_test (test e.0) (any_key test es)
  where
    by_test : (b : Bool) → is_some (lookup test es) ≡ list_any test (keys_of es) → is_some (cond b (Some e.1) (lookup test es)) ≡ (b || list_any test (keys_of es))
    by_test true later = refl
    by_test false later = later

or_nothing : (b : Bool) → (b || false) ≡ true → b ≡ true
or_nothing true is = refl
or_nothing false is = absurd cc

only_default : (cat : Catalogue) (name : List ℕ) → HasDefault cat → has_database cat name ≡ true → bytes_eq name (codes "default") ≡ true
only_default cat name has there =
    let any : list_any (is_name name) names ≡ true = ap (λ (l : List (List ℕ)). list_any (is_name name) l) (sym has) ∙ sym (any_key (is_name name) cat.databases) ∙ there in
    sym (is_eq-slice_cmp name (codes "default")) ∙ or_nothing (is_name name (codes "default")) any

-- `default` isn't dropped, and no other database is there
never_dropped : (cat : Catalogue) (bars : Bars) (name : List ℕ) (cascade : Bool) → HasDefault cat → first_broken (drop_database_rules cat bars name cascade) ≡ None → ⊥
never_dropped cat bars name cascade has is =
    let rules : List Rule = drop_database_rules cat bars name cascade in
    let there = none_first rules is in
    let other = none_first (later_rules rules) there.1 in
    false≢true (sym other.0 ∙ only_default cat name has (not_false (has_database cat name) there.0))

-- ---- what a call leaves

-- the state after a decision with this refusal, if any, and this change
abbrev left : State → ℕ → Option Refusal → Option Change → Reply → State
left s moment o c r = with_written (written_by (decided_by o c r) s moment) s

-- a call that changes nothing
reads : (s : State) (moment : ℕ) (o : Option Refusal) (r : Reply) → HasDefault s.catalogue → HasDefault (left s moment o None r).catalogue
reads s moment None r has = has
reads s moment (Some refusal) r has = has

-- a call that changes something where its rules aren't broken
changes : (s : State) (moment : ℕ) (rules : List Rule) (late : Option Refusal) (c : Change) (r : Reply) → (first_broken rules ≡ None → HasDefault (done c s.catalogue)) → HasDefault s.catalogue → HasDefault (left s moment (first_refusal (first_broken rules) late) (Some c) r).catalogue
changes s moment rules late c r keeps has = by_rules (first_broken rules) refl
  where
    by_operation : (b : Bool) → HasDefault (done c s.catalogue) → HasDefault (with_written (cond b (Some (kept (next_event s moment c))) None) s).catalogue
    by_operation true after = after
    by_operation false after = has

    by_number : (o : Option Refusal) → HasDefault (done c s.catalogue) → HasDefault (left s moment o (Some c) r).catalogue
    by_number None after = by_operation (has_operation c) after
    by_number (Some refusal) after = has

    by_rules : (o : Option Refusal) → first_broken rules ≡ o → HasDefault (left s moment (first_refusal o late) (Some c) r).catalogue
    by_rules None is = by_number late (keeps is)
    by_rules (Some refusal) is = has

-- a call that changes nothing, whatever it is refused for
reads_only : (s : State) (call : Call) (moment : ℕ) → HasDefault s.catalogue
    → HasDefault (left s moment (refusal s.catalogue (bars_of s) call moment (s.newest + 1)) None (result_of s.catalogue (bars_of s) call moment (s.newest + 1))).catalogue
reads_only s call moment has = reads s moment (refusal s.catalogue (bars_of s) call moment (s.newest + 1)) (result_of s.catalogue (bars_of s) call moment (s.newest + 1)) has

-- one that changes something, after which `default` stands alone where its rules aren't broken
changes_so : (s : State) (call : Call) (moment : ℕ) (c : Change) → (breaks s.catalogue (bars_of s) call ≡ None → HasDefault (done c s.catalogue)) → HasDefault s.catalogue
    → HasDefault (left s moment (first_refusal (breaks s.catalogue (bars_of s) call) (lacks_number (Some c) (s.newest + 1))) (Some c) (result_of s.catalogue (bars_of s) call moment (s.newest + 1))).catalogue
changes_so s call moment c keeps has = changes s moment (rules_of s.catalogue (bars_of s) call) (lacks_number (Some c) (s.newest + 1)) c (result_of s.catalogue (bars_of s) call moment (s.newest + 1)) keeps has

-- one that changes tables and partitions, if anything
on_tables : (s : State) (call : Call) (moment : ℕ) (o : Option Change) → ((c : Change) → o ≡ Some c → AllByRecursion IsOnTables c.ops) → HasDefault s.catalogue
    → HasDefault (left s moment (first_refusal (breaks s.catalogue (bars_of s) call) (lacks_number o (s.newest + 1))) o (result_of s.catalogue (bars_of s) call moment (s.newest + 1))).catalogue
on_tables s call moment None on has = reads s moment (first_refusal (breaks s.catalogue (bars_of s) call) None) (result_of s.catalogue (bars_of s) call moment (s.newest + 1)) has
on_tables s call moment (Some c) on has = changes_so s call moment c (λ none. table_keeps c s.catalogue (on c refl) has) has

-- ---- changes of partitions

puts_on : (name : List ℕ) (born : ℕ) (parts : PartList) → AllByRecursion IsOnTables (ops_under name born parts)
puts_on name born [] = tt
puts_on name born (part ∷ parts) = (tt, puts_on name born parts)

parts_on : (k : EventKind) (cat : Catalogue) (db name : List ℕ) (parts : PartList) (c : Change) → parts_put k cat db name parts ≡ Some c → AllByRecursion IsOnTables c.ops
parts_on k cat db name parts c is = by_test (has_operation made) is
  where
    made : Change
    made = part_change k cat db (ops_under name (table_born (table cat db name)) parts)

    by_test : (b : Bool) → cond b (Some made) None ≡ Some c → AllByRecursion IsOnTables c.ops
    by_test true same = let e : made ≡ c = cc in subst (λ (x : Change). AllByRecursion IsOnTables x.ops) e (puts_on name (table_born (table cat db name)) parts)
    by_test false same = absurd cc

added_on : (cat : Catalogue) (parts : List PartArg) (moment : ℕ) (c : Change) → partitions_added cat parts moment ≡ Some c → AllByRecursion IsOnTables c.ops
added_on cat [] moment c is = absurd cc
added_on cat (first ∷ more) moment c is =
    parts_on kind.AddPartition cat (kept_name first.db) (kept_name first.table) (list_added cat first.db first.table (first ∷ more) moment) c is

one_on : (k : EventKind) (cat : Catalogue) (db : List ℕ) (ops : List Op) (c : Change) → AllByRecursion IsOnTables ops → Some (part_change k cat db ops) ≡ Some c → AllByRecursion IsOnTables c.ops
one_on k cat db ops c on is = let e : part_change k cat db ops ≡ c = cc in subst (λ (x : Change). AllByRecursion IsOnTables x.ops) e on

renaming_on : (o : Option PartRec) (name : List ℕ) (born : ℕ) (values : List (List ℕ)) (new : PartArg) (moment : ℕ) → AllByRecursion IsOnTables (renaming o name born values new moment)
renaming_on None name born values new moment = tt
renaming_on (Some old) name born values new moment = either_on (revalues values new) _ _ (tt, tt) (tt, tt)

-- ---- changes of statistics

table_given_on : (o : Option HeldTable) (name : List ℕ) (f : StatMap → StatMap) → AllByRecursion IsOnTables (table_given o name f)
table_given_on None name f = tt
table_given_on (Some held) name f = (tt, tt)

part_given_on : (o : Option PartRec) (name : List ℕ) (born : ℕ) (values : List (List ℕ)) (f : StatMap → StatMap) → AllByRecursion IsOnTables (part_given o name born values f)
part_given_on None name born values f = tt
part_given_on (Some rec) name born values f = (tt, tt)

unless_on : (objects : List StatArg) (made c : Change) → AllByRecursion IsOnTables made.ops → unless_empty objects made ≡ Some c → AllByRecursion IsOnTables c.ops
unless_on [] made c on is = absurd cc
unless_on (object ∷ objects) made c on is = let e : made ≡ c = cc in subst (λ (x : Change). AllByRecursion IsOnTables x.ops) e on

table_updated_on : (cat : Catalogue) (new : StatsArg) (moment : ℕ) (c : Change) → table_updated cat new moment ≡ Some c → AllByRecursion IsOnTables c.ops
table_updated_on cat new moment c is = unless_on new.objects _ c (table_given_on (table cat (kept_name (said_db new.desc)) (kept_name (said_table new.desc))) (kept_name (said_table new.desc)) _) is

part_updated_on : (cat : Catalogue) (new : StatsArg) (moment : ℕ) (c : Change) → part_updated cat new moment ≡ Some c → AllByRecursion IsOnTables c.ops
part_updated_on cat new moment c is = unless_on new.objects _ c (part_given_on _ (kept_name (said_table new.desc)) _ _ _) is

-- a call that makes no database leaves `default` alone
leaves : (s : State) (caller : ℕ) (call : Call) (moment : ℕ) → MakesNone (ask.Client call) → HasDefault s.catalogue → HasDefault (due_in s caller (step.Client call moment)).state.catalogue
leaves s caller GetAllDatabases moment none has = reads_only s GetAllDatabases moment has
leaves s caller (GetDatabase name) moment none has = reads_only s (GetDatabase name) moment has
leaves s caller (CreateDatabase db) moment none has = absurd none
leaves s caller (DropDatabase name cascade) moment none has = changes_so s (DropDatabase name cascade) moment (database_dropped s.catalogue (kept_name (Some name))) (λ is. absurd (never_dropped s.catalogue (bars_of s) (kept_name (Some name)) cascade has is)) has
leaves s caller (GetDatabases pattern) moment none has = reads_only s (GetDatabases pattern) moment has
leaves s caller (AlterDatabase name db) moment none has = changes_so s (AlterDatabase name db) moment (database_altered s.catalogue (kept_name (Some name)) db) (λ is. altered s.catalogue (bars_of s) (kept_name (Some name)) db has is) has
leaves s caller (CreateTable new) moment none has = changes_so s (CreateTable new) moment (table_created s.catalogue new moment (s.newest + 1)) (λ is. table_keeps (table_created s.catalogue new moment (s.newest + 1)) s.catalogue (tt, tt) has) has
leaves s caller (DropTable db name) moment none has = changes_so s (DropTable db name) moment (table_dropped s.catalogue (kept_name (Some db)) (kept_name (Some name))) (λ is. table_keeps (table_dropped s.catalogue (kept_name (Some db)) (kept_name (Some name))) s.catalogue (tt, tt) has) has
leaves s caller (GetTables db pattern) moment none has = reads_only s (GetTables db pattern) moment has
leaves s caller (GetAllTables db) moment none has = reads_only s (GetAllTables db) moment has
leaves s caller (GetTable db name) moment none has = reads_only s (GetTable db name) moment has
leaves s caller (GetTableReq db name) moment none has = reads_only s (GetTableReq db name) moment has
leaves s caller (GetTableObjectsByName db tables) moment none has = reads_only s (GetTableObjectsByName db tables) moment has
leaves s caller (AlterTable db name new) moment none has = changes_so s (AlterTable db name new) moment (table_altered s.catalogue (kept_name (Some db)) (kept_name (Some name)) new moment) (λ is. table_keeps (table_altered s.catalogue (kept_name (Some db)) (kept_name (Some name)) new moment) s.catalogue (put_on (table s.catalogue (kept_name (Some db)) (kept_name (Some name))) (kept_name (Some name)) new moment) has) has
leaves s caller (GetFields db name) moment none has = reads_only s (GetFields db name) moment has
leaves s caller (GetSchema db name) moment none has = reads_only s (GetSchema db name) moment has
leaves s caller (AddPartition part) moment none has = on_tables s (AddPartition part) moment (list_change s.catalogue part.db part.table (part ∷ []) moment) (parts_on kind.AddPartition s.catalogue (kept_name part.db) (kept_name part.table) (list_added s.catalogue part.db part.table (part ∷ []) moment)) has
leaves s caller (AddPartitions parts) moment none has = on_tables s (AddPartitions parts) moment (partitions_added s.catalogue parts moment) (added_on s.catalogue parts moment) has
leaves s caller (AddPartitionsReq db name parts if_not_exists need_result) moment none has = on_tables s (AddPartitionsReq db name parts if_not_exists need_result) moment (list_change s.catalogue db name parts moment) (parts_on kind.AddPartition s.catalogue (kept_name db) (kept_name name) (list_added s.catalogue db name parts moment)) has
leaves s caller (AppendPartition db name values) moment none has = on_tables s (AppendPartition db name values) moment (partition_appended s.catalogue (kept_name (Some db)) (kept_name (Some name)) (meant_values (by_values values)) moment) (parts_on kind.AddPartition s.catalogue (kept_name (Some db)) (kept_name (Some name)) (appended (table s.catalogue (kept_name (Some db)) (kept_name (Some name))) (meant_values (by_values values)) moment)) has
leaves s caller (AppendPartitionByName db name called) moment none has = on_tables s (AppendPartitionByName db name called) moment (partition_appended s.catalogue (kept_name (Some db)) (kept_name (Some name)) (meant_values (by_name called)) moment) (parts_on kind.AddPartition s.catalogue (kept_name (Some db)) (kept_name (Some name)) (appended (table s.catalogue (kept_name (Some db)) (kept_name (Some name))) (meant_values (by_name called)) moment)) has
leaves s caller (DropPartition db name values) moment none has = changes_so s (DropPartition db name values) moment (partition_dropped s.catalogue (kept_name (Some db)) (kept_name (Some name)) (meant_values (by_values values))) (λ none. table_keeps (partition_dropped s.catalogue (kept_name (Some db)) (kept_name (Some name)) (meant_values (by_values values))) s.catalogue (tt, tt) has) has
leaves s caller (DropPartitionByName db name called) moment none has = changes_so s (DropPartitionByName db name called) moment (partition_dropped s.catalogue (kept_name (Some db)) (kept_name (Some name)) (meant_values (by_name called))) (λ none. table_keeps (partition_dropped s.catalogue (kept_name (Some db)) (kept_name (Some name)) (meant_values (by_name called))) s.catalogue (tt, tt) has) has
leaves s caller (GetPartition db name values) moment none has = reads_only s (GetPartition db name values) moment has
leaves s caller (GetPartitionByName db name called) moment none has = reads_only s (GetPartitionByName db name called) moment has
leaves s caller (GetPartitions db name max) moment none has = reads_only s (GetPartitions db name max) moment has
leaves s caller (GetPartitionNames db name max) moment none has = reads_only s (GetPartitionNames db name max) moment has
leaves s caller (GetPartitionsPs db name values max) moment none has = reads_only s (GetPartitionsPs db name values max) moment has
leaves s caller (GetPartitionNamesPs db name values max) moment none has = reads_only s (GetPartitionNamesPs db name values max) moment has
leaves s caller (GetPartitionsByNames db name named) moment none has = reads_only s (GetPartitionsByNames db name named) moment has
leaves s caller (AlterPartition db name part) moment none has = on_tables s (AlterPartition db name part) moment (parts_altered s.catalogue (kept_name (Some db)) (kept_name (Some name)) (part ∷ []) moment) (parts_on kind.AlterPartition s.catalogue (kept_name (Some db)) (kept_name (Some name)) (all_altered (table s.catalogue (kept_name (Some db)) (kept_name (Some name))) (part ∷ []) moment)) has
leaves s caller (AlterPartitions db name parts) moment none has = on_tables s (AlterPartitions db name parts) moment (parts_altered s.catalogue (kept_name (Some db)) (kept_name (Some name)) parts moment) (parts_on kind.AlterPartition s.catalogue (kept_name (Some db)) (kept_name (Some name)) (all_altered (table s.catalogue (kept_name (Some db)) (kept_name (Some name))) parts moment)) has
leaves s caller (RenamePartition db name values part) moment none has = changes_so s (RenamePartition db name values part) moment (partition_renamed s.catalogue (kept_name (Some db)) (kept_name (Some name)) values part moment) (λ none. table_keeps (partition_renamed s.catalogue (kept_name (Some db)) (kept_name (Some name)) values part moment) s.catalogue (renaming_on _ _ _ values part moment) has) has
leaves s caller (GetPartitionsByFilter db name filter max) moment none has = reads_only s (GetPartitionsByFilter db name filter max) moment has
leaves s caller (GetNumPartitionsByFilter db name filter) moment none has = reads_only s (GetNumPartitionsByFilter db name filter) moment has
leaves s caller (GetTableColumnStatistics db name col) moment none has = reads_only s (GetTableColumnStatistics db name col) moment has
leaves s caller (GetPartitionColumnStatistics db name part col) moment none has = reads_only s (GetPartitionColumnStatistics db name part col) moment has
leaves s caller (GetTableStatisticsReq db name cols) moment none has = reads_only s (GetTableStatisticsReq db name cols) moment has
leaves s caller (UpdateTableColumnStatistics new) moment none has = on_tables s (UpdateTableColumnStatistics new) moment (table_updated s.catalogue new moment) (table_updated_on s.catalogue new moment) has
leaves s caller (UpdatePartitionColumnStatistics new) moment none has = on_tables s (UpdatePartitionColumnStatistics new) moment (part_updated s.catalogue new moment) (part_updated_on s.catalogue new moment) has
leaves s caller (DeleteTableColumnStatistics db name col) moment none has = changes_so s (DeleteTableColumnStatistics db name col) moment (table_deleted s.catalogue (kept_name (Some db)) (kept_name (Some name)) col) (λ none. table_keeps (table_deleted s.catalogue (kept_name (Some db)) (kept_name (Some name)) col) s.catalogue (table_given_on _ _ _) has) has
leaves s caller (DeletePartitionColumnStatistics db name part col) moment none has = changes_so s (DeletePartitionColumnStatistics db name part col) moment (part_deleted s.catalogue (kept_name (Some db)) (kept_name (Some name)) part col) (λ none. table_keeps (part_deleted s.catalogue (kept_name (Some db)) (kept_name (Some name)) part col) s.catalogue (part_given_on _ _ _ _ _) has) has
leaves s caller (GetNextNotification last max) moment none has = reads_only s (GetNextNotification last max) moment has
leaves s caller GetCurrentNotificationEventId moment none has = reads_only s GetCurrentNotificationEventId moment has

stays : (p : Point) (caller : ℕ) (call : Call) (moment : ℕ) (a : Answer) → MakesNone (ask.Client call) → HasDefault p.state.catalogue → HasDefault (state_after_answer p.state caller (step.Client call moment) a).catalogue
stays p caller call moment answer.NoMemory none has = has
stays p caller call moment answer.StoreFault none has = has
stays p caller call moment (answer.Reply r) none has = leaves p.state caller call moment none has
stays p caller call moment (answer.Began dump source born begin end first) none has = leaves p.state caller call moment none has
stays p caller call moment (answer.Table item) none has = leaves p.state caller call moment none has
stays p caller call moment answer.NoTable none has = leaves p.state caller call moment none has
stays p caller call moment (answer.Parts parts more) none has = leaves p.state caller call moment none has
stays p caller call moment (answer.Sealed end) none has = leaves p.state caller call moment none has
stays p caller call moment (answer.Events events more) none has = leaves p.state caller call moment none has
stays p caller call moment answer.Ended none has = leaves p.state caller call moment none has
stays p caller call moment (answer.DumpRefused refusal) none has = leaves p.state caller call moment none has
stays p caller call moment (answer.Kept first) none has = leaves p.state caller call moment none has
stays p caller call moment answer.NotOpen none has = leaves p.state caller call moment none has

-- ---- what steps of dumps and trims leave

-- the number of a dump and the first kept number are no part of the catalogue
drawn_keeps : (s : State) (o : Option DumpRefusal) → (with_written (drawn_by o s.last_dump) s).catalogue ≡ s.catalogue
drawn_keeps s None = refl
drawn_keeps s (Some refusal) = refl

trimmed_keeps : (s : State) (first : ℕ) → (with_written (written_first s.first first) s).catalogue ≡ s.catalogue
trimmed_keeps s first = by_test (s.first == first)
  where
    by_test : (b : Bool) → (with_written (cond b None (Some (trimmed first))) s).catalogue ≡ s.catalogue
    by_test true = refl
    by_test false = refl

no_call_keeps : (s : State) (caller : ℕ) (t : Step) → IsNoCall t → (due_in s caller t).state.catalogue ≡ s.catalogue
no_call_keeps s caller (step.Client call moment) free = absurd free
no_call_keeps s caller (step.DumpBegin db from to limit) free = drawn_keeps s (refused_dump s db (asked_for from to limit))
no_call_keeps s caller (step.DumpTable dump after) free = refl
no_call_keeps s caller (step.DumpParts dump table born after) free = refl
no_call_keeps s caller (step.DumpSeal dump) free = refl
no_call_keeps s caller (step.DumpEvents dump after) free = refl
no_call_keeps s caller (step.DumpEnd dump) free = refl
no_call_keeps s caller (step.Trim upto) free = trimmed_keeps s (first_after_trim s upto)

no_call_stays : (s : State) (caller : ℕ) (t : Step) (a : Answer) → IsNoCall t → HasDefault s.catalogue → HasDefault (state_after_answer s caller t a).catalogue
no_call_stays s caller t a free has = by_test (is_refused a)
  where
    by_test : (b : Bool) → HasDefault (cond b s (due_in s caller t).state).catalogue
    by_test true = has
    by_test false = ap (λ (cat : Catalogue). keys_of cat.databases) (no_call_keeps s caller t free) ∙ has

-- ---- messages

-- where the history stands behind the entries of a message
abbrev Behind : List Entry → Type 0
Behind more = (q : Point) × HasDefault q.state.catalogue × IsLegal q (map took more)

-- a call of the catalogue that makes no database
one_call : (p : Point) (call : Call) (entries more : List Entry) (before after : Shelf) (due reply : Reply) → HasDefault p.state.catalogue → MakesNone (ask.Client call) → IsLegal p (map took (entries ++ more)) → Due (ask.Client call) entries before after due → (reply ≡ due) ⊎ (reply ≡ out_of_memory)
    → Lists names (ask.Client call) reply × Behind more
one_call p call entries more before after due reply has none legal d which =
    let all : IsLegal p (map took ((d.0 ∷ []) ++ more)) = subst (λ (es : List Entry). IsLegal p (map took (es ++ more))) d.2 legal in
    let behind : HasDefault (next p (took d.0)).state.catalogue = subst (λ (s : Step). HasDefault (state_after_answer p.state d.0.0.caller s d.0.1.answer).catalogue) (sym d.3) (stays p d.0.0.caller call d.1 d.0.1.answer none has) in
    (lists p d.0 call d.1 due reply has d.3 all.0 d.4 which, (next p (took d.0), behind, all.1))

-- what is no call
no_call : (p : Point) (entries more : List Entry) → HasDefault p.state.catalogue → IsLegal p (map took (entries ++ more)) → entries ≡ [] → Behind more
no_call p entries more has legal is = (p, has, subst (λ (es : List Entry). IsLegal p (map took (es ++ more))) is legal)

-- what takes no step that is a call
steps_behind : (p : Point) (entries more : List Entry) → HasDefault p.state.catalogue → IsLegal p (map took (entries ++ more)) → NoCalls entries → Behind more
steps_behind p [] more has legal none = (p, has, legal)
steps_behind p (e ∷ es) more has legal none = steps_behind (next p (took e)) es more (no_call_stays p.state e.0.caller e.0.step e.1.answer none.0 has) legal.1 none.1

one_message : (p : Point) (asked : Asked) (entries more : List Entry) (before after : Shelf) (due reply : Reply) → HasDefault p.state.catalogue → MakesNone asked → IsLegal p (map took (entries ++ more)) → Due asked entries before after due → (reply ≡ due) ⊎ (reply ≡ out_of_memory)
    → Lists names asked reply × Behind more
one_message p (ask.Client call) entries more before after due reply has none legal d which = one_call p call entries more before after due reply has none legal d which
one_message p (ask.Dump db from to limit) entries more before after due reply has none legal d which = (tt, steps_behind p entries more has legal (in_dump _ d.0 before.files after.files entries d.1.dumps))
one_message p (ask.Trim upto) entries more before after due reply has none legal d which = (tt, steps_behind p entries more has legal (subst NoCalls (sym d.1) (subst IsNoCall (sym d.2) tt, tt)))
one_message p (ask.Plain r) entries more before after due reply has none legal d which = (tt, no_call p entries more has legal d.0)
one_message p ask.Unknown entries more before after due reply has none legal d which = (tt, no_call p entries more has legal d.0)
one_message p (ask.BadArgument id) entries more before after due reply has none legal d which = (tt, no_call p entries more has legal d.0)
one_message p ask.Shutdown entries more before after due reply has none legal d which = absurd d

all_turns : (p : Point) (turns : List Turn) → HasDefault p.state.catalogue → AllByRecursion IsTurn turns → AllByRecursion (λ (turn : Turn). MakesNone (asks turn.message)) turns → IsLegal p (map took (flat_map (λ turn. turn.entries) turns))
    → AllByRecursion (λ (turn : Turn). Lists names (asks turn.message) turn.reply) turns
all_turns p [] new each none legal = tt
all_turns p (t ∷ ts) new each none legal =
    let one = one_message p (asks t.message) t.entries (flat_map (λ turn. turn.entries) ts) t.before t.after each.0.0 t.reply new none.0 legal each.0.1 each.0.2 in
    (one.0, all_turns one.1.0 ts one.1.1 each.1 none.1 one.1.2)

pub lists_default : AloneListsDefault
lists_default id base turns bytes clock clock' shelf shelf' entries carried legal none =
    all_turns (point_of (record { state = start id base; fault = 0; past = [] })) turns refl carried.each none (subst (λ (es : List Entry). IsLegal (point_of (record { state = start id base; fault = 0; past = [] })) (map took es)) carried.own legal)
