-- What a store answers to a call is a reply that the call can have.
use Rattle.std.proofs.Common.{◌≡◌, ◌≢◌, ◌⊎◌, ◌&&◌, ℕ, Bool, true, false, not, nat_lt, List, [], ◌∷◌, ◌++◌, map, Option, Some, None, is_some, IsSome, IfOk, Result, Ok, Err, ℤ, inl, inr, refl, sym, ap, subst}
use Rattle.std.proofs.lemmas.Bool.{false≢true}
use Rattle.std.specs.Prelude.{◌+◌, cond, if◌then◌else◌}
use Rattle.cat_values.specs.declared.records.PartRec.{PartRec}
use Rattle.cat_values.specs.declared.storage.Column.{Column}
use Rattle.cat_types.specs.declared.arguments.PartArg.{PartArg}
use Rattle.cat_types.specs.declared.calls.Call.{Call}
use Rattle.cat_types.specs.declared.calls.Call.TheVariants.{AddPartition, AddPartitions, AddPartitionsReq, AlterDatabase, AlterPartition, AlterPartitions, AlterTable, AppendPartition, AppendPartitionByName, CreateDatabase, CreateTable, DeletePartitionColumnStatistics, DeleteTableColumnStatistics, DropDatabase, DropPartition, DropPartitionByName, DropTable, GetAllDatabases, GetAllTables, GetCurrentNotificationEventId, GetDatabase, GetDatabases, GetFields, GetNextNotification, GetNumPartitionsByFilter, GetPartition, GetPartitionByName, GetPartitionColumnStatistics, GetPartitionNames, GetPartitionNamesPs, GetPartitions, GetPartitionsByFilter, GetPartitionsByNames, GetPartitionsPs, GetSchema, GetTable, GetTableColumnStatistics, GetTableObjectsByName, GetTableReq, GetTableStatisticsReq, GetTables, RenamePartition, UpdatePartitionColumnStatistics, UpdateTableColumnStatistics}
use Rattle.cat_types.specs.declared.changes.Change.{Change}
use Rattle.cat_types.specs.declared.replies.Reply.{Reply}
use Rattle.cat_types.specs.declared.replies.Reply.TheVariants.{Refused}
use Rattle.cat_types.specs.declared.steps.Answer.{Answer}
use Rattle.cat_types.specs.declared.steps.Answer.TheVariants as answer
use Rattle.cat_types.specs.declared.steps.Step.{Step}
use Rattle.cat_types.specs.declared.steps.Step.TheVariants as step
use Rattle.cat_objects.specs.Catalogue.{Catalogue, database, has_database, has_table, parts_of, table}
use Rattle.cat_objects.specs.Changes.{has_operation}
use Rattle.cat_objects.specs.Parts.{at_values}
use Rattle.cat_objects.specs.declared.held.HeldTable.{HeldTable}
use Rattle.rulings.specs.Rules.{Rule, first_broken}
use Rattle.rulings.specs.Bars.{is_replica}
use Rattle.rulings.specs.Names.{kept_name, names_database, names_table}
use Rattle.table_rules.specs.Databases.{shown_as}
use Rattle.rulings.specs.Decisions.{decided_by}
use Rattle.part_rules.specs.PartChanges.{add_list_rules, add_partitions_rules, append_partition_rules, appended, appended_as, behind, count_added, each_added_rules, each_altered_rules, is_elsewhere, is_full, is_taken, list_told, new_part_rules, one_added_rules, told_if}
use Rattle.rulings.specs.Changes.{may_have}
use Rattle.rulings.specs.Meant.{Meaning, by_name, by_values, holds_meant, may_mean, meant_values, stored_values, table_keys}
use Rattle.rulings.specs.Listed.{all_named}
use Rattle.part_rules.specs.Partitions.{part_as}
use Rattle.filter_expr.specs.Reading.{IsFault, Reads}
use Rattle.filter_expr.specs.Trees.{Any}
use Rattle.filter_expr.specs.declared.expr.Comparison.{Comparison}
use Rattle.filter_expr.specs.declared.fault.FilterFault.{FilterFault}
use Rattle.filter_expr.specs.declared.fault.FilterFault.TheVariants as fault
use Rattle.filter_expr.proofs.Descending.{read_or_refused}
use Rattle.filter_rules.specs.Filters.{by_filter_rules, filter_of, read_rules, refusal_by, taken_for}
use Rattle.catalogue.specs.Polls.{poll_of}
use Rattle.rulings.specs.Refusals.{refusal_reply, refusal_text}
use Rattle.catalogue.specs.Rules.{breaks, change, first_refusal, lacks_number, result_of, rules_of}
use Rattle.table_rules.specs.Tables.{columns_as, get_table_req_rules, requested_table, schema_as, table_as}
use Rattle.rulings.specs.declared.bars.Bars.{Bars}
use Rattle.catalogue.specs.declared.poll.Poll.{Poll}
use Rattle.rulings.specs.declared.refusal.Refusal.{Refusal}
use Rattle.rulings.specs.declared.refusal.Refusal.TheVariants.{AlreadyExists, EventNumbersUsedUp, FilterSyntax, FilterTooDeep, FilterUnknownKey, FilterWrongType, InvalidObject, InvalidOperation, InvalidRequest, IsReplica, NoSuchObject}
use Rattle.desk.specs.History.{Entry, IsLegal, Legal, MayFollow, Point, Start, next, point_of, took}
use Rattle.desk.specs.State.{MayAnswer, State, bars_of, decision_of, reply_by, reply_in as due_reply}
use Rattle.ms_calls.specs.declared.method.Method.{Method}
use Rattle.ms_calls.specs.declared.method.Method.TheVariants as method
use Rattle.ms_calls.specs.Asked.{CameAs, IsMethodOf}
use Rattle.ms_calls.specs.Exceptions.{declared_id, general_code}
use Rattle.ms_calls.specs.Refusals.{out_of_memory, store_fault}
use Rattle.ms_calls.specs.Replies.{CanReply, fields_of_reply, one_part, refused_as, result_fields}
use Rattle.ms_calls.specs.declared.method.ResultType.TheVariants as of
use Rattle.ms_session.specs.Turns.{AnswersCall, IsReplyTo}

-- ---- results of calls

-- the one reply that an answer makes
abbrev pub reply_in : Answer → Reply
reply_in (answer.Reply told) = told
reply_in answer.StoreFault = store_fault
reply_in answer.NoMemory = out_of_memory
reply_in other = out_of_memory

pub is_reply : (a : Answer) → AnswersCall a → IsReplyTo a (reply_in a)
is_reply (answer.Reply told) call = refl
is_reply answer.StoreFault call = refl
is_reply answer.NoMemory call = refl
is_reply (answer.Began dump source born begin end first) call = absurd call
is_reply (answer.Table item) call = absurd call
is_reply answer.NoTable call = absurd call
is_reply (answer.Parts parts more) call = absurd call
is_reply (answer.Sealed end) call = absurd call
is_reply (answer.Events events more) call = absurd call
is_reply answer.Ended call = absurd call
is_reply (answer.DumpRefused refusal) call = absurd call
is_reply (answer.Kept first) call = absurd call
is_reply answer.NotOpen call = absurd call

pub only_reply : (a : Answer) (reply : Reply) → IsReplyTo a reply → reply ≡ reply_in a
only_reply (answer.Reply told) reply is = is
only_reply answer.StoreFault reply is = is
only_reply answer.NoMemory reply is = is
only_reply (answer.Began dump source born begin end first) reply is = absurd is
only_reply (answer.Table item) reply is = absurd is
only_reply answer.NoTable reply is = absurd is
only_reply (answer.Parts parts more) reply is = absurd is
only_reply (answer.Sealed end) reply is = absurd is
only_reply (answer.Events events more) reply is = absurd is
only_reply answer.Ended reply is = absurd is
only_reply (answer.DumpRefused refusal) reply is = absurd is
only_reply (answer.Kept first) reply is = absurd is
only_reply answer.NotOpen reply is = absurd is

pub only_replies : {E : Type 0} (a : Answer) (result : Result Reply E) → IfOk result (IsReplyTo a) → IfOk result (λ reply. reply ≡ reply_in a)
only_replies a (Ok reply) is = only_reply a reply is
only_replies a (Err e) is = tt

-- ---- refusals

-- whether a call can be answered a refusal under a name of its own
abbrev tells : Method → Refusal → Bool
tells m refusal = is_some (fields_of_reply (Some m) (refusal_reply refusal))

-- whether it can be answered each refusal of these rules
abbrev tells_all : Method → List Rule → Bool
tells_all m [] = true
tells_all m (rule ∷ rules) = tells m rule.1 && tells_all m rules

both : (a b : Bool) → (a && b) ≡ true → (a ≡ true) × (b ≡ true)
both true b is = (refl, is)
both false b is = absurd cc

-- a rule that is broken is among them
broken : (m : Method) (rules : List Rule) (refusal : Refusal) → tells_all m rules ≡ true → first_broken rules ≡ Some refusal → tells m refusal ≡ true
broken m [] refusal all is = absurd cc
broken m (rule ∷ rules) refusal all is =
    let each = both (tells m rule.1) (tells_all m rules) all in
    by_test rule.0 is each.0 (λ later. broken m rules refusal each.1 later)
  where
    by_test : (b : Bool) → cond b (Some rule.1) (first_broken rules) ≡ Some refusal → tells m rule.1 ≡ true → (first_broken rules ≡ Some refusal → tells m refusal ≡ true) → tells m refusal ≡ true
    by_test true same one later = let e : rule.1 ≡ refusal = cc in subst (λ (x : Refusal). tells m x ≡ true) e one
    by_test false same one later = later same

-- so is the end of event numbers, where it comes
numbered : (m : Method) (o : Option Change) (next : ℕ) (refusal : Refusal) → tells m EventNumbersUsedUp ≡ true → lacks_number o next ≡ Some refusal → tells m refusal ≡ true
numbered m None next refusal one is = absurd cc
numbered m (Some change) next refusal one is = by_test (has_operation change && nat_lt 9223372036854775807 next) is
  where
    by_test : (b : Bool) → cond b (Some EventNumbersUsedUp) None ≡ Some refusal → tells m refusal ≡ true
    by_test true same = let e : EventNumbersUsedUp ≡ refusal = cc in subst (λ (x : Refusal). tells m x ≡ true) e one
    by_test false same = absurd cc

-- what is decided by rules can be answered where each of their refusals can, the end of event numbers, and the result where none of them is broken
decided : (m : Method) (rules : List Rule) (change : Option Change) (next : ℕ) (result : Reply) → tells_all m rules ≡ true → tells m EventNumbersUsedUp ≡ true → (first_broken rules ≡ None → CanReply (Some m) result)
    → CanReply (Some m) (reply_by (decided_by (first_refusal (first_broken rules) (lacks_number change next)) change result))
decided m rules change next result all one can = by_rules (first_broken rules) refl
  where
    by_number : (o : Option Refusal) → lacks_number change next ≡ o → CanReply (Some m) result → CanReply (Some m) (reply_by (decided_by o change result))
    by_number None is has = has
    by_number (Some refusal) is has = numbered m change next refusal one is

    by_rules : (o : Option Refusal) → first_broken rules ≡ o → CanReply (Some m) (reply_by (decided_by (first_refusal o (lacks_number change next)) change result))
    by_rules None is = by_number (lacks_number change next) refl (can is)
    by_rules (Some refusal) is = broken m rules refusal all is

-- ---- results

-- where the one rule is that something is there, what is shown is shown of it
found : {R : Type 0} (m : Method) (held : Option R) (refusal : Refusal) (shown : Option R → Reply) → ((r : R) → CanReply (Some m) (shown (Some r))) → first_broken ((not (is_some held), refusal) ∷ []) ≡ None → CanReply (Some m) (shown held)
found m None refusal shown can is = absurd cc
found m (Some r) refusal shown can is = can r

-- the same of a table whose names may be absent
requested : (cat : Catalogue) (db name : Option (List ℕ)) → first_broken (get_table_req_rules cat db name) ≡ None → CanReply (Some method.GetTableReq) (requested_table cat db name)
requested cat None name is = absurd cc
requested cat (Some db) None is = absurd cc
requested cat (Some db) (Some name) is =
    found method.GetTableReq (table cat (kept_name (Some db)) (kept_name (Some name))) NoSuchObject (λ held. table_as held (kept_name (Some db)) (kept_name (Some name))) (λ held. refl) is

-- the one partition that was asked for, where the one rule is that it is there
part_found : (m : Method) (held : Option HeldTable) (meant : Meaning) (db name : List ℕ) → ((rec : PartRec) → CanReply (Some m) (part_as (Some rec) db name (meant_values meant))) → first_broken ((not (holds_meant held meant), NoSuchObject) ∷ []) ≡ None
    → CanReply (Some m) (part_as (at_values (meant_values meant) (parts_of held)) db name (meant_values meant))
part_found m None meant db name can is = absurd cc
part_found m (Some held) meant db name can is = by_test (may_mean held.rec.keys meant) (at_values (meant_values meant) held.parts) is
  where
    by_test : (may : Bool) (there : Option PartRec) → first_broken ((not (may && is_some there), NoSuchObject) ∷ []) ≡ None → CanReply (Some m) (part_as there db name (meant_values meant))
    by_test true (Some rec) fine = can rec
    by_test true None fine = absurd cc
    by_test false there fine = absurd cc

-- ---- partitions that are added

-- a first rule that isn't broken, and those behind it
unbroken : (rule : Rule) (rules : List Rule) → first_broken (rule ∷ rules) ≡ None → (rule.0 ≡ false) × (first_broken rules ≡ None)
unbroken rule rules is = by_test rule.0 is
  where
    by_test : (b : Bool) → cond b (Some rule.1) (first_broken rules) ≡ None → (b ≡ false) × (first_broken rules ≡ None)
    by_test true same = absurd cc
    by_test false same = (refl, same)

-- one partition alone is added, or passed over
one_alone : (db name : List ℕ) (values : List (List ℕ)) (rec : PartRec) (taken : Bool) → (taken && true) ≡ false → IsSome (one_part (all_named db name ((if taken then [] else (values, rec) ∷ []) ++ [])))
one_alone db name values rec true free = absurd (false≢true (sym free))
one_alone db name values rec false free = refl

-- the one partition that was added, where no rule of adding it is broken
added_alone : (cat : Catalogue) (bars : Bars) (part : PartArg) (moment : ℕ) → first_broken (add_list_rules true false cat bars part.db part.table (part ∷ [])) ≡ None → IsSome (result_fields of.OnePart (list_told (told_if true) cat part.db part.table (part ∷ []) moment))
added_alone cat bars part moment fine =
    let db = kept_name part.db in
    let name = kept_name part.table in
    let held = table cat db name in
    let values = stored_values part.values in
    let rest = each_added_rules true false held db name (behind held [] values) [] in
    let full = (not (is_taken held [] values) && is_full held [], InvalidObject) ∷ rest in
    let taken = (is_taken held [] values && true, AlreadyExists) ∷ full in
    let having = (not (may_have held values), InvalidObject) ∷ taken in
    let elsewhere = (is_elsewhere true db name part, InvalidObject) ∷ having in
    let there = (not (names_table cat part.db part.table), InvalidObject) ∷ elsewhere in
    let replica = (is_replica bars db, IsReplica) ∷ there in
    let one = unbroken (not (names_database cat part.db), InvalidObject) replica fine in
    let two = unbroken (is_replica bars db, IsReplica) there one.1 in
    let three = unbroken (not (names_table cat part.db part.table), InvalidObject) elsewhere two.1 in
    let four = unbroken (is_elsewhere true db name part, InvalidObject) having three.1 in
    let five = unbroken (not (may_have held values), InvalidObject) taken four.1 in
    let six = unbroken (is_taken held [] values && true, AlreadyExists) full five.1 in
    one_alone db name values _ (is_taken held [] values) six.0

-- the one partition that was appended, where its table is there
appended_alone : (db name : List ℕ) (values : List (List ℕ)) (moment : ℕ) (held : Option HeldTable) → not (is_some held) ≡ false → IsSome (one_part (all_named db name (appended held values moment)))
appended_alone db name values moment None there = absurd (false≢true (sym there))
appended_alone db name values moment (Some held) there = refl

appended_fine : (cat : Catalogue) (bars : Bars) (db name : List ℕ) (meant : Meaning) (values : List (List ℕ)) (moment : ℕ) → first_broken (append_partition_rules cat bars db name meant) ≡ None → IsSome (result_fields of.OnePart (appended_as cat db name values moment))
appended_fine cat bars db name meant values moment fine =
    let others = (not (may_mean (table_keys (table cat db name)) meant), InvalidObject) ∷ new_part_rules (table cat db name) (meant_values meant) in
    let there = (not (has_table cat db name), InvalidObject) ∷ others in
    let replica = (is_replica bars db, IsReplica) ∷ there in
    let one = unbroken (not (has_database cat db), InvalidObject) replica fine in
    let two = unbroken (is_replica bars db, IsReplica) there one.1 in
    let three = unbroken (not (has_table cat db name), InvalidObject) others two.1 in
    appended_alone db name values moment (table cat db name) three.0

-- how many were added can be told
counted : (cat : Catalogue) (parts : List PartArg) (moment : ℕ) → CanReply (Some method.AddPartitions) (count_added cat parts moment)
counted cat [] moment = refl
counted cat (first ∷ more) moment = refl

-- those that were added can be told, and nothing of them too
told_or_not : (cat : Catalogue) (db name : Option (List ℕ)) (parts : List PartArg) (moment : ℕ) (wanted : Bool) → CanReply (Some method.AddPartitionsReq) (list_told (told_if wanted) cat db name parts moment)
told_or_not cat db name parts moment true = refl
told_or_not cat db name parts moment false = refl

-- ---- rules of lists

-- a call can be answered each refusal of two lists of rules
tells_both : (m : Method) (rules more : List Rule) → tells_all m rules ≡ true → tells_all m more ≡ true → tells_all m (rules ++ more) ≡ true
tells_both m [] more one two = two
tells_both m (rule ∷ rules) more one two =
    let each = both (tells m rule.1) (tells_all m rules) one in
    λ i. each.0 i && tells_both m rules more each.1 two i

-- so each of those for the partitions of a list
tells_added : (m : Method) (needs passes : Bool) (held : Option HeldTable) (db name : List ℕ) (earlier : List (List (List ℕ))) (parts : List PartArg) → tells m InvalidObject ≡ true → tells m AlreadyExists ≡ true
    → tells_all m (each_added_rules needs passes held db name earlier parts) ≡ true
tells_added m needs passes held db name earlier [] object exists = refl
tells_added m needs passes held db name earlier (new ∷ more) object exists =
    tells_both m (one_added_rules needs passes held db name earlier new) (each_added_rules needs passes held db name (behind held earlier (stored_values new.values)) more)
    (λ i. object i && (object i && (exists i && (object i && true))))
    (tells_added m needs passes held db name (behind held earlier (stored_values new.values)) more object exists)

tells_altered : (m : Method) (held : Option HeldTable) (earlier : List (List (List ℕ))) (parts : List PartArg) → tells m InvalidOperation ≡ true → tells_all m (each_altered_rules held earlier parts) ≡ true
tells_altered m held earlier [] operation = refl
tells_altered m held earlier (new ∷ more) operation = λ i. operation i && (operation i && (operation i && tells_altered m held (earlier ++ stored_values new.values ∷ []) more operation i))

-- partitions without a table of their own
tells_many : (cat : Catalogue) (bars : Bars) (parts : List PartArg) → tells_all method.AddPartitions (add_partitions_rules cat bars parts) ≡ true
tells_many cat bars [] = refl
tells_many cat bars (first ∷ more) = tells_added method.AddPartitions true false (table cat (kept_name first.db) (kept_name first.table)) (kept_name first.db) (kept_name first.table) [] (first ∷ more) refl refl

-- ---- rules of filters

-- a call that can be answered each refusal with number 6
abbrev TellsFilters : Method → Type 0
TellsFilters m = (text : List ℕ) → IsSome (fields_of_reply (Some m) (Refused 6 text))

-- so can one whose filter has a fault
tells_fault : (m : Method) (f : FilterFault) (due : f ≢ fault.NoMemory) → TellsFilters m → tells m (refusal_by f due) ≡ true
tells_fault m (fault.Syntax place) due six = six (refusal_text (FilterSyntax place))
tells_fault m fault.TooDeep due six = six (refusal_text FilterTooDeep)
tells_fault m (fault.UnknownKey key) due six = six (refusal_text (FilterUnknownKey key))
tells_fault m (fault.WrongType key) due six = six (refusal_text (FilterWrongType key))
tells_fault m fault.NoMemory due six = absurd (due refl)

tells_read : (m : Method) (text : List ℕ) (keys : List Column) (either : ((tree : Option (Any Comparison)) × Reads text keys tree) ⊎ ((f : FilterFault) × (f ≢ fault.NoMemory) × IsFault text keys f)) → TellsFilters m
    → tells_all m (read_rules (taken_for text keys either)) ≡ true
tells_read m text keys (inl read) six = refl
tells_read m text keys (inr refused) six = λ i. tells_fault m refused.0 refused.1 six i && true

-- and so can a call that asks by a filter, whatever the filter is
tells_filtered : (m : Method) (cat : Catalogue) (db name text : List ℕ) → tells m NoSuchObject ≡ true → TellsFilters m → tells_all m (by_filter_rules cat db name text) ≡ true
unfolding filter_of
tells_filtered m cat db name text absent six = λ i. absent i && tells_read m text (table_keys (table cat db name)) (read_or_refused text (table_keys (table cat db name))) six i

-- ---- calls

-- what a message with this method can be answered: a fault of the store, and what is due to the call
record Can (s : State) (call : Call) (moment : ℕ) (m : Method) : Type 0 where
  fault : CanReply (Some m) store_fault
  due : CanReply (Some m) (due_reply s (poll_of call) (decision_of s call moment))

-- a call that is no poll, by its rules and its result
by_rules : (s : State) (call : Call) (moment : ℕ) (m : Method) → poll_of call ≡ None → CanReply (Some m) store_fault → tells_all m (rules_of s.catalogue (bars_of s) call) ≡ true → tells m EventNumbersUsedUp ≡ true
    → (breaks s.catalogue (bars_of s) call ≡ None → CanReply (Some m) (result_of s.catalogue (bars_of s) call moment (s.newest + 1))) → Can s call moment m
by_rules s call moment m none fault all one can = record {
  fault = fault;
  due = subst (λ (o : Option Poll). CanReply (Some m) (due_reply s o (decision_of s call moment))) (sym none)
      (decided m (rules_of s.catalogue (bars_of s) call) (change s.catalogue (bars_of s) call moment (s.newest + 1)) (s.newest + 1) (result_of s.catalogue (bars_of s) call moment (s.newest + 1)) all one can);
}

-- the same under the name under which the call came
named : (s : State) (call : Call) (moment : ℕ) (m n : Method) → n ≡ m → Can s call moment m → Can s call moment n
named s call moment m n is can = subst (λ (n : Method). Can s call moment n) (sym is) can

by_method : (s : State) (call : Call) (moment : ℕ) (m : Method) → IsMethodOf call m → Can s call moment m
by_method s GetAllDatabases moment m is = subst (λ (n : Method). Can s GetAllDatabases moment n) (sym is) (by_rules s GetAllDatabases moment method.GetAllDatabases refl refl refl refl (λ none. refl))
by_method s (GetDatabase name) moment m is = subst (λ (n : Method). Can s (GetDatabase name) moment n) (sym is) (by_rules s (GetDatabase name) moment method.GetDatabase refl refl refl refl (found method.GetDatabase (database s.catalogue (kept_name (Some name))) NoSuchObject (λ held. shown_as held (bars_of s).replicas (kept_name (Some name))) (λ held. refl)))
by_method s (CreateDatabase db) moment m is = subst (λ (n : Method). Can s (CreateDatabase db) moment n) (sym is) (by_rules s (CreateDatabase db) moment method.CreateDatabase refl refl refl refl (λ none. refl))
by_method s (DropDatabase name cascade) moment m is = subst (λ (n : Method). Can s (DropDatabase name cascade) moment n) (sym is) (by_rules s (DropDatabase name cascade) moment method.DropDatabase refl refl refl refl (λ none. refl))
by_method s (GetDatabases pattern) moment m is = subst (λ (n : Method). Can s (GetDatabases pattern) moment n) (sym is) (by_rules s (GetDatabases pattern) moment method.GetDatabases refl refl refl refl (λ none. refl))
by_method s (AlterDatabase name db) moment m is = subst (λ (n : Method). Can s (AlterDatabase name db) moment n) (sym is) (by_rules s (AlterDatabase name db) moment method.AlterDatabase refl refl refl refl (λ none. refl))
by_method s (CreateTable new) moment m (inl is) = subst (λ (n : Method). Can s (CreateTable new) moment n) (sym is) (by_rules s (CreateTable new) moment method.CreateTable refl refl refl refl (λ none. refl))
by_method s (CreateTable new) moment m (inr is) = subst (λ (n : Method). Can s (CreateTable new) moment n) (sym is) (by_rules s (CreateTable new) moment method.CreateTableWithEnvironmentContext refl refl refl refl (λ none. refl))
by_method s (DropTable db name) moment m (inl is) = subst (λ (n : Method). Can s (DropTable db name) moment n) (sym is) (by_rules s (DropTable db name) moment method.DropTable refl refl refl refl (λ none. refl))
by_method s (DropTable db name) moment m (inr is) = subst (λ (n : Method). Can s (DropTable db name) moment n) (sym is) (by_rules s (DropTable db name) moment method.DropTableWithEnvironmentContext refl refl refl refl (λ none. refl))
by_method s (GetTables db pattern) moment m is = subst (λ (n : Method). Can s (GetTables db pattern) moment n) (sym is) (by_rules s (GetTables db pattern) moment method.GetTables refl refl refl refl (λ none. refl))
by_method s (GetAllTables db) moment m is = subst (λ (n : Method). Can s (GetAllTables db) moment n) (sym is) (by_rules s (GetAllTables db) moment method.GetAllTables refl refl refl refl (λ none. refl))
by_method s (GetTable db name) moment m is = subst (λ (n : Method). Can s (GetTable db name) moment n) (sym is) (by_rules s (GetTable db name) moment method.GetTable refl refl refl refl (found method.GetTable (table s.catalogue (kept_name (Some db)) (kept_name (Some name))) NoSuchObject (λ held. table_as held (kept_name (Some db)) (kept_name (Some name))) (λ held. refl)))
by_method s (GetTableReq db name) moment m is = subst (λ (n : Method). Can s (GetTableReq db name) moment n) (sym is) (by_rules s (GetTableReq db name) moment method.GetTableReq refl refl refl refl (requested s.catalogue db name))
by_method s (GetTableObjectsByName db names) moment m is = subst (λ (n : Method). Can s (GetTableObjectsByName db names) moment n) (sym is) (by_rules s (GetTableObjectsByName db names) moment method.GetTableObjectsByName refl refl refl refl (λ none. refl))
by_method s (AlterTable db name new) moment m (inl is) = subst (λ (n : Method). Can s (AlterTable db name new) moment n) (sym is) (by_rules s (AlterTable db name new) moment method.AlterTable refl refl refl refl (λ none. refl))
by_method s (AlterTable db name new) moment m (inr is) = subst (λ (n : Method). Can s (AlterTable db name new) moment n) (sym is) (by_rules s (AlterTable db name new) moment method.AlterTableWithEnvironmentContext refl refl refl refl (λ none. refl))
by_method s (GetFields db name) moment m is = subst (λ (n : Method). Can s (GetFields db name) moment n) (sym is) (by_rules s (GetFields db name) moment method.GetFields refl refl refl refl (found method.GetFields (table s.catalogue (kept_name (Some db)) (kept_name (Some name))) InvalidRequest columns_as (λ held. refl)))
by_method s (GetSchema db name) moment m is = subst (λ (n : Method). Can s (GetSchema db name) moment n) (sym is) (by_rules s (GetSchema db name) moment method.GetSchema refl refl refl refl (found method.GetSchema (table s.catalogue (kept_name (Some db)) (kept_name (Some name))) InvalidRequest schema_as (λ held. refl)))
by_method s (AddPartition part) moment m (inl is) = named s (AddPartition part) moment method.AddPartition m is (by_rules s (AddPartition part) moment method.AddPartition refl refl (tells_added method.AddPartition true false (table s.catalogue (kept_name part.db) (kept_name part.table)) (kept_name part.db) (kept_name part.table) [] (part ∷ []) refl refl) refl (added_alone s.catalogue (bars_of s) part moment))
by_method s (AddPartition part) moment m (inr is) = named s (AddPartition part) moment method.AddPartitionWithEnvironmentContext m is (by_rules s (AddPartition part) moment method.AddPartitionWithEnvironmentContext refl refl (tells_added method.AddPartitionWithEnvironmentContext true false (table s.catalogue (kept_name part.db) (kept_name part.table)) (kept_name part.db) (kept_name part.table) [] (part ∷ []) refl refl) refl (added_alone s.catalogue (bars_of s) part moment))
by_method s (AddPartitions parts) moment m is = named s (AddPartitions parts) moment method.AddPartitions m is (by_rules s (AddPartitions parts) moment method.AddPartitions refl refl (tells_many s.catalogue (bars_of s) parts) refl (λ none. counted s.catalogue parts moment))
by_method s (AddPartitionsReq db name parts passes wanted) moment m is = named s (AddPartitionsReq db name parts passes wanted) moment method.AddPartitionsReq m is (by_rules s (AddPartitionsReq db name parts passes wanted) moment method.AddPartitionsReq refl refl (tells_added method.AddPartitionsReq false passes (table s.catalogue (kept_name db) (kept_name name)) (kept_name db) (kept_name name) [] parts refl refl) refl (λ none. told_or_not s.catalogue db name parts moment wanted))
by_method s (AppendPartition db name values) moment m is = named s (AppendPartition db name values) moment method.AppendPartition m is (by_rules s (AppendPartition db name values) moment method.AppendPartition refl refl (refl) refl (appended_fine s.catalogue (bars_of s) (kept_name (Some db)) (kept_name (Some name)) (by_values values) (meant_values (by_values values)) moment))
by_method s (AppendPartitionByName db name called) moment m is = named s (AppendPartitionByName db name called) moment method.AppendPartitionByName m is (by_rules s (AppendPartitionByName db name called) moment method.AppendPartitionByName refl refl (refl) refl (appended_fine s.catalogue (bars_of s) (kept_name (Some db)) (kept_name (Some name)) (by_name called) (meant_values (by_name called)) moment))
by_method s (DropPartition db name values) moment m (inl is) = named s (DropPartition db name values) moment method.DropPartition m is (by_rules s (DropPartition db name values) moment method.DropPartition refl refl (refl) refl (λ none. refl))
by_method s (DropPartition db name values) moment m (inr is) = named s (DropPartition db name values) moment method.DropPartitionWithEnvironmentContext m is (by_rules s (DropPartition db name values) moment method.DropPartitionWithEnvironmentContext refl refl (refl) refl (λ none. refl))
by_method s (DropPartitionByName db name called) moment m is = named s (DropPartitionByName db name called) moment method.DropPartitionByName m is (by_rules s (DropPartitionByName db name called) moment method.DropPartitionByName refl refl (refl) refl (λ none. refl))
by_method s (GetPartition db name values) moment m is = named s (GetPartition db name values) moment method.GetPartition m is (by_rules s (GetPartition db name values) moment method.GetPartition refl refl (refl) refl (part_found method.GetPartition (table s.catalogue (kept_name (Some db)) (kept_name (Some name))) (by_values values) (kept_name (Some db)) (kept_name (Some name)) (λ rec. refl)))
by_method s (GetPartitionByName db name called) moment m is = named s (GetPartitionByName db name called) moment method.GetPartitionByName m is (by_rules s (GetPartitionByName db name called) moment method.GetPartitionByName refl refl (refl) refl (part_found method.GetPartitionByName (table s.catalogue (kept_name (Some db)) (kept_name (Some name))) (by_name called) (kept_name (Some db)) (kept_name (Some name)) (λ rec. refl)))
by_method s (GetPartitions db name max) moment m is = named s (GetPartitions db name max) moment method.GetPartitions m is (by_rules s (GetPartitions db name max) moment method.GetPartitions refl refl (refl) refl (λ none. refl))
by_method s (GetPartitionNames db name max) moment m is = named s (GetPartitionNames db name max) moment method.GetPartitionNames m is (by_rules s (GetPartitionNames db name max) moment method.GetPartitionNames refl refl (refl) refl (λ none. refl))
by_method s (GetPartitionsPs db name values max) moment m is = named s (GetPartitionsPs db name values max) moment method.GetPartitionsPs m is (by_rules s (GetPartitionsPs db name values max) moment method.GetPartitionsPs refl refl (refl) refl (λ none. refl))
by_method s (GetPartitionNamesPs db name values max) moment m is = named s (GetPartitionNamesPs db name values max) moment method.GetPartitionNamesPs m is (by_rules s (GetPartitionNamesPs db name values max) moment method.GetPartitionNamesPs refl refl (refl) refl (λ none. refl))
by_method s (GetPartitionsByNames db name names) moment m is = named s (GetPartitionsByNames db name names) moment method.GetPartitionsByNames m is (by_rules s (GetPartitionsByNames db name names) moment method.GetPartitionsByNames refl refl (refl) refl (λ none. refl))
by_method s (AlterPartition db name part) moment m (inl is) = named s (AlterPartition db name part) moment method.AlterPartition m is (by_rules s (AlterPartition db name part) moment method.AlterPartition refl refl (refl) refl (λ none. refl))
by_method s (AlterPartition db name part) moment m (inr is) = named s (AlterPartition db name part) moment method.AlterPartitionWithEnvironmentContext m is (by_rules s (AlterPartition db name part) moment method.AlterPartitionWithEnvironmentContext refl refl (refl) refl (λ none. refl))
by_method s (AlterPartitions db name parts) moment m is = named s (AlterPartitions db name parts) moment method.AlterPartitions m is (by_rules s (AlterPartitions db name parts) moment method.AlterPartitions refl refl (tells_altered method.AlterPartitions (table s.catalogue (kept_name (Some db)) (kept_name (Some name))) [] parts refl) refl (λ none. refl))
by_method s (RenamePartition db name values part) moment m is = named s (RenamePartition db name values part) moment method.RenamePartition m is (by_rules s (RenamePartition db name values part) moment method.RenamePartition refl refl (refl) refl (λ none. refl))
by_method s (GetPartitionsByFilter db name filter max) moment m is = named s (GetPartitionsByFilter db name filter max) moment method.GetPartitionsByFilter m is (by_rules s (GetPartitionsByFilter db name filter max) moment method.GetPartitionsByFilter refl refl (tells_filtered method.GetPartitionsByFilter s.catalogue (kept_name (Some db)) (kept_name (Some name)) filter refl (λ text. refl)) refl (λ none. refl))
by_method s (GetNumPartitionsByFilter db name filter) moment m is = named s (GetNumPartitionsByFilter db name filter) moment method.GetNumPartitionsByFilter m is (by_rules s (GetNumPartitionsByFilter db name filter) moment method.GetNumPartitionsByFilter refl refl (tells_filtered method.GetNumPartitionsByFilter s.catalogue (kept_name (Some db)) (kept_name (Some name)) filter refl (λ text. refl)) refl (λ none. refl))
by_method s (UpdateTableColumnStatistics new) moment m is = named s (UpdateTableColumnStatistics new) moment method.UpdateTableColumnStatistics m is (by_rules s (UpdateTableColumnStatistics new) moment method.UpdateTableColumnStatistics refl refl (refl) refl (λ none. refl))
by_method s (UpdatePartitionColumnStatistics new) moment m is = named s (UpdatePartitionColumnStatistics new) moment method.UpdatePartitionColumnStatistics m is (by_rules s (UpdatePartitionColumnStatistics new) moment method.UpdatePartitionColumnStatistics refl refl (refl) refl (λ none. refl))
by_method s (GetTableColumnStatistics db name col) moment m is = named s (GetTableColumnStatistics db name col) moment method.GetTableColumnStatistics m is (by_rules s (GetTableColumnStatistics db name col) moment method.GetTableColumnStatistics refl refl (refl) refl (λ none. refl))
by_method s (GetPartitionColumnStatistics db name part col) moment m is = named s (GetPartitionColumnStatistics db name part col) moment method.GetPartitionColumnStatistics m is (by_rules s (GetPartitionColumnStatistics db name part col) moment method.GetPartitionColumnStatistics refl refl (refl) refl (λ none. refl))
by_method s (DeleteTableColumnStatistics db name col) moment m is = named s (DeleteTableColumnStatistics db name col) moment method.DeleteTableColumnStatistics m is (by_rules s (DeleteTableColumnStatistics db name col) moment method.DeleteTableColumnStatistics refl refl (refl) refl (λ none. refl))
by_method s (DeletePartitionColumnStatistics db name part col) moment m is = named s (DeletePartitionColumnStatistics db name part col) moment method.DeletePartitionColumnStatistics m is (by_rules s (DeletePartitionColumnStatistics db name part col) moment method.DeletePartitionColumnStatistics refl refl (refl) refl (λ none. refl))
by_method s (GetTableStatisticsReq db name cols) moment m is = named s (GetTableStatisticsReq db name cols) moment method.GetTableStatisticsReq m is (by_rules s (GetTableStatisticsReq db name cols) moment method.GetTableStatisticsReq refl refl (refl) refl (λ none. refl))
by_method s (GetNextNotification last max) moment m is = subst (λ (n : Method). Can s (GetNextNotification last max) moment n) (sym is) (record { fault = refl; due = refl })
by_method s GetCurrentNotificationEventId moment m is = subst (λ (n : Method). Can s GetCurrentNotificationEventId moment n) (sym is) (record { fault = refl; due = refl })

-- what a call is answered under a name that it has
by_call : (p : Point) (caller : ℕ) (call : Call) (moment : ℕ) (a : Answer) (fault : ℕ) (m : Method) → IsMethodOf call m → MayAnswer p.state p.fault caller (step.Client call moment) a fault → CanReply (Some m) (reply_in a)
by_call p caller call moment answer.NoMemory fault m is may = refl
by_call p caller call moment answer.StoreFault fault m is may = (by_method p.state call moment m is).fault
by_call p caller call moment (answer.Reply r) fault m is may = subst (CanReply (Some m)) (sym (ap reply_in may)) (by_method p.state call moment m is).due
by_call p caller call moment (answer.Began dump source born begin end first) fault m is may = absurd cc
by_call p caller call moment (answer.Table item) fault m is may = absurd cc
by_call p caller call moment answer.NoTable fault m is may = absurd cc
by_call p caller call moment (answer.Parts parts more) fault m is may = absurd cc
by_call p caller call moment (answer.Sealed end) fault m is may = absurd cc
by_call p caller call moment (answer.Events events more) fault m is may = absurd cc
by_call p caller call moment answer.Ended fault m is may = absurd cc
by_call p caller call moment (answer.DumpRefused refusal) fault m is may = absurd cc
by_call p caller call moment (answer.Kept first) fault m is may = absurd cc
by_call p caller call moment answer.NotOpen fault m is may = absurd cc

can_answer : (p : Point) (caller : ℕ) (call : Call) (moment : ℕ) (a : Answer) (fault : ℕ) (m : Option Method) → CameAs m call → MayAnswer p.state p.fault caller (step.Client call moment) a fault → CanReply m (reply_in a)
can_answer p caller call moment a fault None came may = absurd came
can_answer p caller call moment a fault (Some m) came may = by_call p caller call moment a fault m came may

-- what a call is answered
answers_call : (s : State) (before caller after : ℕ) (call : Call) (moment : ℕ) (a : Answer) → MayAnswer s before caller (step.Client call moment) a after → AnswersCall a
answers_call s before caller after call moment (answer.Reply r) may = tt
answers_call s before caller after call moment answer.StoreFault may = tt
answers_call s before caller after call moment answer.NoMemory may = tt
answers_call s before caller after call moment (answer.Began dump source born begin end first) may = absurd cc
answers_call s before caller after call moment (answer.Table item) may = absurd cc
answers_call s before caller after call moment answer.NoTable may = absurd cc
answers_call s before caller after call moment (answer.Parts parts more) may = absurd cc
answers_call s before caller after call moment (answer.Sealed end) may = absurd cc
answers_call s before caller after call moment (answer.Events events more) may = absurd cc
answers_call s before caller after call moment answer.Ended may = absurd cc
answers_call s before caller after call moment (answer.DumpRefused refusal) may = absurd cc
answers_call s before caller after call moment (answer.Kept first) may = absurd cc
answers_call s before caller after call moment answer.NotOpen may = absurd cc

-- ---- the last answer of a legal history

pub last_may : (p : Point) (es : List Entry) (e : Entry) → IsLegal p (map took (es ++ e ∷ [])) → (q : Point) × MayFollow q (took e)
last_may p [] e legal = (p, legal.0)
last_may p (x ∷ xs) e legal = last_may (next p (took x)) xs e legal.1

-- what a desk answered to a call, under whatever name it came
pub can_call : {E : Type 0} (s : Start) (old between new : List Entry) (e : Entry) (call : Call) (moment : ℕ) (result : Result Reply E)
    → e.0.step ≡ step.Client call moment → new ≡ (old ++ between) ++ e ∷ [] → Legal s new → IfOk result (IsReplyTo e.1.answer) → (m : Option Method) → CameAs m call → IfOk result (CanReply m)
can_call s old between new e call moment (Err x) is grew legal replied m came = tt
can_call s old between new e call moment (Ok reply) is grew legal replied m came =
    let last = last_may (point_of s) (old ++ between) e (subst (λ (es : List Entry). Legal s es) grew legal) in
    let may = subst (λ (t : Step). MayAnswer last.0.state last.0.fault e.0.caller t e.1.answer e.1.fault) is last.1.1 in
    subst (CanReply m) (sym (only_reply e.1.answer reply replied)) (can_answer last.0 e.0.caller call moment e.1.answer e.1.fault m came may)

-- what a desk answered to a call is an answer to one
pub call_answered : (s : Start) (old between new : List Entry) (e : Entry) (call : Call) (moment : ℕ) → e.0.step ≡ step.Client call moment → new ≡ (old ++ between) ++ e ∷ [] → Legal s new → AnswersCall e.1.answer
call_answered s old between new e call moment is grew legal =
    let last = last_may (point_of s) (old ++ between) e (subst (λ (es : List Entry). Legal s es) grew legal) in
    answers_call last.0.state last.0.fault e.0.caller e.1.fault call moment e.1.answer (subst (λ (t : Step). MayAnswer last.0.state last.0.fault e.0.caller t e.1.answer e.1.fault) is last.1.1)

-- a refusal that every call may be answered
told_to_all : (code declared : Option ℤ) (text : List ℕ) → IsSome code → IsSome (refused_as text code declared)
told_to_all None declared text general = absurd (false≢true general)
told_to_all (Some code) declared text general = refl

pub can_refuse : {E : Type 0} (m : Option Method) (number : ℕ) (text : List ℕ) (result : Result Reply E) → IsSome (general_code number) → IfOk result (λ reply. reply ≡ Refused number text) → IfOk result (CanReply m)
can_refuse m number text (Err e) general is = tt
can_refuse m number text (Ok reply) general is = subst (CanReply m) (sym is) (told_to_all (general_code number) (declared_id m number) text general)
