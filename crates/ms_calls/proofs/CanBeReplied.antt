-- What a message asks fits its name.
use Rattle.std.proofs.Common.{◌≡◌, ℕ, Bool, true, false, ℤ, pos, List, Option, Some, None, Result, Ok, Err, refl, sym, subst, inl, inr}
use Rattle.std.specs.Prelude.{IfOk, ⊤, if◌then◌else◌}
use Rattle.std.specs.List.{list_all}
use Rattle.cat_types.specs.declared.calls.Call.{Call}
use Rattle.cat_types.specs.declared.calls.Call.TheVariants.{AddPartition, AddPartitions, AlterDatabase, AlterPartition, AlterPartitions, AlterTable, AppendPartition, AppendPartitionByName, CreateDatabase, CreateTable, DeletePartitionColumnStatistics, DeleteTableColumnStatistics, DropPartition, DropPartitionByName, DropTable, GetAllTables, GetDatabase, GetDatabases, GetFields, GetNextNotification, GetNumPartitionsByFilter, GetPartition, GetPartitionByName, GetPartitionColumnStatistics, GetPartitionNames, GetPartitionNamesPs, GetPartitions, GetPartitionsByFilter, GetPartitionsByNames, GetPartitionsPs, GetSchema, GetTable, GetTableColumnStatistics, GetTableObjectsByName, GetTableReq, GetTableStatisticsReq, GetTables, RenamePartition, UpdatePartitionColumnStatistics, UpdateTableColumnStatistics}
use Rattle.cat_types.specs.declared.replies.Reply.TheVariants.{Flag, Names, Spec}
use Rattle.part_names.specs.Reading.{first_unreadable, spec, vals}
use Rattle.ms_calls.specs.declared.part_texts.OfName.{OfName}
use Rattle.ms_calls.specs.declared.part_texts.OfName.TheVariants as of_name
use Rattle.ms_calls.specs.Refusals.{invalid_request}
use Rattle.ms_calls.proofs.Adding.{IfIs, is_request}
use Rattle.ms_structs.specs.declared.got.Got.{Got}
use Rattle.ms_structs.specs.declared.got.Got.TheVariants.{Nothing, BadText, Is}
use Rattle.ms_structs.specs.Getting.{ReadsTree}
use Rattle.thrift_binary.specs.declared.fault.WireFault.{WireFault}
use Rattle.thrift_binary.specs.declared.progress.Progress.{Progress}
use Rattle.thrift_binary.specs.Taking.{Stop}
use Rattle.thrift_binary.specs.Tree.{Fields, Struct}
use Rattle.thrift_binary.specs.Wire.{IsWire}
use Rattle.ms_calls.specs.declared.method.Method.{Method}
use Rattle.ms_calls.specs.declared.method.Method.TheVariants as method
use Rattle.ms_calls.specs.declared.request.Asked.{Asked}
use Rattle.ms_calls.specs.declared.request.Asked.TheVariants.{Dump, Trim}
use Rattle.ms_calls.specs.Arguments.{add_partitions_req_call, and_then, drop_database_call, dump_asked, from_one, from_three, from_two, given, has_valid_characters_reply, is_valid_value, list_call, name_reply, needed, needed_three, needed_two, no_limit, optional, set_ugi_reply, spec_reply, trim_asked, unless_unreadable, vals_reply, with_context}
use Rattle.ms_calls.specs.Asked.{CameAs, HasOwnMethod, IfClient, IfPlain, IsMethodOf, asked_by, client, context_at, database_at, flag_at, int_at, limit_at, long_at, name_asked, partition_at, partitions_at, plain, statistics_at, table_at, text_at, texts_at, unless_wrong}
use Rattle.ms_structs.specs.Notifications.{request_of as poll_of}
use Rattle.ms_structs.specs.Slots.{said}
use Rattle.ms_structs.specs.declared.notification_request.NotificationRequest.{NotificationRequest}
use Rattle.stat_structs.specs.Requests.{request_of as statistics_request_of}
use Rattle.stat_structs.specs.declared.requests.StatsRequest.{StatsRequest}
use Rattle.table_structs.specs.PartRequests.{adding_of}
use Rattle.table_structs.specs.Requests.{request_of}
use Rattle.table_structs.specs.declared.requests.TableRequest.{TableRequest}
use Rattle.thrift_binary.specs.Codes.{struct_code}
use Rattle.ms_calls.specs.Replies.{CanReply}

abbrev Fits : Option Method → Asked → Type 0
Fits m asked = IfPlain asked (CanReply m) × IfClient asked (CameAs m) × HasOwnMethod m asked

-- what one argument makes, that must be there
one_fits : {A : Type 0} (m : Method) (make : A → Call) (first : Got A) → ((a : A) → IsMethodOf (make a) m) → Fits (Some m) (client (from_one first make))
one_fits m make Nothing is = (tt, tt, tt)
one_fits m make BadText is = (tt, tt, tt)
one_fits m make (Is a) is = (tt, is a, tt)

-- what two of them make
two_fits : {A B : Type 0} (m : Method) (make : A → B → Call) (first : Got A) (second : Got B) → ((a : A) (b : B) → IsMethodOf (make a b) m) → Fits (Some m) (client (from_two first second make))
two_fits m make Nothing second is = (tt, tt, tt)
two_fits m make BadText second is = (tt, tt, tt)
two_fits m make (Is a) Nothing is = (tt, tt, tt)
two_fits m make (Is a) BadText is = (tt, tt, tt)
two_fits m make (Is a) (Is b) is = (tt, is a b, tt)

drop_database_fits : (name : Got (List ℕ)) (cascade : Got Bool) → Fits (Some method.DropDatabase) (client (drop_database_call name cascade))
drop_database_fits Nothing cascade = (tt, tt, tt)
drop_database_fits BadText cascade = (tt, tt, tt)
drop_database_fits (Is name) Nothing = (tt, refl, tt)
drop_database_fits (Is name) BadText = (tt, tt, tt)
drop_database_fits (Is name) (Is cascade) = (tt, refl, tt)

-- what three of them make
three_fits : {A B C : Type 0} (m : Method) (make : A → B → C → Call) (first : Got A) (second : Got B) (third : Got C) → ((a : A) (b : B) (c : C) → IsMethodOf (make a b c) m) → Fits (Some m) (client (from_three first second third make))
three_fits m make Nothing second third is = (tt, tt, tt)
three_fits m make BadText second third is = (tt, tt, tt)
three_fits m make (Is a) Nothing third is = (tt, tt, tt)
three_fits m make (Is a) BadText third is = (tt, tt, tt)
three_fits m make (Is a) (Is b) Nothing is = (tt, tt, tt)
three_fits m make (Is a) (Is b) BadText is = (tt, tt, tt)
three_fits m make (Is a) (Is b) (Is c) is = (tt, is a b c, tt)

-- what is made and has a context beside it
context_fits : (m : Method) (id : ℤ) (context : Got ⊤) (made : Result Call ℤ) → Fits (Some m) (client made) → Fits (Some m) (client (with_context id context made))
context_fits m id context (Err wrong) fits = (tt, tt, tt)
context_fits m id Nothing (Ok call) fits = fits
context_fits m id BadText (Ok call) fits = (tt, tt, tt)
context_fits m id (Is context) (Ok call) fits = fits

-- what a limit makes beside two others, and beside three
limit_fits : (m : Method) (make : List ℕ → List ℕ → ℤ → Call) (db table : Got (List ℕ)) (max : Got ℤ) → ((a b : List ℕ) (n : ℤ) → IsMethodOf (make a b n) m) → Fits (Some m) (client (list_call db table max make))
limit_fits m make Nothing table max is = (tt, tt, tt)
limit_fits m make BadText table max is = (tt, tt, tt)
limit_fits m make (Is a) Nothing max is = (tt, tt, tt)
limit_fits m make (Is a) BadText max is = (tt, tt, tt)
limit_fits m make (Is a) (Is b) Nothing is = (tt, is a b no_limit, tt)
limit_fits m make (Is a) (Is b) BadText is = (tt, tt, tt)
limit_fits m make (Is a) (Is b) (Is n) is = (tt, is a b n, tt)

limits_fit : {C : Type 0} (m : Method) (make : List ℕ → List ℕ → C → ℤ → Call) (all : Result (List ℕ × List ℕ × C) ℤ) (max : Got ℤ) → ((a b : List ℕ) (c : C) (n : ℤ) → IsMethodOf (make a b c n) m)
    → Fits (Some m) (client (and_then all (λ all. and_then (given (pos 4) no_limit max) (λ max. Ok (make all.0 all.1 all.2 max)))))
limits_fit m make (Err id) max is = (tt, tt, tt)
limits_fit m make (Ok all) Nothing is = (tt, is all.0 all.1 all.2 no_limit, tt)
limits_fit m make (Ok all) BadText is = (tt, tt, tt)
limits_fit m make (Ok all) (Is n) is = (tt, is all.0 all.1 all.2 n, tt)

-- what four arguments make that must be there
four_fits : {C D : Type 0} (m : Method) (make : List ℕ → List ℕ → C → D → Call) (all : Result (List ℕ × List ℕ × C) ℤ) (fourth : Got D) → ((a b : List ℕ) (c : C) (d : D) → IsMethodOf (make a b c d) m)
    → Fits (Some m) (client (and_then all (λ all. and_then (needed (pos 4) fourth) (λ d. Ok (make all.0 all.1 all.2 d)))))
four_fits m make (Err id) fourth is = (tt, tt, tt)
four_fits m make (Ok all) Nothing is = (tt, tt, tt)
four_fits m make (Ok all) BadText is = (tt, tt, tt)
four_fits m make (Ok all) (Is d) is = (tt, is all.0 all.1 all.2 d, tt)

-- what others make with one that may be absent
optional_fits : {A C : Type 0} (m : Method) (make : A → Option C → Call) (id : ℤ) (all : Result A ℤ) (last : Got C) → ((all : A) (c : Option C) → IsMethodOf (make all c) m)
    → Fits (Some m) (client (and_then all (λ all. and_then (optional id last) (λ c. Ok (make all c)))))
optional_fits m make id (Err wrong) last is = (tt, tt, tt)
optional_fits m make id (Ok all) Nothing is = (tt, is all None, tt)
optional_fits m make id (Ok all) BadText is = (tt, tt, tt)
optional_fits m make id (Ok all) (Is c) is = (tt, is all (Some c), tt)

-- a request is a call that came so
request_fits : (request : Got Call) → IfIs request (λ call. IsMethodOf call method.AddPartitionsReq) → Fits (Some method.AddPartitionsReq) (client (add_partitions_req_call request))
request_fits Nothing is = (tt, tt, tt)
request_fits BadText is = (tt, tt, tt)
request_fits (Is call) is = (tt, is, tt)

name_fits : (m : Method) (call : OfName) (name : Got (List ℕ)) → ((name : List ℕ) → CanReply (Some m) (name_reply call name)) → Fits (Some m) (name_asked call name)
name_fits m call Nothing can = (tt, tt, tt)
name_fits m call BadText can = (tt, tt, tt)
name_fits m call (Is name) can = (can name, tt, tt)

vals_can : (name : List ℕ) → CanReply (Some method.PartitionNameToVals) (vals_reply name)
vals_can name = by_fault (first_unreadable name)
  where
    by_fault : (o : Option ℕ) → CanReply (Some method.PartitionNameToVals) (unless_unreadable o (Names (vals name)))
    by_fault None = refl
    by_fault (Some component) = refl

spec_can : (name : List ℕ) → CanReply (Some method.PartitionNameToSpec) (spec_reply name)
spec_can name = by_fault (first_unreadable name)
  where
    by_fault : (o : Option ℕ) → CanReply (Some method.PartitionNameToSpec) (unless_unreadable o (Spec (spec name)))
    by_fault None = refl
    by_fault (Some component) = refl

valid_can : (valid refuse : Bool) → CanReply (Some method.PartitionNameHasValidCharacters) (if valid then Flag true else (if refuse then invalid_request else Flag false))
valid_can true refuse = refl
valid_can false true = refl
valid_can false false = refl

valid_fits : (values : Got (List (List ℕ))) (refuse : Got Bool) → Fits (Some method.PartitionNameHasValidCharacters) (plain (has_valid_characters_reply values refuse))
valid_fits Nothing refuse = (tt, tt, tt)
valid_fits BadText refuse = (tt, tt, tt)
valid_fits (Is values) Nothing = (valid_can (list_all is_valid_value values) false, tt, tt)
valid_fits (Is values) BadText = (tt, tt, tt)
valid_fits (Is values) (Is refuse) = (valid_can (list_all is_valid_value values) refuse, tt, tt)

user_fits : (user : Got (List ℕ)) (groups : Got (List (List ℕ))) → Fits (Some method.SetUgi) (plain (set_ugi_reply user groups))
user_fits Nothing groups = (tt, tt, tt)
user_fits BadText groups = (tt, tt, tt)
user_fits (Is user) Nothing = (refl, tt, tt)
user_fits (Is user) BadText = (tt, tt, tt)
user_fits (Is user) (Is groups) = (refl, tt, tt)

-- what goes on with an argument fits, where it does with each value
next_fits : {A : Type 0} (m : Method) (first : Result A ℤ) (go : A → Result Asked ℤ) → ((a : A) → Fits (Some m) (unless_wrong (go a))) → Fits (Some m) (unless_wrong (and_then first go))
next_fits m (Err id) go fits = (tt, tt, tt)
next_fits m (Ok a) go fits = fits a

dump_fits : (db : Got (List ℕ)) (from to limit : Got ℤ) → Fits (Some method.ReplDump) (unless_wrong (dump_asked db from to limit))
dump_fits db from to limit =
    next_fits method.ReplDump (needed (pos 1) db) _ (λ db.
    next_fits method.ReplDump (optional (pos 2) from) _ (λ from.
    next_fits method.ReplDump (optional (pos 3) to) _ (λ to.
    next_fits method.ReplDump (optional (pos 4) limit) (λ limit. Ok (Dump db from to limit)) (λ limit. (tt, tt, refl)))))

trim_fits : (upto : Got ℤ) → Fits (Some method.TrimEvents) (unless_wrong (trim_asked upto))
trim_fits upto = next_fits method.TrimEvents (needed (pos 1) upto) (λ upto. Ok (Trim upto)) (λ upto. (tt, tt, refl))

asked_fits : (m : Option Method) (v : Fields) → Fits m (asked_by m v)
asked_fits None v = (tt, tt, tt)
asked_fits (Some method.GetName) v = (refl, tt, tt)
asked_fits (Some method.GetStatus) v = (refl, tt, tt)
asked_fits (Some method.Shutdown) v = (tt, tt, tt)
asked_fits (Some method.SetUgi) v = user_fits (text_at (pos 1) v) (texts_at (pos 2) v)
asked_fits (Some method.GetAllFunctions) v = (refl, tt, tt)
asked_fits (Some method.PartitionNameHasValidCharacters) v = valid_fits (texts_at (pos 1) v) (flag_at (pos 2) v)
asked_fits (Some method.PartitionNameToVals) v = name_fits method.PartitionNameToVals of_name.Vals (text_at (pos 1) v) vals_can
asked_fits (Some method.PartitionNameToSpec) v = name_fits method.PartitionNameToSpec of_name.Spec (text_at (pos 1) v) spec_can
asked_fits (Some method.CreateDatabase) v = one_fits method.CreateDatabase CreateDatabase (database_at (pos 1) v) (λ db. refl)
asked_fits (Some method.GetDatabase) v = one_fits method.GetDatabase GetDatabase (text_at (pos 1) v) (λ name. refl)
asked_fits (Some method.DropDatabase) v = drop_database_fits (text_at (pos 1) v) (flag_at (pos 3) v)
asked_fits (Some method.GetDatabases) v = one_fits method.GetDatabases GetDatabases (text_at (pos 1) v) (λ pattern. refl)
asked_fits (Some method.GetAllDatabases) v = (tt, refl, tt)
asked_fits (Some method.AlterDatabase) v = two_fits method.AlterDatabase AlterDatabase (text_at (pos 1) v) (database_at (pos 2) v) (λ name db. refl)
asked_fits (Some method.CreateTable) v = context_fits method.CreateTable (pos 2) Nothing _ (one_fits method.CreateTable CreateTable (table_at (pos 1) v) (λ new. inl refl))
asked_fits (Some method.CreateTableWithEnvironmentContext) v = context_fits method.CreateTableWithEnvironmentContext (pos 2) (context_at (pos 2) v) _ (one_fits method.CreateTableWithEnvironmentContext CreateTable (table_at (pos 1) v) (λ new. inr refl))
asked_fits (Some method.DropTable) v = context_fits method.DropTable (pos 4) Nothing _ (two_fits method.DropTable DropTable (text_at (pos 1) v) (text_at (pos 2) v) (λ db table. inl refl))
asked_fits (Some method.DropTableWithEnvironmentContext) v = context_fits method.DropTableWithEnvironmentContext (pos 4) (context_at (pos 4) v) _ (two_fits method.DropTableWithEnvironmentContext DropTable (text_at (pos 1) v) (text_at (pos 2) v) (λ db table. inr refl))
asked_fits (Some method.GetTables) v = two_fits method.GetTables GetTables (text_at (pos 1) v) (text_at (pos 2) v) (λ db pattern. refl)
asked_fits (Some method.GetAllTables) v = one_fits method.GetAllTables GetAllTables (text_at (pos 1) v) (λ db. refl)
asked_fits (Some method.GetTable) v = two_fits method.GetTable GetTable (text_at (pos 1) v) (text_at (pos 2) v) (λ db table. refl)
asked_fits (Some method.GetTableReq) v = one_fits method.GetTableReq (λ (request : TableRequest). GetTableReq request.db request.table) (said (pos 1) struct_code request_of v) (λ request. refl)
asked_fits (Some method.GetTableObjectsByName) v = two_fits method.GetTableObjectsByName GetTableObjectsByName (text_at (pos 1) v) (texts_at (pos 2) v) (λ db tables. refl)
asked_fits (Some method.AlterTable) v = context_fits method.AlterTable (pos 4) Nothing _ (three_fits method.AlterTable AlterTable (text_at (pos 1) v) (text_at (pos 2) v) (table_at (pos 3) v) (λ db table new. inl refl))
asked_fits (Some method.AlterTableWithEnvironmentContext) v = context_fits method.AlterTableWithEnvironmentContext (pos 4) (context_at (pos 4) v) _ (three_fits method.AlterTableWithEnvironmentContext AlterTable (text_at (pos 1) v) (text_at (pos 2) v) (table_at (pos 3) v) (λ db table new. inr refl))
asked_fits (Some method.GetFields) v = two_fits method.GetFields GetFields (text_at (pos 1) v) (text_at (pos 2) v) (λ db table. refl)
asked_fits (Some method.GetSchema) v = two_fits method.GetSchema GetSchema (text_at (pos 1) v) (text_at (pos 2) v) (λ db table. refl)
asked_fits (Some method.AddPartition) v = context_fits method.AddPartition (pos 2) Nothing _ (one_fits method.AddPartition AddPartition (partition_at (pos 1) v) (λ part. inl refl))
asked_fits (Some method.AddPartitionWithEnvironmentContext) v = context_fits method.AddPartitionWithEnvironmentContext (pos 2) (context_at (pos 2) v) _ (one_fits method.AddPartitionWithEnvironmentContext AddPartition (partition_at (pos 1) v) (λ part. inr refl))
asked_fits (Some method.AddPartitions) v = one_fits method.AddPartitions AddPartitions (partitions_at (pos 1) v) (λ parts. refl)
asked_fits (Some method.AddPartitionsReq) v = request_fits (said (pos 1) struct_code adding_of v) (is_request v)
asked_fits (Some method.AppendPartition) v = three_fits method.AppendPartition AppendPartition (text_at (pos 1) v) (text_at (pos 2) v) (texts_at (pos 3) v) (λ db table other. refl)
asked_fits (Some method.AppendPartitionByName) v = three_fits method.AppendPartitionByName AppendPartitionByName (text_at (pos 1) v) (text_at (pos 2) v) (text_at (pos 3) v) (λ db table other. refl)
asked_fits (Some method.DropPartition) v = context_fits method.DropPartition (pos 5) Nothing _ (three_fits method.DropPartition DropPartition (text_at (pos 1) v) (text_at (pos 2) v) (texts_at (pos 3) v) (λ db table values. inl refl))
asked_fits (Some method.DropPartitionWithEnvironmentContext) v = context_fits method.DropPartitionWithEnvironmentContext (pos 5) (context_at (pos 5) v) _ (three_fits method.DropPartitionWithEnvironmentContext DropPartition (text_at (pos 1) v) (text_at (pos 2) v) (texts_at (pos 3) v) (λ db table values. inr refl))
asked_fits (Some method.DropPartitionByName) v = three_fits method.DropPartitionByName DropPartitionByName (text_at (pos 1) v) (text_at (pos 2) v) (text_at (pos 3) v) (λ db table other. refl)
asked_fits (Some method.GetPartition) v = three_fits method.GetPartition GetPartition (text_at (pos 1) v) (text_at (pos 2) v) (texts_at (pos 3) v) (λ db table other. refl)
asked_fits (Some method.GetPartitionByName) v = three_fits method.GetPartitionByName GetPartitionByName (text_at (pos 1) v) (text_at (pos 2) v) (text_at (pos 3) v) (λ db table other. refl)
asked_fits (Some method.GetPartitions) v = limit_fits method.GetPartitions GetPartitions (text_at (pos 1) v) (text_at (pos 2) v) (limit_at (pos 3) v) (λ db table max. refl)
asked_fits (Some method.GetPartitionNames) v = limit_fits method.GetPartitionNames GetPartitionNames (text_at (pos 1) v) (text_at (pos 2) v) (limit_at (pos 3) v) (λ db table max. refl)
asked_fits (Some method.GetPartitionsPs) v = limits_fit method.GetPartitionsPs GetPartitionsPs (needed_three (text_at (pos 1) v) (text_at (pos 2) v) (texts_at (pos 3) v)) (limit_at (pos 4) v) (λ db table values max. refl)
asked_fits (Some method.GetPartitionNamesPs) v = limits_fit method.GetPartitionNamesPs GetPartitionNamesPs (needed_three (text_at (pos 1) v) (text_at (pos 2) v) (texts_at (pos 3) v)) (limit_at (pos 4) v) (λ db table values max. refl)
asked_fits (Some method.GetPartitionsByFilter) v = limits_fit method.GetPartitionsByFilter GetPartitionsByFilter (needed_three (text_at (pos 1) v) (text_at (pos 2) v) (text_at (pos 3) v)) (limit_at (pos 4) v) (λ db table filter max. refl)
asked_fits (Some method.GetNumPartitionsByFilter) v = three_fits method.GetNumPartitionsByFilter GetNumPartitionsByFilter (text_at (pos 1) v) (text_at (pos 2) v) (text_at (pos 3) v) (λ db table filter. refl)
asked_fits (Some method.GetPartitionsByNames) v = three_fits method.GetPartitionsByNames GetPartitionsByNames (text_at (pos 1) v) (text_at (pos 2) v) (texts_at (pos 3) v) (λ db table other. refl)
asked_fits (Some method.AlterPartition) v = context_fits method.AlterPartition (pos 4) Nothing _ (three_fits method.AlterPartition AlterPartition (text_at (pos 1) v) (text_at (pos 2) v) (partition_at (pos 3) v) (λ db table part. inl refl))
asked_fits (Some method.AlterPartitionWithEnvironmentContext) v = context_fits method.AlterPartitionWithEnvironmentContext (pos 4) (context_at (pos 4) v) _ (three_fits method.AlterPartitionWithEnvironmentContext AlterPartition (text_at (pos 1) v) (text_at (pos 2) v) (partition_at (pos 3) v) (λ db table part. inr refl))
asked_fits (Some method.AlterPartitions) v = three_fits method.AlterPartitions AlterPartitions (text_at (pos 1) v) (text_at (pos 2) v) (partitions_at (pos 3) v) (λ db table parts. refl)
asked_fits (Some method.RenamePartition) v = four_fits method.RenamePartition RenamePartition (needed_three (text_at (pos 1) v) (text_at (pos 2) v) (texts_at (pos 3) v)) (partition_at (pos 4) v) (λ db table values part. refl)
asked_fits (Some method.UpdateTableColumnStatistics) v = one_fits method.UpdateTableColumnStatistics UpdateTableColumnStatistics (statistics_at (pos 1) v) (λ stats. refl)
asked_fits (Some method.UpdatePartitionColumnStatistics) v = one_fits method.UpdatePartitionColumnStatistics UpdatePartitionColumnStatistics (statistics_at (pos 1) v) (λ stats. refl)
asked_fits (Some method.GetTableColumnStatistics) v = three_fits method.GetTableColumnStatistics GetTableColumnStatistics (text_at (pos 1) v) (text_at (pos 2) v) (text_at (pos 3) v) (λ db table col. refl)
asked_fits (Some method.GetPartitionColumnStatistics) v = four_fits method.GetPartitionColumnStatistics GetPartitionColumnStatistics (needed_three (text_at (pos 1) v) (text_at (pos 2) v) (text_at (pos 3) v)) (text_at (pos 4) v) (λ db table part col. refl)
asked_fits (Some method.DeleteTableColumnStatistics) v = optional_fits method.DeleteTableColumnStatistics (λ (all : List ℕ × List ℕ) col. DeleteTableColumnStatistics all.0 all.1 col) (pos 3) (needed_two (text_at (pos 1) v) (text_at (pos 2) v)) (text_at (pos 3) v) (λ all col. refl)
asked_fits (Some method.DeletePartitionColumnStatistics) v = optional_fits method.DeletePartitionColumnStatistics (λ (all : List ℕ × List ℕ × List ℕ) col. DeletePartitionColumnStatistics all.0 all.1 all.2 col) (pos 4) (needed_three (text_at (pos 1) v) (text_at (pos 2) v) (text_at (pos 3) v)) (text_at (pos 4) v) (λ all col. refl)
asked_fits (Some method.GetTableStatisticsReq) v = one_fits method.GetTableStatisticsReq (λ (request : StatsRequest). GetTableStatisticsReq request.db request.table request.cols) (said (pos 1) struct_code statistics_request_of v) (λ request. refl)
asked_fits (Some method.GetNextNotification) v = one_fits method.GetNextNotification (λ (request : NotificationRequest). GetNextNotification request.last request.max) (said (pos 1) struct_code poll_of v) (λ request. refl)
asked_fits (Some method.GetCurrentNotificationEventId) v = (tt, refl, tt)
asked_fits (Some method.ReplDump) v = dump_fits (text_at (pos 1) v) (long_at (pos 2) v) (long_at (pos 3) v) (int_at (pos 4) v)
asked_fits (Some method.TrimEvents) v = trim_fits (long_at (pos 1) v)

-- so does what was read
pub read_fits : (m : Option Method) (a b : Option (List ℕ)) (p q : Progress) (result : Result Asked WireFault) (depth : ℕ) (Stops : Stop → List ℕ → Type 0)
    → ReadsTree a b p q result (λ v. IsWire (Struct v) depth 12) (λ v asked. asked ≡ asked_by m v) Stops → IfOk result (Fits m)
read_fits m a b p q (Ok asked) depth Stops h = subst (Fits m) (sym h.holds.2) (asked_fits m h.holds.0)
read_fits m a b p q (Err e) depth Stops h = tt

pub fits_plain : (m : Option Method) (result : Result Asked WireFault) → IfOk result (Fits m) → IfOk result (λ asked. IfPlain asked (CanReply m))
fits_plain m (Ok asked) h = h.0
fits_plain m (Err e) h = tt

pub fits_client : (m : Option Method) (result : Result Asked WireFault) → IfOk result (Fits m) → IfOk result (λ asked. IfClient asked (CameAs m))
fits_client m (Ok asked) h = h.1
fits_client m (Err e) h = tt

pub fits_own : (m : Option Method) (result : Result Asked WireFault) → IfOk result (Fits m) → IfOk result (HasOwnMethod m)
fits_own m (Ok asked) h = h.2
fits_own m (Err e) h = tt
