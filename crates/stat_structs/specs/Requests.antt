-- TableStatsRequest and TableStatsResult.
use Rattle.std.specs.Prelude.{ℕ, ℤ, pos, List, [], ◌∷◌, Option, Bool, ◌||◌}
use Rattle.cat_types.specs.declared.named.NamedStat.{NamedStat}
use Rattle.ms_structs.specs.declared.got.Got.{Got}
use Rattle.ms_structs.specs.declared.got.Got.TheVariants.{Nothing}
use Rattle.ms_structs.specs.Slots.{is_bad, made_of, slot, struct_of, unless_bad, value_of, value_or}
use Rattle.ms_structs.specs.Values.{items_of, text_of}
use Rattle.ms_structs.specs.Written.{OwnField, fields_of, given, items_tree}
use Rattle.stat_structs.specs.declared.requests.StatsRequest.{StatsRequest}
use Rattle.stat_structs.specs.declared.requests.StatsRequestFields.{StatsRequestFields}
use Rattle.stat_structs.specs.Objects.{object_tree}
use Rattle.thrift_binary.specs.Codes.{list_code, struct_code, text_code}
use Rattle.thrift_binary.specs.Tree.{Wire, Struct, Fields}

-- the slots before the first field: 1 dbName, 2 tblName, 3 colNames
abbrev pub request_none : StatsRequestFields
request_none = record { db = Nothing; table = Nothing; cols = Nothing }

-- the slots behind one more field
abbrev pub request_set : StatsRequestFields → ℕ → ℤ → Wire → StatsRequestFields
request_set f ty id w = record {
  db = slot (pos 1) text_code text_of f.db ty id w;
  table = slot (pos 2) text_code text_of f.table ty id w;
  cols = slot (pos 3) list_code (items_of text_code text_of) f.cols ty id w;
}

-- whether a text in one of the slots is bad
abbrev pub request_is_bad : StatsRequestFields → Bool
request_is_bad f = is_bad f.db || (is_bad f.table || is_bad f.cols)

-- absent names stay absent, and an absent list is empty
abbrev pub request_whole : StatsRequestFields → Option StatsRequest
request_whole f = unless_bad (request_is_bad f) (record { db = value_of f.db; table = value_of f.table; cols = value_or [] f.cols })

-- the request that these fields make; None: a text that counts isn't UTF-8
abbrev pub request_made : Fields → Option StatsRequest
request_made = made_of request_whole request_set request_none

-- the request that a struct says
unfoldable pub request_of : Wire → Got StatsRequest
request_of = struct_of request_whole request_set request_none

-- the fields of the result: 1 the statistics
abbrev pub result_written : List NamedStat → List OwnField
result_written stats = given (pos 1) list_code (items_tree struct_code object_tree) stats ∷ []

-- the struct that answers a request
unfoldable pub statistics_result : List NamedStat → Wire
statistics_result stats = Struct (fields_of (result_written stats))
