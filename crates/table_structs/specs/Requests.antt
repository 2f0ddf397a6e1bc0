-- GetTableRequest and GetTableResult.
use Rattle.std.specs.Prelude.{ℕ, ℤ, pos, List, [], ◌∷◌, Option, Bool, ◌||◌}
use Rattle.cat_types.specs.declared.named.NamedTable.{NamedTable}
use Rattle.ms_structs.specs.declared.got.Got.{Got}
use Rattle.ms_structs.specs.declared.got.Got.TheVariants.{Nothing}
use Rattle.ms_structs.specs.Slots.{is_bad, made_of, slot, struct_of, unless_bad, value_of}
use Rattle.ms_structs.specs.Values.{text_of}
use Rattle.ms_structs.specs.Written.{OwnField, fields_of, given}
use Rattle.table_structs.specs.declared.requests.TableRequest.{TableRequest}
use Rattle.table_structs.specs.declared.requests.TableRequestFields.{TableRequestFields}
use Rattle.table_structs.specs.Tables.{table_tree}
use Rattle.thrift_binary.specs.Codes.{struct_code, text_code}
use Rattle.thrift_binary.specs.Tree.{Wire, Struct, Fields}

-- the slots before the first field: 1 dbName, 2 tblName
abbrev pub request_none : TableRequestFields
request_none = record { db = Nothing; table = Nothing }

-- the slots behind one more field
abbrev pub request_set : TableRequestFields → ℕ → ℤ → Wire → TableRequestFields
request_set f ty id w = record {
  db = slot (pos 1) text_code text_of f.db ty id w;
  table = slot (pos 2) text_code text_of f.table ty id w;
}

-- whether a text in one of the slots is bad
abbrev pub request_is_bad : TableRequestFields → Bool
request_is_bad f = is_bad f.db || is_bad f.table

-- absent names stay absent
abbrev pub request_whole : TableRequestFields → Option TableRequest
request_whole f = unless_bad (request_is_bad f) (record { db = value_of f.db; table = value_of f.table })

-- the request that these fields make; None: a text that counts isn't UTF-8
abbrev pub request_made : Fields → Option TableRequest
request_made = made_of request_whole request_set request_none

-- the request that a struct says
unfoldable pub request_of : Wire → Got TableRequest
request_of = struct_of request_whole request_set request_none

-- the fields of the result: 1 the table
abbrev pub result_written : NamedTable → List OwnField
result_written table = given (pos 1) struct_code table_tree table ∷ []

-- the struct that answers a request
abbrev pub table_result : NamedTable → Wire
table_result table = Struct (fields_of (result_written table))
