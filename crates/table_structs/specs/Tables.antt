-- Table: what its fields say, and how it is written.
use Rattle.std.specs.Prelude.{ℕ, ℤ, pos, List, [], ◌∷◌, Option, Bool, ◌||◌, Some, true, is_some}
use Rattle.cat_types.specs.declared.arguments.TableArg.{TableArg}
use Rattle.cat_types.specs.declared.named.NamedTable.{NamedTable}
use Rattle.cat_values.specs.declared.storage.Storage.{Storage}
use Rattle.ms_structs.specs.declared.got.Got.{Got}
use Rattle.ms_structs.specs.declared.got.Got.TheVariants.{Nothing}
use Rattle.ms_structs.specs.Slots.{is_bad, made_of, slot, struct_of, unless_bad, value_of, value_or}
use Rattle.ms_structs.specs.Values.{items_of, number_of, params_of, text_of}
use Rattle.ms_structs.specs.Written.{OwnField, fields_of, given, if_any, items_tree, params_tree}
use Rattle.table_structs.specs.declared.tables.TableFields.{TableFields}
use Rattle.table_structs.specs.Columns.{column_of, column_tree}
use Rattle.table_structs.specs.Storages.{storage_from, storage_none, storage_of, storage_tree}
use Rattle.thrift_binary.specs.Codes.{i32_code, list_code, map_code, struct_code, text_code}
use Rattle.thrift_binary.specs.Tree.{Wire, Bytes, Number, Struct, Fields}

-- the slots before the first field: 1 tableName, 2 dbName, 3 owner, 4 createTime, 5 lastAccessTime, 6 retention, 7 sd, 8 partitionKeys, 9 parameters, 10 viewOriginalText, 11 viewExpandedText, 12 tableType
abbrev pub table_none : TableFields
table_none = record { name = Nothing; db = Nothing; owner = Nothing; created = Nothing; accessed = Nothing; retention = Nothing; sd = Nothing; keys = Nothing; params = Nothing; view_original = Nothing; view_expanded = Nothing; kind = Nothing }

-- the slots behind one more field
abbrev pub table_set : TableFields → ℕ → ℤ → Wire → TableFields
table_set f ty id w = record {
  name = slot (pos 1) text_code text_of f.name ty id w;
  db = slot (pos 2) text_code text_of f.db ty id w;
  owner = slot (pos 3) text_code text_of f.owner ty id w;
  created = slot (pos 4) i32_code number_of f.created ty id w;
  accessed = slot (pos 5) i32_code number_of f.accessed ty id w;
  retention = slot (pos 6) i32_code number_of f.retention ty id w;
  sd = slot (pos 7) struct_code storage_of f.sd ty id w;
  keys = slot (pos 8) list_code (items_of struct_code column_of) f.keys ty id w;
  params = slot (pos 9) map_code params_of f.params ty id w;
  view_original = slot (pos 10) text_code text_of f.view_original ty id w;
  view_expanded = slot (pos 11) text_code text_of f.view_expanded ty id w;
  kind = slot (pos 12) text_code text_of f.kind ty id w;
}

-- whether a text in one of the slots is bad
abbrev pub table_is_bad : TableFields → Bool
table_is_bad f = is_bad f.name || (is_bad f.db || (is_bad f.owner || (is_bad f.sd || (is_bad f.keys || (is_bad f.params || (is_bad f.view_original || (is_bad f.view_expanded || is_bad f.kind)))))))

-- a storage of which nothing is said
abbrev pub no_storage : Storage
no_storage = storage_from storage_none

-- absent texts stay absent, absent numbers are 0, absent lists and an absent map are empty; nothing is handed in of statistics
abbrev pub table_from : TableFields → TableArg
table_from f = record {
  table = value_of f.name;
  db = value_of f.db;
  has_sd = is_some (value_of f.sd);
  rec = record {
    owner = value_of f.owner;
    created = value_or (pos 0) f.created;
    accessed = value_or (pos 0) f.accessed;
    retention = value_or (pos 0) f.retention;
    sd = value_or no_storage f.sd;
    keys = value_or [] f.keys;
    params = value_or [] f.params;
    view_original = value_of f.view_original;
    view_expanded = value_of f.view_expanded;
    kind = value_of f.kind;
    stats = [];
  };
}

-- what the slots make, unless a text is bad
abbrev pub table_whole : TableFields → Option TableArg
table_whole f = unless_bad (table_is_bad f) (table_from f)

-- the table that these fields make; None: a text that counts isn't UTF-8
abbrev pub table_made : Fields → Option TableArg
table_made = made_of table_whole table_set table_none

-- the table that a struct says
unfoldable pub table_of : Wire → Got TableArg
table_of = struct_of table_whole table_set table_none

-- the fields that a table is written as
abbrev pub table_written : NamedTable → List OwnField
table_written table =
    given (pos 1) text_code Bytes table.table ∷
    given (pos 2) text_code Bytes table.db ∷
    if_any (pos 3) text_code Bytes table.rec.owner ∷
    given (pos 4) i32_code Number table.rec.created ∷
    given (pos 5) i32_code Number table.rec.accessed ∷
    given (pos 6) i32_code Number table.rec.retention ∷
    given (pos 7) struct_code storage_tree table.rec.sd ∷
    given (pos 8) list_code (items_tree struct_code column_tree) table.rec.keys ∷
    given (pos 9) map_code params_tree table.rec.params ∷
    if_any (pos 10) text_code Bytes table.rec.view_original ∷
    if_any (pos 11) text_code Bytes table.rec.view_expanded ∷
    if_any (pos 12) text_code Bytes table.rec.kind ∷ []

-- the struct that a table is written as
unfoldable pub table_tree : NamedTable → Wire
table_tree table = Struct (fields_of (table_written table))

-- a table as whoever reads it would hand it in: without statistics
abbrev pub handed_in : NamedTable → TableArg
handed_in table = record { table = Some table.table; db = Some table.db; has_sd = true; rec = record table.rec { stats = [] } }
