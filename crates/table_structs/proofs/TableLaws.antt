-- Tables: the order of fields is free, and what is written reads back.
use Rattle.std.proofs.Common.{◌≡◌, ◌||◌, true, false, pos, [], Some, refl, sym, ap, ◌∙◌}
use Rattle.cat_types.specs.declared.named.NamedTable.{NamedTable}
use Rattle.thrift_binary.specs.Codes.{i32_code, list_code, map_code, struct_code, text_code}
use Rattle.thrift_binary.specs.Tree.{Bytes, Fields}
use Rattle.ms_structs.specs.declared.got.Got.TheVariants.{Is}
use Rattle.ms_structs.specs.Laws.{OrderIsFree}
use Rattle.ms_structs.specs.Slots.{said, said_or_bad, unless_bad}
use Rattle.ms_structs.specs.Values.{items_of, number_of, params_of, text_of}
use Rattle.ms_structs.specs.Written.{fields_of}
use Rattle.ms_structs.proofs.OwnFields.{maybe, maybe_is_good, maybe_value, said_told, says_maybe}
use Rattle.ms_structs.proofs.ReadBack.{items_read, maybe_text_read, params_read, text_read}
use Rattle.ms_structs.proofs.Said.{said_same, slot_is}
use Rattle.table_structs.specs.declared.tables.TableFields.{TableFields}
use Rattle.table_structs.specs.Columns.{column_of, column_tree}
use Rattle.table_structs.specs.Storages.{storage_of}
use Rattle.table_structs.specs.Tables.{handed_in, table_made, table_none, table_of, table_set, table_tree, table_whole, table_written}
use Rattle.table_structs.specs.Kept.{IsKeptColumn, IsKeptTable}
use Rattle.table_structs.specs.Laws.{TablesReadBack}
use Rattle.table_structs.proofs.ColumnLaws.{columns_read_back}
use Rattle.table_structs.proofs.StorageLaws.{storages_read_back}

-- what fields make, by what they say under each id
table_by : (v : Fields) (f : TableFields)
    → said (pos 1) text_code text_of v ≡ f.name
    → said (pos 2) text_code text_of v ≡ f.db
    → said (pos 3) text_code text_of v ≡ f.owner
    → said (pos 4) i32_code number_of v ≡ f.created
    → said (pos 5) i32_code number_of v ≡ f.accessed
    → said (pos 6) i32_code number_of v ≡ f.retention
    → said (pos 7) struct_code storage_of v ≡ f.sd
    → said (pos 8) list_code (items_of struct_code column_of) v ≡ f.keys
    → said (pos 9) map_code params_of v ≡ f.params
    → said (pos 10) text_code text_of v ≡ f.view_original
    → said (pos 11) text_code text_of v ≡ f.view_expanded
    → said (pos 12) text_code text_of v ≡ f.kind
    → table_made v ≡ table_whole f
table_by v f name db owner created accessed retention sd keys params view_original view_expanded kind =
    let name = slot_is table_set table_none v (λ g. g.name) (pos 1) text_code text_of (λ g ty id w. refl) refl name in
    let db = slot_is table_set table_none v (λ g. g.db) (pos 2) text_code text_of (λ g ty id w. refl) refl db in
    let owner = slot_is table_set table_none v (λ g. g.owner) (pos 3) text_code text_of (λ g ty id w. refl) refl owner in
    let created = slot_is table_set table_none v (λ g. g.created) (pos 4) i32_code number_of (λ g ty id w. refl) refl created in
    let accessed = slot_is table_set table_none v (λ g. g.accessed) (pos 5) i32_code number_of (λ g ty id w. refl) refl accessed in
    let retention = slot_is table_set table_none v (λ g. g.retention) (pos 6) i32_code number_of (λ g ty id w. refl) refl retention in
    let sd = slot_is table_set table_none v (λ g. g.sd) (pos 7) struct_code storage_of (λ g ty id w. refl) refl sd in
    let keys = slot_is table_set table_none v (λ g. g.keys) (pos 8) list_code (items_of struct_code column_of) (λ g ty id w. refl) refl keys in
    let params = slot_is table_set table_none v (λ g. g.params) (pos 9) map_code params_of (λ g ty id w. refl) refl params in
    let view_original = slot_is table_set table_none v (λ g. g.view_original) (pos 10) text_code text_of (λ g ty id w. refl) refl view_original in
    let view_expanded = slot_is table_set table_none v (λ g. g.view_expanded) (pos 11) text_code text_of (λ g ty id w. refl) refl view_expanded in
    let kind = slot_is table_set table_none v (λ g. g.kind) (pos 12) text_code text_of (λ g ty id w. refl) refl kind in
    λ i. table_whole (record { name = name i; db = db i; owner = owner i; created = created i; accessed = accessed i; retention = retention i; sd = sd i; keys = keys i; params = params i; view_original = view_original i; view_expanded = view_expanded i; kind = kind i })

abbrev said_slots : Fields → TableFields
said_slots v = record {
  name = said (pos 1) text_code text_of v;
  db = said (pos 2) text_code text_of v;
  owner = said (pos 3) text_code text_of v;
  created = said (pos 4) i32_code number_of v;
  accessed = said (pos 5) i32_code number_of v;
  retention = said (pos 6) i32_code number_of v;
  sd = said (pos 7) struct_code storage_of v;
  keys = said (pos 8) list_code (items_of struct_code column_of) v;
  params = said (pos 9) map_code params_of v;
  view_original = said (pos 10) text_code text_of v;
  view_expanded = said (pos 11) text_code text_of v;
  kind = said (pos 12) text_code text_of v;
}

pub table_order : OrderIsFree table_of
unfolding table_of
table_order v v' same = ap said_or_bad (
    table_by v (said_slots v')
    (said_same (pos 1) text_code text_of v v' same)
    (said_same (pos 2) text_code text_of v v' same)
    (said_same (pos 3) text_code text_of v v' same)
    (said_same (pos 4) i32_code number_of v v' same)
    (said_same (pos 5) i32_code number_of v v' same)
    (said_same (pos 6) i32_code number_of v v' same)
    (said_same (pos 7) struct_code storage_of v v' same)
    (said_same (pos 8) list_code (items_of struct_code column_of) v v' same)
    (said_same (pos 9) map_code params_of v v' same)
    (said_same (pos 10) text_code text_of v v' same)
    (said_same (pos 11) text_code text_of v v' same)
    (said_same (pos 12) text_code text_of v v' same)
    ∙ sym (table_by v' (said_slots v') refl refl refl refl refl refl refl refl refl refl refl refl)
    )

-- the slots behind a table's own fields
abbrev own_slots : NamedTable → TableFields
own_slots table = record { name = Is table.table; db = Is table.db; owner = maybe table.rec.owner; created = Is table.rec.created; accessed = Is table.rec.accessed; retention = Is table.rec.retention; sd = Is table.rec.sd; keys = Is table.rec.keys; params = Is table.rec.params; view_original = maybe table.rec.view_original; view_expanded = maybe table.rec.view_expanded; kind = maybe table.rec.kind }

own_said : (table : NamedTable) → IsKeptTable table → table_made (fields_of (table_written table)) ≡ table_whole (own_slots table)
own_said table kept =
    let own = table_written table in
    table_by (fields_of own) (own_slots table)
    (said_told (pos 1) text_code text_of own refl ∙ text_read table.table kept.name)
    (said_told (pos 2) text_code text_of own refl ∙ text_read table.db kept.db)
    (said_told (pos 3) text_code text_of own refl ∙ says_maybe text_code text_of Bytes table.rec.owner (maybe_text_read table.rec.owner kept.owner))
    (said_told (pos 4) i32_code number_of own refl)
    (said_told (pos 5) i32_code number_of own refl)
    (said_told (pos 6) i32_code number_of own refl)
    (said_told (pos 7) struct_code storage_of own refl ∙ storages_read_back table.rec.sd kept.sd)
    (said_told (pos 8) list_code (items_of struct_code column_of) own refl ∙ items_read struct_code column_of column_tree IsKeptColumn columns_read_back table.rec.keys kept.keys)
    (said_told (pos 9) map_code params_of own refl ∙ params_read table.rec.params kept.params.0 kept.params.1)
    (said_told (pos 10) text_code text_of own refl ∙ says_maybe text_code text_of Bytes table.rec.view_original (maybe_text_read table.rec.view_original kept.view_original))
    (said_told (pos 11) text_code text_of own refl ∙ says_maybe text_code text_of Bytes table.rec.view_expanded (maybe_text_read table.rec.view_expanded kept.view_expanded))
    (said_told (pos 12) text_code text_of own refl ∙ says_maybe text_code text_of Bytes table.rec.kind (maybe_text_read table.rec.kind kept.kind))

own_whole : (table : NamedTable) → table_whole (own_slots table) ≡ Some (handed_in table)
own_whole table = λ i. unless_bad (false || (false || (maybe_is_good table.rec.owner i || (false || (false || (false || (maybe_is_good table.rec.view_original i || (maybe_is_good table.rec.view_expanded i || maybe_is_good table.rec.kind i)))))))) (record {
  table = Some table.table;
  db = Some table.db;
  has_sd = true;
  rec = record table.rec { owner = maybe_value table.rec.owner i; view_original = maybe_value table.rec.view_original i; view_expanded = maybe_value table.rec.view_expanded i; kind = maybe_value table.rec.kind i; stats = [] };
})

pub tables_read_back : TablesReadBack
unfolding table_of table_tree
tables_read_back table kept = ap said_or_bad (own_said table kept ∙ own_whole table)
