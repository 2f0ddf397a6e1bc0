-- Columns: the order of fields is free, and what is written reads back.
use Rattle.std.proofs.Common.{◌≡◌, ◌||◌, false, pos, Some, refl, sym, ap, ◌∙◌}
use Rattle.cat_values.specs.declared.storage.Column.{Column}
use Rattle.thrift_binary.specs.Codes.{text_code}
use Rattle.thrift_binary.specs.Tree.{Bytes, Fields}
use Rattle.ms_structs.specs.declared.got.Got.TheVariants.{Is}
use Rattle.ms_structs.specs.Laws.{OrderIsFree}
use Rattle.ms_structs.specs.Slots.{said, said_or_bad, unless_bad}
use Rattle.ms_structs.specs.Values.{text_of}
use Rattle.ms_structs.specs.Written.{fields_of}
use Rattle.ms_structs.proofs.OwnFields.{maybe, maybe_is_good, maybe_value, said_told, says_maybe}
use Rattle.ms_structs.proofs.ReadBack.{maybe_text_read, text_read}
use Rattle.ms_structs.proofs.Said.{said_same, slot_is}
use Rattle.table_structs.specs.declared.columns.ColumnFields.{ColumnFields}
use Rattle.table_structs.specs.Columns.{column_made, column_none, column_of, column_set, column_tree, column_whole, column_written}
use Rattle.table_structs.specs.Kept.{IsKeptColumn}
use Rattle.table_structs.specs.Laws.{ReadsBack}

-- what fields make, by what they say under each id
column_by : (v : Fields) (f : ColumnFields)
    → said (pos 1) text_code text_of v ≡ f.name
    → said (pos 2) text_code text_of v ≡ f.ty
    → said (pos 3) text_code text_of v ≡ f.comment
    → column_made v ≡ column_whole f
column_by v f name ty comment =
    let name = slot_is column_set column_none v (λ g. g.name) (pos 1) text_code text_of (λ g ty id w. refl) refl name in
    let ty = slot_is column_set column_none v (λ g. g.ty) (pos 2) text_code text_of (λ g ty id w. refl) refl ty in
    let comment = slot_is column_set column_none v (λ g. g.comment) (pos 3) text_code text_of (λ g ty id w. refl) refl comment in
    λ i. column_whole (record { name = name i; ty = ty i; comment = comment i })

abbrev said_slots : Fields → ColumnFields
said_slots v = record {
  name = said (pos 1) text_code text_of v;
  ty = said (pos 2) text_code text_of v;
  comment = said (pos 3) text_code text_of v;
}

pub column_order : OrderIsFree column_of
unfolding column_of
column_order v v' same = ap said_or_bad (
    column_by v (said_slots v')
    (said_same (pos 1) text_code text_of v v' same)
    (said_same (pos 2) text_code text_of v v' same)
    (said_same (pos 3) text_code text_of v v' same)
    ∙ sym (column_by v' (said_slots v') refl refl refl)
    )

-- the slots behind a column's own fields
abbrev own_slots : Column → ColumnFields
own_slots column = record { name = Is column.name; ty = Is column.ty; comment = maybe column.comment }

own_said : (column : Column) → IsKeptColumn column → column_made (fields_of (column_written column)) ≡ column_whole (own_slots column)
own_said column kept =
    let own = column_written column in
    column_by (fields_of own) (own_slots column)
    (said_told (pos 1) text_code text_of own refl ∙ text_read column.name kept.name)
    (said_told (pos 2) text_code text_of own refl ∙ text_read column.ty kept.ty)
    (said_told (pos 3) text_code text_of own refl ∙ says_maybe text_code text_of Bytes column.comment (maybe_text_read column.comment kept.comment))

own_whole : (column : Column) → column_whole (own_slots column) ≡ Some column
own_whole column = λ i. unless_bad (false || (false || maybe_is_good column.comment i)) (record column { comment = maybe_value column.comment i })

pub columns_read_back : ReadsBack IsKeptColumn column_of column_tree
unfolding column_of column_tree
columns_read_back column kept = ap said_or_bad (own_said column kept ∙ own_whole column)
