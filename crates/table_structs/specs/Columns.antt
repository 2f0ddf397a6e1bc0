-- FieldSchema: what its fields say, and how it is written.
use Rattle.std.specs.Prelude.{ℕ, ℤ, pos, List, [], ◌∷◌, Option, Bool, ◌||◌}
use Rattle.cat_values.specs.declared.storage.Column.{Column}
use Rattle.ms_structs.specs.declared.got.Got.{Got}
use Rattle.ms_structs.specs.declared.got.Got.TheVariants.{Nothing}
use Rattle.ms_structs.specs.Slots.{is_bad, made_of, slot, struct_of, unless_bad, value_of, value_or}
use Rattle.ms_structs.specs.Values.{text_of}
use Rattle.ms_structs.specs.Written.{OwnField, fields_of, given, if_any}
use Rattle.table_structs.specs.declared.columns.ColumnFields.{ColumnFields}
use Rattle.thrift_binary.specs.Codes.{text_code}
use Rattle.thrift_binary.specs.Tree.{Wire, Bytes, Struct, Fields}

-- the slots before the first field: 1 name, 2 type, 3 comment
abbrev pub column_none : ColumnFields
column_none = record { name = Nothing; ty = Nothing; comment = Nothing }

-- the slots behind one more field
abbrev pub column_set : ColumnFields → ℕ → ℤ → Wire → ColumnFields
column_set f ty id w = record {
  name = slot (pos 1) text_code text_of f.name ty id w;
  ty = slot (pos 2) text_code text_of f.ty ty id w;
  comment = slot (pos 3) text_code text_of f.comment ty id w;
}

-- whether a text in one of the slots is bad
abbrev pub column_is_bad : ColumnFields → Bool
column_is_bad f = is_bad f.name || (is_bad f.ty || is_bad f.comment)

-- an absent name and an absent type are empty
abbrev pub column_from : ColumnFields → Column
column_from f = record {
  name = value_or [] f.name;
  ty = value_or [] f.ty;
  comment = value_of f.comment;
}

-- what the slots make, unless a text is bad
abbrev pub column_whole : ColumnFields → Option Column
column_whole f = unless_bad (column_is_bad f) (column_from f)

-- the column that these fields make; None: a text that counts isn't UTF-8
abbrev pub column_made : Fields → Option Column
column_made = made_of column_whole column_set column_none

-- the column that a struct says
unfoldable pub column_of : Wire → Got Column
column_of = struct_of column_whole column_set column_none

-- the fields that a column is written as
abbrev pub column_written : Column → List OwnField
column_written column =
    given (pos 1) text_code Bytes column.name ∷
    given (pos 2) text_code Bytes column.ty ∷
    if_any (pos 3) text_code Bytes column.comment ∷ []

-- the struct that a column is written as
unfoldable pub column_tree : Column → Wire
column_tree column = Struct (fields_of (column_written column))
