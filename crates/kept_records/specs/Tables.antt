-- What a table's record is kept as that a caller hands in.
use Rattle.std.specs.Prelude.{ℕ, ℤ, pos, min, Bool, true, false, ◌&&◌, List, [], ◌∷◌, map, Option, None, Some, is_some, codes, decimal, filter, if◌then◌else◌}
use Rattle.std.specs.BTreeMap.{insert_entry, is_at}
use Rattle.std.specs.Cmp.Lexicographic.{slice_cmp}
use Rattle.std.specs.Map.{lookup}
use Rattle.std.specs.Ordering.{nat_cmp}
use Rattle.std.specs.Str.{bytes_eq}
use Rattle.cat_values.specs.Columns.{column_named}
use Rattle.cat_values.specs.Names.{lower}
use Rattle.cat_values.specs.declared.records.TableRec.{TableRec}
use Rattle.cat_values.specs.declared.statistics.StatRec.{StatRec}
use Rattle.cat_values.specs.declared.storage.Column.{Column}
use Rattle.cat_values.specs.declared.storage.Order.{Order}
use Rattle.cat_values.specs.declared.storage.Skew.{Skew}
use Rattle.cat_values.specs.declared.storage.Storage.{Storage}

-- ---- names of columns in lower case

-- a column with its name in lower case
abbrev pub lower_column : Column → Column
lower_column column = record { name = lower column.name; ty = column.ty; comment = column.comment }

abbrev pub lower_columns : List Column → List Column
lower_columns columns = map lower_column columns

abbrev pub lower_order : Order → Order
lower_order order = record { col = lower order.col; dir = order.dir }

abbrev pub lower_skew : Skew → Skew
lower_skew skew = record { cols = map lower skew.cols; values = skew.values; places = skew.places }

abbrev pub lower_if_any : Option Skew → Option Skew
lower_if_any None = None
lower_if_any (Some skew) = Some (lower_skew skew)

-- a storage with all names of columns in it in lower case
abbrev pub lower_storage : Storage → Storage
lower_storage sd = record {
  cols = lower_columns sd.cols;
  location = sd.location;
  input = sd.input;
  output = sd.output;
  compressed = sd.compressed;
  buckets = sd.buckets;
  serde = sd.serde;
  bucket_cols = map lower sd.bucket_cols;
  sort_cols = map lower_order sd.sort_cols;
  params = sd.params;
  skew = lower_if_any sd.skew;
  sub_dirs = sd.sub_dirs;
}

-- ---- moments

-- the greatest moment that a number of four bytes holds
abbrev pub last_moment : ℕ
last_moment = 2147483647

-- a moment as a number of four bytes, cut to the greatest one
abbrev pub cut_moment : ℕ → ℕ
cut_moment moment = min moment last_moment

-- the parameter that shows when a table or partition was last made or altered
abbrev pub change_key : List ℕ
change_key = codes "transient_lastDdlTime"

-- parameters with the moment of the change in decimal digits, where they don't have one
abbrev pub dated : List (List ℕ × List ℕ) → ℕ → List (List ℕ × List ℕ)
dated params moment =
    if is_some (lookup (is_at (slice_cmp nat_cmp change_key)) params) then params
    else insert_entry (slice_cmp nat_cmp) params change_key (decimal (cut_moment moment))

-- ---- records

-- a record with its names in lower case and its date, with this time of creation and these statistics
abbrev pub kept_table : TableRec → ℕ → ℤ → List (List ℕ × StatRec) → TableRec
kept_table rec moment created stats = record {
  owner = rec.owner;
  created = created;
  accessed = rec.accessed;
  retention = rec.retention;
  sd = lower_storage rec.sd;
  keys = lower_columns rec.keys;
  params = dated rec.params moment;
  view_original = rec.view_original;
  view_expanded = rec.view_expanded;
  kind = rec.kind;
  stats = stats;
}

-- a table that is made: it is created at the moment, and has no statistics
abbrev pub made_table : TableRec → ℕ → TableRec
made_table rec moment = kept_table rec moment (pos (cut_moment moment)) []

-- both columns are there, and have the same type
abbrev pub is_same_type : Option Column → Option Column → Bool
is_same_type None new = false
is_same_type (Some old) None = false
is_same_type (Some old) (Some new) = bytes_eq old.ty new.ty

-- a column of this name is among the old ones and the new ones, with one type
abbrev pub keeps_column : List Column → List Column → List ℕ → Bool
keeps_column old new name = is_same_type (column_named old name) (column_named new name)

-- the statistics of the columns that keep name and type
abbrev pub kept_stats : List Column → List Column → List (List ℕ × StatRec) → List (List ℕ × StatRec)
kept_stats old new stats = filter (λ e. keeps_column old new e.0) stats

-- a table that is altered: it keeps its time of creation, and the statistics of the columns that keep name and type
abbrev pub altered_table : TableRec → TableRec → ℕ → TableRec
altered_table old rec moment = kept_table rec moment old.created (kept_stats old.sd.cols (lower_columns rec.sd.cols) old.stats)

-- ---- keys

-- keys have the same names and types, in the same order
abbrev pub have_same_keys : List Column → List Column → Bool
have_same_keys [] [] = true
have_same_keys [] (key ∷ keys) = false
have_same_keys (key ∷ keys) [] = false
have_same_keys (old ∷ olds) (new ∷ news) = bytes_eq old.name new.name && (bytes_eq old.ty new.ty && have_same_keys olds news)
