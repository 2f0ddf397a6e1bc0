-- Statistics of columns: how they are handed in, kept and told.
use Rattle.std.specs.Prelude.{ℕ, nat_lt, min, Bool, false, not, List, [], ◌∷◌, ◌++◌, fold, length, map, Option, None, Some, is_some, ℤ, pos, if◌then◌else◌}
use Rattle.std.specs.BTreeMap.{insert_entry}
use Rattle.std.specs.Cmp.Lexicographic.{slice_cmp}
use Rattle.std.specs.List.{list_all, list_any}
use Rattle.std.specs.Map.{remove_entry}
use Rattle.std.specs.Ordering.{nat_cmp}
use Rattle.std.specs.Str.{bytes_eq}
use Rattle.cat_values.specs.Columns.{column_named}
use Rattle.cat_values.specs.Names.{lower}
use Rattle.cat_values.specs.declared.records.PartRec.{PartRec}
use Rattle.cat_values.specs.declared.records.TableRec.{TableRec}
use Rattle.cat_values.specs.declared.statistics.StatRec.{StatRec}
use Rattle.cat_values.specs.declared.statistics.StatValue.{StatValue}
use Rattle.cat_values.specs.declared.storage.Column.{Column}
use Rattle.cat_types.specs.declared.arguments.StatArg.{StatArg}
use Rattle.cat_types.specs.declared.named.NamedStat.{NamedStat}
use Rattle.cat_objects.specs.Catalogue.{at_name, is_name}
use Rattle.col_stats.specs.Rules.{first_fault}

-- statistics by the names of their columns
abbrev pub StatMap : Type 0
StatMap = List (List ℕ × StatRec)

-- ---- handed in

-- when statistics were taken: as it was handed in, or else at the moment of the call, cut to the greatest that is kept
abbrev pub taken_at : Option ℤ → ℕ → ℤ
taken_at None moment = pos (min moment 9223372036854775807)
taken_at (Some at) moment = at

-- a table takes this value of this column: the column is no key of it, is one of its columns and of a type for such values, and no count is below 0
abbrev pub takes_value : TableRec → List ℕ → StatValue → Bool
takes_value rec col value = not (is_some (first_fault (column_named rec.keys col) (column_named rec.sd.cols col) value))

-- a column is named, and a value is there, and the table takes it
abbrev pub takes_named : TableRec → Option (List ℕ) → Option StatValue → Bool
takes_named rec None value = false
takes_named rec (Some col) None = false
takes_named rec (Some col) (Some value) = takes_value rec (lower col) value

-- the same of all statistics that are handed in
abbrev pub takes_all : TableRec → List StatArg → Bool
takes_all rec objects = list_all (λ object. takes_named rec object.col object.value) objects

-- statistics with this value of this column, over those that are kept of it
abbrev pub put_named : ℤ → StatMap → Option (List ℕ) → Option StatValue → StatMap
put_named at stats None value = stats
put_named at stats (Some col) None = stats
put_named at stats (Some col) (Some value) = insert_entry (slice_cmp nat_cmp) stats (lower col) (record { analyzed = at; value = value })

-- statistics with all that are handed in, one after the other: of a column that is named twice the last counts
abbrev pub put_all : ℤ → StatMap → List StatArg → StatMap
put_all at stats objects = fold (λ kept object. put_named at kept object.col object.value) stats objects

-- ---- kept

-- a table's record with these statistics
abbrev pub table_with : StatMap → TableRec → TableRec
table_with stats rec = record {
  owner = rec.owner;
  created = rec.created;
  accessed = rec.accessed;
  retention = rec.retention;
  sd = rec.sd;
  keys = rec.keys;
  params = rec.params;
  view_original = rec.view_original;
  view_expanded = rec.view_expanded;
  kind = rec.kind;
  stats = stats;
}

-- a partition's record with these statistics
abbrev pub part_with : StatMap → PartRec → PartRec
part_with stats rec = record { created = rec.created; accessed = rec.accessed; sd = rec.sd; params = rec.params; stats = stats }

-- there are statistics of this column; where none is named, of any
abbrev pub has_stats : Option (List ℕ) → StatMap → Bool
has_stats None stats = nat_lt 0 (length stats)
has_stats (Some col) stats = is_some (at_name (lower col) stats)

-- statistics without those of this column; where none is named, none are left
abbrev pub without_stats : Option (List ℕ) → StatMap → StatMap
without_stats None stats = []
without_stats (Some col) stats = remove_entry (is_name (lower col)) stats

-- ---- told

-- the type of a column, and no text where there is none
abbrev pub type_of : Option Column → List ℕ
type_of None = []
type_of (Some column) = column.ty

-- statistics of a column, where there are any, with the type that the table has for it
abbrev pub told_stat : Option StatRec → List Column → List ℕ → List NamedStat
told_stat None cols col = []
told_stat (Some rec) cols col = record { col = col; ty = type_of (column_named cols col); rec = rec } ∷ []

-- names without those that were seen, and without those that stand earlier among them
abbrev pub first_asked : List (List ℕ) → List (List ℕ) → List (List ℕ)
first_asked seen [] = []
first_asked seen (name ∷ names) = if list_any (bytes_eq name) seen then first_asked seen names else name ∷ first_asked (name ∷ seen) names

-- the statistics that there are of these columns, in their order
abbrev pub stats_there : StatMap → List Column → List (List ℕ) → List NamedStat
stats_there stats cols [] = []
stats_there stats cols (name ∷ names) = told_stat (at_name name stats) cols name ++ stats_there stats cols names

-- the statistics that there are of the columns that are asked for, each once, in the order of first asking
abbrev pub stats_asked : TableRec → List (List ℕ) → List NamedStat
stats_asked rec names = stats_there rec.stats rec.sd.cols (first_asked [] (map lower names))
