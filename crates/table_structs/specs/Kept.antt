-- What holds of every value in memory: its texts are UTF-8, and its maps stand in rising order of their keys.
use Rattle.std.specs.Prelude.{ℕ, List, IfSome}
use Rattle.std.specs.Cmp.Lexicographic.{slice_cmp}
use Rattle.std.specs.List.{AllByRecursion}
use Rattle.std.specs.List.Sorted.{IsStrictlySortedBy}
use Rattle.std.specs.Map.{keys_of}
use Rattle.std.specs.Ordering.{nat_cmp}
use Rattle.std.specs.Str.{IsUtf8}
use Rattle.cat_types.specs.declared.named.NamedPart.{NamedPart}
use Rattle.cat_types.specs.declared.named.NamedTable.{NamedTable}
use Rattle.cat_values.specs.declared.storage.Column.{Column}
use Rattle.cat_values.specs.declared.storage.Order.{Order}
use Rattle.cat_values.specs.declared.storage.Serde.{Serde}
use Rattle.cat_values.specs.declared.storage.Skew.{Skew}
use Rattle.cat_values.specs.declared.storage.Storage.{Storage}
use Rattle.ms_structs.specs.Laws.{ArePairs, IsTextOrNone}

-- parameters
abbrev pub AreParams : List (List ℕ × List ℕ) → Type 0
AreParams params = ArePairs params × IsStrictlySortedBy (slice_cmp nat_cmp) (keys_of params)

-- places of values, each found by the values of the columns
abbrev pub ArePlaces : List (List (List ℕ) × List ℕ) → Type 0
ArePlaces places = AllByRecursion (λ pair. AllByRecursion IsUtf8 pair.0 × IsUtf8 pair.1) places × IsStrictlySortedBy (slice_cmp (slice_cmp nat_cmp)) (keys_of places)

-- a column
pub record IsKeptColumn (column : Column) : Type 0 where
  pub name : IsUtf8 column.name
  pub ty : IsUtf8 column.ty
  pub comment : IsTextOrNone column.comment

-- an order
pub record IsKeptOrder (order : Order) : Type 0 where
  pub col : IsUtf8 order.col

-- a serializer
pub record IsKeptSerde (serde : Serde) : Type 0 where
  pub name : IsTextOrNone serde.name
  pub lib : IsTextOrNone serde.lib
  pub params : AreParams serde.params

-- a skew
pub record IsKeptSkew (skew : Skew) : Type 0 where
  pub cols : AllByRecursion IsUtf8 skew.cols
  pub values : AllByRecursion (AllByRecursion IsUtf8) skew.values
  pub places : ArePlaces skew.places

-- a storage
pub record IsKeptStorage (storage : Storage) : Type 0 where
  pub cols : AllByRecursion IsKeptColumn storage.cols
  pub location : IsTextOrNone storage.location
  pub input : IsTextOrNone storage.input
  pub output : IsTextOrNone storage.output
  pub serde : IfSome storage.serde IsKeptSerde
  pub bucket_cols : AllByRecursion IsUtf8 storage.bucket_cols
  pub sort_cols : AllByRecursion IsKeptOrder storage.sort_cols
  pub params : AreParams storage.params
  pub skew : IfSome storage.skew IsKeptSkew

-- a table with its names
pub record IsKeptTable (table : NamedTable) : Type 0 where
  pub name : IsUtf8 table.table
  pub db : IsUtf8 table.db
  pub owner : IsTextOrNone table.rec.owner
  pub sd : IsKeptStorage table.rec.sd
  pub keys : AllByRecursion IsKeptColumn table.rec.keys
  pub params : AreParams table.rec.params
  pub view_original : IsTextOrNone table.rec.view_original
  pub view_expanded : IsTextOrNone table.rec.view_expanded
  pub kind : IsTextOrNone table.rec.kind

-- a partition with its names and its values
pub record IsKeptPartition (part : NamedPart) : Type 0 where
  pub values : AllByRecursion IsUtf8 part.values
  pub db : IsUtf8 part.db
  pub table : IsUtf8 part.table
  pub sd : IfSome part.rec.sd IsKeptStorage
  pub params : AreParams part.rec.params
