-- What holds of every struct of this crate.
use Rattle.std.specs.Prelude.{◌≡◌}
use Rattle.cat_types.specs.declared.named.NamedPart.{NamedPart}
use Rattle.cat_types.specs.declared.named.NamedTable.{NamedTable}
use Rattle.ms_structs.specs.declared.got.Got.{Got}
use Rattle.ms_structs.specs.declared.got.Got.TheVariants.{Is}
use Rattle.table_structs.specs.Kept.{IsKeptPartition, IsKeptTable}
use Rattle.table_structs.specs.Partitions.{handed_in_partition, partition_of, partition_tree}
use Rattle.table_structs.specs.Tables.{handed_in, table_of, table_tree}
use Rattle.thrift_binary.specs.Tree.{Wire}

-- each value of which this holds reads back from its tree as it was
abbrev pub ReadsBack : {A : Type 0} → (A → Type 0) → (Wire → Got A) → (A → Wire) → Type 0
ReadsBack {A} IsKept means tree = (value : A) → IsKept value → means (tree value) ≡ Is value

-- so does a table, as it is handed in
abbrev pub TablesReadBack : Type 0
TablesReadBack = (table : NamedTable) → IsKeptTable table → table_of (table_tree table) ≡ Is (handed_in table)

-- and a partition, as it is handed in
abbrev pub PartitionsReadBack : Type 0
PartitionsReadBack = (part : NamedPart) → IsKeptPartition part → partition_of (partition_tree part) ≡ Is (handed_in_partition part)
