-- What holds of every value in memory: its texts are UTF-8.
use Rattle.std.specs.Str.{IsUtf8}
use Rattle.cat_types.specs.declared.arguments.StatsDesc.{StatsDesc}
use Rattle.cat_types.specs.declared.named.NamedStat.{NamedStat}
use Rattle.ms_structs.specs.Laws.{IsTextOrNone}

-- a column's statistics with its names
pub record IsKeptStat (stat : NamedStat) : Type 0 where
  pub col : IsUtf8 stat.col
  pub ty : IsUtf8 stat.ty

-- of what statistics are
pub record IsKeptDesc (desc : StatsDesc) : Type 0 where
  pub db : IsTextOrNone desc.db
  pub table : IsTextOrNone desc.table
  pub part : IsTextOrNone desc.part
