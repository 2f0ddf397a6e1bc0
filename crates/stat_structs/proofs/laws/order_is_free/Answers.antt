use Rattle.stat_structs.proofs.DescLaws.{desc_order}
use Rattle.stat_structs.proofs.FlagLaws.{flags_order}
use Rattle.stat_structs.proofs.LongLaws.{long_order}
use Rattle.stat_structs.proofs.ObjectLaws.{object_order}
use Rattle.stat_structs.proofs.RequestLaws.{request_order}
use Rattle.stat_structs.proofs.StatisticsLaws.{statistics_order}
use Rattle.stat_structs.proofs.StringLaws.{string_order}
use Rattle.stat_structs.proofs.laws.order_is_free.Goals as goal

pub returns : goal.returns
returns c = record { flags = flags_order; longs = long_order; strings = string_order; objects = object_order; descs = desc_order; statistics = statistics_order; requests = request_order }
