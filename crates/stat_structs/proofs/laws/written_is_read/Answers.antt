use Rattle.stat_structs.proofs.DescLaws.{descs_read_back}
use Rattle.stat_structs.proofs.FlagLaws.{flags_read_back}
use Rattle.stat_structs.proofs.LongLaws.{longs_read_back}
use Rattle.stat_structs.proofs.MemberLaws.{members_read_back}
use Rattle.stat_structs.proofs.ObjectLaws.{objects_read_back}
use Rattle.stat_structs.proofs.StatisticsLaws.{results_read_back, statistics_read_back}
use Rattle.stat_structs.proofs.StringLaws.{strings_read_back}
use Rattle.stat_structs.proofs.laws.written_is_read.Goals as goal

pub returns : goal.returns
returns c = record { flags = flags_read_back; longs = longs_read_back; strings = strings_read_back; members = members_read_back; objects = objects_read_back; descs = descs_read_back; statistics = statistics_read_back; results = results_read_back }
