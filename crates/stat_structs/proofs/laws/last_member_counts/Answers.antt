use Rattle.stat_structs.proofs.MemberLaws.{flags_count, longs_count, no_member_no_value, strings_count}
use Rattle.stat_structs.proofs.laws.last_member_counts.Goals as goal

pub returns : goal.returns
returns c = record { flags = flags_count; longs = longs_count; strings = strings_count; none = no_member_no_value }
