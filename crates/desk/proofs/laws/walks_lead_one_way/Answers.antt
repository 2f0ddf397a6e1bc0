use Rattle.desk.proofs.OneWay.{one_way}
use Rattle.desk.proofs.laws.walks_lead_one_way.Goals as goal

pub returns : goal.returns
returns c = one_way
