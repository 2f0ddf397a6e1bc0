use Rattle.thrift_binary.proofs.StrictSpelling.{wire_spelled}
use Rattle.thrift_binary.proofs.spelling.values_are_spelled.Goals as goal

pub returns : goal.returns
returns c = wire_spelled
