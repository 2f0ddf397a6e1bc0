use Rattle.ms_structs.proofs.RequestSaid.{request_is_said}
use Rattle.ms_structs.proofs.notification_laws.notification_request_is_said.Goals as goal

pub returns : goal.returns
returns c = request_is_said
