use Rattle.ms_structs.proofs.RequestSaid.{any_fields_make_a_request}
use Rattle.ms_structs.proofs.notification_laws.any_fields_make_a_notification_request.Goals as goal

pub returns : goal.returns
returns c = any_fields_make_a_request
