use Rattle.ms_calls.proofs.Valid.{valid}
use Rattle.ms_calls.proofs.part_texts.is_valid.Goals as goal

pub returns : goal.returns
returns c = valid c.valid_value.result c.args.value.now c.valid_value.ensures.0 c.valid_value.ensures.1
