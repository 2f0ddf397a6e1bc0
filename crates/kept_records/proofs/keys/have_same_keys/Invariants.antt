use Rattle.std.proofs.Common.{◌≡◌, drop}
use Rattle.kept_records.specs.Tables.{have_same_keys}
use Rattle.kept_records.proofs.keys.have_same_keys.Given as goal

abbrev pub invariant-loop-old_key : goal.invariant-loop-old_key
invariant-loop-old_key l = have_same_keys (drop l.old_key-index l.old) l.left ≡ have_same_keys l.old l.new
