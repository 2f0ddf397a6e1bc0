-- How a refused dump is told.
use Rattle.std.specs.Prelude.{ℕ, List, ◌++◌, codes}
use Rattle.std.specs.Fmt.{decimal}
use Rattle.cat_types.specs.declared.steps.DumpRefusal.{DumpRefusal}
use Rattle.cat_types.specs.declared.steps.DumpRefusal.TheVariants.{BadRange, DatabaseGone, IsReplica, MissingEvents, NoSuchDb, UsedUp}

-- the text that tells why a dump is refused
abbrev pub refusal_text : DumpRefusal → List ℕ
refusal_text NoSuchDb = codes "no such database"
refusal_text IsReplica = codes "is a replica"
refusal_text BadRange = codes "bad range"
refusal_text (DatabaseGone born) = codes "database gone, born " ++ decimal born
refusal_text (MissingEvents first) = codes "missing events: first kept " ++ decimal first
refusal_text UsedUp = codes "dump numbers used up"
