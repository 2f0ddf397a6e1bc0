use Rattle.std.proofs.Common.{◌≡◌, ℕ, List, subst}
use Rattle.server_cli.specs.Plans.{Plans}
use Rattle.server_cli.specs.Words.{Asks}
use Rattle.server_cli.specs.declared.top_call.Plan.{Plan}
use Rattle.server_cli.specs.declared.top_call.Plan.TheVariants.{Serve}
use Rattle.server_cli.specs.declared.words.Serving.{Serving}
use Rattle.metastore.proofs.main.Goals as goal

-- as many workers as the words ask
as_asked : (words : List (List ℕ)) (plan : Plan) (port workers : ℕ) → plan ≡ Serve port workers → Plans words plan → (asked : Serving) → Asks words asked → workers ≡ asked.workers
as_asked words plan port workers same plans asked is = ((subst (Plans words) same plans).1.asked asked is).1

pub serve-requires-clause-asked : goal.serve-requires-clause-asked
serve-requires-clause-asked g c κs = as_asked _ c.in-Ok-Serve.field-0 _ _ c.in-Ok-Serve.field-0-is c.in-Ok-Serve.ensures
