use Rattle.std.proofs.Common.{rules, ◌≡◌, ℕ, List, subst, arith, vec_len}
use Rattle.server_cli.specs.Plans.{Plans}
use Rattle.server_cli.specs.Words.{Asks}
use Rattle.server_cli.specs.declared.top_call.Plan.{Plan}
use Rattle.server_cli.specs.declared.top_call.Plan.TheVariants.{Serve}
use Rattle.server_cli.specs.declared.words.Serving.{Serving}
use Rattle.server_tests.proofs.beside.two_connections_run_beside_one_another.Goals as goal

-- as many workers as the words ask
as_asked : (words : List (List ℕ)) (plan : Plan) (port workers : ℕ) → plan ≡ Serve port workers → Plans words plan → (asked : Serving) → Asks words asked → workers ≡ asked.workers
as_asked words plan port workers same plans asked is = ((subst (Plans words) same plans).1.asked asked is).1

pub run_server-end-requires-clause-workers : goal.run_server-end-requires-clause-workers
run_server-end-requires-clause-workers g c κs = λ asked is.
    let planned = as_asked _ c.in-Ok-Serve.field-0 _ _ c.in-Ok-Serve.field-0-is c.in-Ok-Serve.ensures asked is in
    let workers : c.in-Ok-Serve.workers ≡ 2 = search rules in
    let listeners : vec_len c.in-Ok-Ok-Some.listeners ≡ 2 = search rules in
    omega (arith, planned, workers, listeners)
