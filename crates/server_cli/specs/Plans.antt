-- Which top call a program's words are for.
use Rattle.std.specs.Prelude.{◌≡◌, ◌<◌, ℕ, List, ◌∷◌, codes}
use Rattle.server_cli.specs.Words.{Asks}
use Rattle.server_cli.specs.declared.top_call.Plan.{Plan}
use Rattle.server_cli.specs.declared.top_call.Plan.TheVariants.{Local, Serve}
use Rattle.server_cli.specs.declared.words.Serving.{Serving}

-- the first word is `serve`
abbrev pub BeginsServe : List (List ℕ) → Type 0
BeginsServe words = (rest : List (List ℕ)) × (words ≡ codes "serve" ∷ rest)

-- a port and a number of workers, of which there is one at least: those that the words ask, or 1 and 1 where they ask nothing
pub record IsMeant (words : List (List ℕ)) (port workers : ℕ) : Type 0 where
  pub some : 0 < workers
  pub asked : (s : Serving) → Asks words s → (port ≡ s.port) × (workers ≡ s.workers)
  pub none : ((s : Serving) → Asks words s → ⊥) → (port ≡ 1) × (workers ≡ 1)

-- what a program is to do with these words: to serve connections where the first of them is `serve`, and else to call what one process does
abbrev pub Plans : List (List ℕ) → Plan → Type 0
Plans words (Serve port workers) = BeginsServe words × IsMeant words port workers
Plans words Local = BeginsServe words → ⊥
