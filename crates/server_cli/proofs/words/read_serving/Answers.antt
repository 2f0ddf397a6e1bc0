use Rattle.std.proofs.Common.{◌≡◌, ◌∷◌, ℕ, List, map, string_bytes, refl, length, take, ◌-◌, drop, subst, sym}
use Rattle.server_cli.specs.Words.{Asks}
use Rattle.server_cli.proofs.Asking.{five_words}
use Rattle.server_cli.proofs.words.read_serving.Goals as goal

pub returns-in_err-port-in-len5-up-clause-none : goal.returns-in_err-port-in-len5-up-clause-none
returns-in_err-port-in-len5-up-clause-none c = λ _ s is. c.in_err-port-in-len5-up.ensures.none refl s (map string_bytes (take (length c.args.words.now - 5) (drop 5 c.args.words.now))) (subst (λ (ws : List (List ℕ)). Asks ws s) same is)
  where
    same : map string_bytes c.args.words.now ≡ c.as_str.result.now ∷ c.as_str-in-len5-up.result.now ∷ c.as_str-in-len5-up-2.result.now ∷ c.as_str-in-len5-up-3.result.now ∷ c.as_str-in-len5-up-4.result.now ∷ map string_bytes (take (length c.args.words.now - 5) (drop 5 c.args.words.now))
    same = rw (c.as_str.ensures.value, c.as_str-in-len5-up.ensures.value, c.as_str-in-len5-up-2.ensures.value, c.as_str-in-len5-up-3.ensures.value, c.as_str-in-len5-up-4.ensures.value) (five_words c.args.words.now c.command-item.result c.port_name-item.result c.port-item.result c.workers_name-item.result c.workers-item.result c.in-len5-up.len_at_least c.command-item.is c.port_name-item.is c.port-item.is c.workers_name-item.is c.workers-item.is)

pub returns-in_ok-sessions-in-len5-up-clause-asked :
    goal.returns-in_ok-sessions-in-len5-up-clause-asked
returns-in_ok-sessions-in-len5-up-clause-asked c =
    subst (λ (ws : List (List ℕ)). Asks ws (record { port = c.in_ok-port-in-len5-up.port; workers = c.in_ok-port-in-len5-up.workers; sessions = c.in_ok-sessions-in-len5-up.sessions })) (sym same) (c.in_ok-port-in-len5-up.ensures.asked _ _ c.in_ok-sessions-in-len5-up.ensures)
  where
    same : map string_bytes c.args.words.now ≡ c.as_str.result.now ∷ c.as_str-in-len5-up.result.now ∷ c.as_str-in-len5-up-2.result.now ∷ c.as_str-in-len5-up-3.result.now ∷ c.as_str-in-len5-up-4.result.now ∷ map string_bytes (take (length c.args.words.now - 5) (drop 5 c.args.words.now))
    same = rw (c.as_str.ensures.value, c.as_str-in-len5-up.ensures.value, c.as_str-in-len5-up-2.ensures.value, c.as_str-in-len5-up-3.ensures.value, c.as_str-in-len5-up-4.ensures.value) (five_words c.args.words.now c.command-item.result c.port_name-item.result c.port-item.result c.workers_name-item.result c.workers-item.result c.in-len5-up.len_at_least c.command-item.is c.port_name-item.is c.port-item.is c.workers_name-item.is c.workers-item.is)
