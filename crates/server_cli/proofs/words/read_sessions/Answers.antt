use Rattle.std.proofs.Common.{◌≡◌, ◌∷◌, [], map, string_bytes, arith}
use Rattle.server_cli.proofs.Asking.{no_sessions, two_words}
use Rattle.server_cli.proofs.words.read_sessions.Goals as goal

pub returns-in-None : goal.returns-in-None
returns-in-None c = no_sessions _ _ _ same c.in-None.ensures
  where
    same : map string_bytes c.args.words.now ≡ c.as_str.result.now ∷ c.as_str-in-len2.result.now ∷ []
    same = rw (c.as_str.ensures.value, c.as_str-in-len2.ensures.value) (two_words c.args.words.now c.name-item.result c.sessions-item.result (omega (arith, c.in-len2.len_at_least, c.in-len2.len_below)) c.name-item.is c.sessions-item.is)
