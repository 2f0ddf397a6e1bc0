use Rattle.std.proofs.Common.{rules, ◌≡◌, ◌∷◌, map, string_bytes, drop}
use Rattle.ms_cli.proofs.Reading.{begins, first_word}
use Rattle.ms_cli.proofs.ranges.begins_with.Goals as goal

pub returns-in-len1-up : goal.returns-in-len1-up
returns-in-len1-up c = begins c.args.name.now _ c.as_str.result.now (map string_bytes (drop 1 c.args.words.now)) c.eq.result same (search rules)
  where
    same : map string_bytes c.args.words.now ≡ c.as_str.result.now ∷ map string_bytes (drop 1 c.args.words.now)
    same = rw c.as_str.ensures.value (first_word c.args.words.now c.word-item.result c.in-len1-up.len_at_least c.word-item.is)
