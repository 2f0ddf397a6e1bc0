use Rattle.std.proofs.Common.{drop, map, string_bytes}
use Rattle.ms_cli.specs.Words.{HasLong}
use Rattle.ms_cli.proofs.words.has_long.Given as goal

abbrev pub invariant-loop-word : goal.invariant-loop-word
invariant-loop-word l = (HasLong (map string_bytes (drop l.word-index l.words)) → HasLong (map string_bytes l.words)) × (HasLong (map string_bytes l.words) → HasLong (map string_bytes (drop l.word-index l.words)))
