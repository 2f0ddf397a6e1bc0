use Rattle.std.proofs.Common.{◌≡◌, ◌++◌}
use Rattle.std.specs.Prelude.{string_bytes}
use Rattle.std.specs.Str.Iter.{chars_rest}
use Rattle.part_names.specs.Making.{escaped}
use Rattle.part_names.proofs.escapes.push_escaped.Given as goal

abbrev pub invariant-loop-character : goal.invariant-loop-character
invariant-loop-character l = string_bytes l.name ++ escaped (chars_rest l.character-iterator) ≡ string_bytes l.fn.name ++ escaped l.value
