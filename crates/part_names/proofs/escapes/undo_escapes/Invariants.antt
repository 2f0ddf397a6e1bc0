use Rattle.std.proofs.Common.{◌≡◌, ◌++◌, length}
use Rattle.std.specs.Prelude.{string_bytes}
use Rattle.part_names.specs.Reading.{unescaped}
use Rattle.part_names.proofs.escapes.undo_escapes.Given as goal
use denote.Shadow.{shadow}
use denote.Text.{Utf8}

abbrev pub invariant-loop-before : goal.invariant-loop-before
invariant-loop-before l = record { utf8 : shadow (Utf8 l.rest); so_far : string_bytes l.plain ++ unescaped l.rest ≡ unescaped l.text }

abbrev pub decreases-loop-before : goal.decreases-loop-before
decreases-loop-before l = length l.rest
