use Rattle.std.proofs.Common.{◌≡◌, ◌+◌, ◌≤◌, length}
use Rattle.std.specs.List.{position_from}
use Rattle.std.specs.Option.{option_copied}
use Rattle.std.specs.Prelude.{IfSome, IsUtf8, fold}
use Rattle.cat_values.specs.declared.text.TheConstants.{TEXT_LIMIT}
use Rattle.part_names.specs.Reading.{components_left, first_unreadable, is_unreadable, spec, with_component}
use Rattle.part_names.proofs.Parts.{text_left}
use Rattle.part_names.proofs.reading.spec_of.Given as goal

abbrev pub invariant-loop-rest : goal.invariant-loop-rest
invariant-loop-rest l = record {
  utf8 : IfSome (option_copied l.rest) IsUtf8;
  short : IfSome (option_copied l.rest) (λ rest. l.number + length rest ≤ TEXT_LIMIT);
  pairs : spec l.name ≡ fold with_component l.pairs (components_left (option_copied l.rest));
  unreadable : first_unreadable l.name ≡ position_from is_unreadable l.number (components_left (option_copied l.rest));
}

abbrev pub decreases-loop-rest : goal.decreases-loop-rest
decreases-loop-rest l = text_left (option_copied l.rest)
