use Rattle.std.proofs.Common.{◌≡◌, ◌≤◌, ◌++◌, length, map}
use Rattle.std.specs.List.{position_from}
use Rattle.std.specs.Option.{option_copied}
use Rattle.std.specs.Prelude.{IfSome, IsUtf8}
use Rattle.cat_values.specs.declared.text.TheConstants.{TEXT_LIMIT}
use Rattle.part_names.specs.Reading.{components, components_left, first_unreadable, is_unreadable, part_of}
use Rattle.part_names.proofs.Parts.{text_left}
use Rattle.part_names.proofs.reading.parts_of.Given as goal

abbrev pub invariant-loop-rest : goal.invariant-loop-rest
invariant-loop-rest l = record {
  utf8 : IfSome (option_copied l.rest) IsUtf8;
  short : IfSome (option_copied l.rest) (λ rest. length rest ≤ TEXT_LIMIT);
  texts : map (part_of l.part) (components l.name) ≡ l.texts ++ map (part_of l.part) (components_left (option_copied l.rest));
  unreadable : first_unreadable l.name ≡ position_from is_unreadable (length l.texts) (components_left (option_copied l.rest));
}

abbrev pub decreases-loop-rest : goal.decreases-loop-rest
decreases-loop-rest l = text_left (option_copied l.rest)
