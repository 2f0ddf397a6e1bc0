-- A listing stops at its number.
use Rattle.std.proofs.Common.{◌≡◌, ℕ, ℤ, true, false, List, [], ◌∷◌, ◌++◌, length, filter, sym, ap, ◌∙◌}
use Rattle.cat_values.specs.declared.records.PartRec.{PartRec}
use Rattle.cat_objects.specs.Parts.{PartList}
use Rattle.cat_types.specs.declared.named.NamedPart.{NamedPart}
use Rattle.cat_values.specs.declared.storage.Column.{Column}
use Rattle.rulings.specs.Listed.{all_named, has_reached, named_part}
use Rattle.part_rules.specs.Partitions.{begin_with, own_names}
use Rattle.rulings.specs.Meant.{key_names}
use Rattle.part_names.specs.Making.{part_name}
use Rattle.rulings.proofs.Listing.{first_behind, told_one}

-- what is still wanted of those that begin so, where so many were told
abbrev pub listed_behind : ℕ → List (List ℕ) → ℤ → PartList → PartList
listed_behind count wanted max parts = first_behind count max (filter (λ p. begin_with wanted p.0) parts)

-- one more of those that are wanted is told, and one more name; `max'` is the number as the code has it
pub told_part : (db name : List ℕ) (wanted : List (List ℕ)) (max max' : ℤ) (told next whole : List NamedPart) (values : List (List ℕ)) (rec : PartRec) (left rest : PartList) → max' ≡ max → told ++ all_named db name (listed_behind (length told) wanted max' left) ≡ whole
    → left ≡ (values, rec) ∷ rest → has_reached max (length told) ≡ false → begin_with wanted values ≡ true → next ≡ told ++ named_part db name values rec ∷ [] → next ++ all_named db name (listed_behind (length next) wanted max' rest) ≡ whole
told_part db name wanted max max' told next whole values rec left rest same so_far front not_yet passes pushed =
    told_one (λ p. named_part db name p.0 p.1) (λ p. begin_with wanted p.0) max' told next whole (values, rec) rest
    (ap (λ ps. told ++ all_named db name (listed_behind (length told) wanted max' ps)) (sym front) ∙ so_far) (ap (λ (m : ℤ). has_reached m (length told)) same ∙ not_yet) passes pushed

pub told_name : (keys : List Column) (wanted : List (List ℕ)) (max max' : ℤ) (told next whole : List (List ℕ)) (values : List (List ℕ)) (rec : PartRec) (left rest : PartList) → max' ≡ max → told ++ own_names keys (listed_behind (length told) wanted max' left) ≡ whole
    → left ≡ (values, rec) ∷ rest → has_reached max (length told) ≡ false → begin_with wanted values ≡ true → next ≡ told ++ part_name (key_names keys) values ∷ [] → next ++ own_names keys (listed_behind (length next) wanted max' rest) ≡ whole
told_name keys wanted max max' told next whole values rec left rest same so_far front not_yet passes pushed =
    told_one (λ p. part_name (key_names keys) p.0) (λ p. begin_with wanted p.0) max' told next whole (values, rec) rest
    (ap (λ ps. told ++ own_names keys (listed_behind (length told) wanted max' ps)) (sym front) ∙ so_far) (ap (λ (m : ℤ). has_reached m (length told)) same ∙ not_yet) passes pushed
