-- What the calls that change tables or partitions share.
use Rattle.std.specs.Prelude.{ℕ, Bool, false, not, List, ◌∷◌, Option, None, Some, if◌then◌else◌}
use Rattle.cat_objects.specs.Catalogue.{Catalogue, database, has_database, has_table}
use Rattle.cat_objects.specs.Changes.{can_hold, has_operation}
use Rattle.cat_objects.specs.declared.held.HeldDb.{HeldDb}
use Rattle.cat_objects.specs.declared.held.HeldTable.{HeldTable}
use Rattle.cat_types.specs.declared.changes.Change.{Change}
use Rattle.cat_types.specs.declared.changes.EventKind.{EventKind}
use Rattle.cat_types.specs.declared.changes.Op.{Op}
use Rattle.rulings.specs.Bars.{is_replica}
use Rattle.rulings.specs.Rules.{Rule}
use Rattle.rulings.specs.declared.bars.Bars.{Bars}
use Rattle.rulings.specs.declared.refusal.Refusal.TheVariants.{IsReplica}
use Rattle.rulings.specs.declared.refusal.Refusal.{Refusal}

-- the born of a database that is there
abbrev pub born_of : Option HeldDb → ℕ
born_of None = 0
born_of (Some held) = held.born

-- the born of a table that is there
abbrev pub table_born : Option HeldTable → ℕ
table_born None = 0
table_born (Some held) = held.born

-- a table that is changed, or whose partitions are, stands in a database that is there and no replica, and is there; behind these come a call's other rules
abbrev pub in_table : Refusal → Catalogue → Bars → List ℕ → List ℕ → List Rule → List Rule
in_table absent cat bars db name others = (not (has_database cat db), absent) ∷ (is_replica bars db, IsReplica) ∷ (not (has_table cat db name), absent) ∷ others

-- a table can have a partition with these values
abbrev pub may_have : Option HeldTable → List (List ℕ) → Bool
may_have None values = false
may_have (Some held) values = can_hold held.born values (Some held)

-- the change of a database that is there by these operations
abbrev pub part_change : EventKind → Catalogue → List ℕ → List Op → Change
part_change kind cat db ops = record { kind = kind; db = db; db_born = born_of (database cat db); ops = ops }

-- a change, where it has an operation
abbrev pub if_any : Change → Option Change
if_any change = if has_operation change then Some change else None
