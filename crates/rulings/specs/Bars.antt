-- What bars a change: replicas, and dumps and loads that are open.
use Rattle.std.specs.Prelude.{ℕ, Bool, List, [], ◌∷◌, Option, None, Some, is_some, if◌then◌else◌}
use Rattle.std.specs.List.{list_any}
use Rattle.std.specs.Str.{bytes_eq}
use Rattle.rulings.specs.declared.bars.Bars.{Bars}
use Rattle.rulings.specs.declared.bars.ReplicaAt.{ReplicaAt}

-- whether a database is a replica, and its position where it is live
abbrev pub position : List ReplicaAt → List ℕ → Option (Option ℕ)
position [] name = None
position (replica ∷ replicas) name = if bytes_eq replica.db name then Some replica.at else position replicas name

abbrev pub is_replica : Bars → List ℕ → Bool
is_replica bars name = is_some (position bars.replicas name)

-- a load of the database is open
abbrev pub is_loading : Bars → List ℕ → Bool
is_loading bars name = list_any (bytes_eq name) bars.loading

-- a bootstrap dump of the database is open
abbrev pub is_dumping : Bars → List ℕ → Bool
is_dumping bars name = list_any (bytes_eq name) bars.dumping
