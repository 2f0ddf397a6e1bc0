-- The rules of calls on databases, what they change, and what they result in.
use Rattle.std.specs.Prelude.{ℕ, nat_lt, nat_le, Bool, not, ◌&&◌, List, [], ◌∷◌, length, Option, None, Some, codes, decimal, filter}
use Rattle.std.specs.BTreeMap.{insert_entry}
use Rattle.std.specs.Cmp.Lexicographic.{slice_cmp}
use Rattle.std.specs.Map.{remove_entry}
use Rattle.std.specs.Ordering.{nat_cmp}
use Rattle.std.specs.Str.{bytes_eq}
use Rattle.cat_objects.specs.Catalogue.{Catalogue, database, has_database, is_name, tables_of}
use Rattle.cat_objects.specs.declared.held.HeldDb.{HeldDb}
use Rattle.cat_rules.specs.Patterns.{does_match}
use Rattle.cat_types.specs.declared.arguments.DbArg.{DbArg}
use Rattle.cat_types.specs.declared.changes.Change.{Change}
use Rattle.cat_types.specs.declared.changes.EventKind.TheVariants as kind
use Rattle.cat_types.specs.declared.changes.Op.TheVariants.{DropDb, PutDb}
use Rattle.cat_types.specs.declared.replies.Reply.TheVariants.{Db, Nothing}
use Rattle.cat_types.specs.declared.replies.Reply.{Reply}
use Rattle.cat_values.specs.Names.{lower}
use Rattle.cat_values.specs.declared.records.DbRec.{DbRec}
use Rattle.rulings.specs.Bars.{position, is_replica, is_loading}
use Rattle.rulings.specs.Changes.{born_of}
use Rattle.rulings.specs.Names.{is_named, kept_name, names_another}
use Rattle.rulings.specs.Rules.{Rule}
use Rattle.rulings.specs.declared.bars.Bars.{Bars}
use Rattle.rulings.specs.declared.bars.ReplicaAt.{ReplicaAt}
use Rattle.rulings.specs.declared.refusal.Refusal.TheVariants.{AlreadyExists, InvalidObject, InvalidOperation, InvalidRequest, IsReplica, NoSuchObject}

-- ---- records of databases

-- the parameter that shows a replica's position
abbrev pub position_key : List ℕ
position_key = codes "repl.last.id"

-- a record as it is kept: a replica's position is no parameter that a caller hands in
abbrev pub kept_record : DbRec → DbRec
kept_record rec = record { description = rec.description; location = rec.location; params = remove_entry (is_name position_key) rec.params; owner = rec.owner }

-- a record with this position, in decimal digits
abbrev pub placed_record : ℕ → DbRec → DbRec
placed_record at rec = record { description = rec.description; location = rec.location; params = insert_entry (slice_cmp nat_cmp) rec.params position_key (decimal at); owner = rec.owner }

-- a record as it is shown: as it is kept of a database that is no replica; of a live replica with its position; of another replica without one
abbrev pub shown_record : Option (Option ℕ) → DbRec → DbRec
shown_record None rec = rec
shown_record (Some None) rec = kept_record rec
shown_record (Some (Some at)) rec = placed_record at rec

-- ---- creating

-- a database that is created has a lawful name, which is free, and there are fewer than a million
abbrev pub create_database_rules : Catalogue → DbArg → List Rule
create_database_rules cat db =
    (not (is_named db.name), InvalidObject) ∷ (has_database cat (kept_name db.name), AlreadyExists) ∷ (nat_le 1000000 (length cat.databases), InvalidObject) ∷ []

-- the change that makes a database, as the event with this number
abbrev pub database_created : DbArg → ℕ → Change
database_created db next = record { kind = kind.CreateDatabase; db = kept_name db.name; db_born = next; ops = PutDb (kept_record db.rec) ∷ [] }

-- ---- reading

-- a database that is asked for is there
abbrev pub get_database_rules : Catalogue → List ℕ → List Rule
get_database_rules cat name = (not (has_database cat (lower name)), NoSuchObject) ∷ []

-- the database with this name, where there is one, as it is shown
abbrev pub shown_as : Option HeldDb → List ReplicaAt → List ℕ → Reply
shown_as None replicas name = Nothing
shown_as (Some held) replicas name = Db name (shown_record (position replicas name) held.rec)

-- the names that a pattern asks for, in their order
abbrev pub matching : List ℕ → List (List ℕ) → List (List ℕ)
matching pattern names = filter (does_match pattern) names

-- ---- dropping

-- whether a database has tables
abbrev pub has_tables : Option HeldDb → Bool
has_tables held = nat_lt 0 (length (tables_of held))

-- a database that is dropped is there, isn't `default`, no load of it is open, and it has no tables unless they go too
abbrev pub drop_database_rules : Catalogue → Bars → List ℕ → Bool → List Rule
drop_database_rules cat bars name cascade =
    (not (has_database cat name), NoSuchObject)
    ∷ (bytes_eq name (codes "default"), InvalidOperation)
    ∷ (is_loading bars name, InvalidOperation)
    ∷ (has_tables (database cat name) && not cascade, InvalidOperation)
    ∷ []

-- the change that drops a database
abbrev pub database_dropped : Catalogue → List ℕ → Change
database_dropped cat name = record { kind = kind.DropDatabase; db = name; db_born = born_of (database cat name); ops = DropDb ∷ [] }

-- ---- altering

-- a database that is altered is there and no replica, and the record names no other one
abbrev pub alter_database_rules : Catalogue → Bars → List ℕ → DbArg → List Rule
alter_database_rules cat bars name db =
    (not (has_database cat name), NoSuchObject) ∷ (is_replica bars name, IsReplica) ∷ (names_another db.name name, InvalidRequest) ∷ []

-- the change that gives a database another record
abbrev pub database_altered : Catalogue → List ℕ → DbArg → Change
database_altered cat name db = record { kind = kind.AlterDatabase; db = name; db_born = born_of (database cat name); ops = PutDb (kept_record db.rec) ∷ [] }
