-- A history, a half-loaded replica of its database, and a live one: what the laws ask for can be met.
use Rattle.std.specs.Prelude.{ℕ, zero, suc, pos, false, [], ◌∷◌, codes, filter, None}
use Rattle.cat_objects.specs.Catalogue.{Catalogue, empty_record, new_catalogue}
use Rattle.cat_objects.specs.Changes.{done}
use Rattle.cat_types.specs.declared.changes.Change.{Change}
use Rattle.cat_types.specs.declared.changes.Event.{Event}
use Rattle.cat_types.specs.declared.changes.EventKind.TheVariants as kind
use Rattle.cat_types.specs.declared.changes.Op.TheVariants.{MoveTable, PutDb, PutPart, PutTable}
use Rattle.cat_values.specs.declared.records.PartRec.{PartRec}
use Rattle.cat_values.specs.declared.records.TableRec.{TableRec}
use Rattle.cat_values.specs.declared.storage.Column.{Column}
use Rattle.cat_values.specs.declared.storage.Storage.{Storage}
use Rattle.replicas.specs.Catalogues.{IsInOrder}
use Rattle.replicas.specs.Histories.{AreChanges, source_of}
use Rattle.replicas.specs.Life.{AreNumbered, HasDb, is_above, is_of, ops_of}
use Rattle.replicas.specs.Objects.{Name, Values}
use Rattle.replicas.specs.Source.{NoMoves}
use Rattle.replicas.specs.Stands.{StandsEvents, StandsLive}
use Rattle.replicas.specs.Stores.{RedoesEvents, Store, replica_of}

-- the name of the database
abbrev pub the_db : Name
the_db = codes "d"

-- of the table
abbrev pub the_table : Name
the_table = codes "t"

-- and of the table after it was renamed
abbrev pub other_table : Name
other_table = codes "u"

-- the values of its one partition
abbrev pub the_values : Values
the_values = codes "1" ∷ []

-- a storage without anything in it
abbrev pub no_storage : Storage
no_storage = record { cols = []; location = None; input = None; output = None; compressed = false; buckets = pos 0; serde = None; bucket_cols = []; sort_cols = []; params = []; skew = None; sub_dirs = None }

-- the table's one key
abbrev pub the_key : Column
the_key = record { name = codes "k"; ty = codes "string"; comment = None }

-- a table with one key, made at this moment
abbrev pub made_at : ℕ → TableRec
made_at moment = record { owner = None; created = pos moment; accessed = pos 0; retention = pos 0; sd = no_storage; keys = the_key ∷ []; params = []; view_original = None; view_expanded = None; kind = None; stats = [] }

-- and its record
abbrev pub the_part : PartRec
the_part = record { created = pos 0; accessed = pos 0; sd = None; params = []; stats = [] }

-- a database is made, a table in it, a partition under that; the table is altered, and renamed
abbrev pub the_changes : ℕ → Change
the_changes zero = record { kind = kind.AlterDatabase; db = the_db; db_born = 1; ops = [] }
the_changes (suc zero) = record { kind = kind.CreateDatabase; db = the_db; db_born = 1; ops = PutDb empty_record ∷ [] }
the_changes (suc (suc zero)) = record { kind = kind.CreateTable; db = the_db; db_born = 1; ops = PutTable the_table 2 (made_at 0) ∷ [] }
the_changes (suc (suc (suc zero))) = record { kind = kind.AddPartition; db = the_db; db_born = 1; ops = PutPart the_table 2 the_values the_part ∷ [] }
the_changes (suc (suc (suc (suc zero)))) = record { kind = kind.AlterTable; db = the_db; db_born = 1; ops = PutTable the_table 2 (made_at 1) ∷ [] }
the_changes (suc (suc (suc (suc (suc k))))) = record { kind = kind.AlterTable; db = the_db; db_born = 1; ops = MoveTable the_table 2 other_table (made_at 2) ∷ [] }

-- the catalogues that they make of a new store's
abbrev pub the_cats : ℕ → Catalogue
the_cats zero = new_catalogue
the_cats (suc k) = done (the_changes (suc k)) (the_cats k)

-- the event with a number
abbrev pub event_of : ℕ → Event
event_of n = record { id = n; moment = 0; change = the_changes n }

-- a dump from event 2 to event 4 read the database and the table behind event 2, and the partition behind event 4
abbrev pub the_items : Store
the_items = record { catalogue = the_cats 3; marks = record { db = 2; tab = λ n. 2; par = λ n w. 4 } }

-- the changes are a history
abbrev pub ExampleIsHistory : Type 0
ExampleIsHistory = AreChanges the_cats the_changes 0 5

-- of the dump all is known that a load asks for, and the items stand for its begin
pub record ExampleIsDumped : Type 0 where
  pub begun : HasDb 1 (source_of the_db the_cats 2)
  pub ended : HasDb 1 (source_of the_db the_cats 4)
  pub still : NoMoves (ops_of the_db 1 the_changes) 2 4
  pub numbered : AreNumbered the_changes 2 4 (event_of 3 ∷ event_of 4 ∷ [])
  pub order : IsInOrder the_items.catalogue
  pub stands : StandsEvents (source_of the_db the_cats) 2 2 4 (replica_of the_db the_items)

-- its events, replayed on the items, make a live replica, and the renaming after it leads that on
pub record ExampleGoesLive : Type 0 where
  pub store : Store
  pub replays : RedoesEvents the_db 1 (filter (is_above 2) (filter (is_of the_db 1) (event_of 3 ∷ event_of 4 ∷ []))) the_items store
  pub live : StandsLive (source_of the_db the_cats) 4 (replica_of the_db store)
  pub next : Store
  pub goes_on : RedoesEvents the_db 1 (filter (is_above 4) (filter (is_of the_db 1) (event_of 5 ∷ []))) store next
  pub stays_live : StandsLive (source_of the_db the_cats) 5 (replica_of the_db next)
