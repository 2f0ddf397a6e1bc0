-- What the rules come to over one file, and over all elements of a row of files.
use Rattle.std.specs.Prelude.{◌≡◌, ◌≤◌, ◌<◌, ℕ, true, List, [], ◌∷◌, length, Option, None, Some}
use Rattle.std.specs.Cmp.Lexicographic.{slice_cmp}
use Rattle.std.specs.List.{AllByRecursion, flat_map}
use Rattle.std.specs.Ordering.{nat_cmp}
use Rattle.cat_values.specs.declared.records.DbRec.{DbRec}
use Rattle.cat_values.specs.declared.records.TableRec.{TableRec}
use Rattle.cat_types.specs.declared.changes.Event.{Event}
use Rattle.cat_types.specs.declared.items.Item.{Item}
use Rattle.cat_types.specs.declared.items.Item.TheVariants.{Db, Part, Table}
use Rattle.change_codec.specs.Forms.{rises}
use Rattle.dump_files.specs.Items.{is_part, least_mark, mark_of}
use Rattle.dump_files.specs.Events.{number_before}
use Rattle.dump_files.specs.declared.bounds.Bounds.{Bounds}

-- all elements of a row of files, in order
abbrev pub all_of : {T : Type 0} → List (List T) → List T
all_of files = flat_map (λ file. file) files

-- each element stands so behind the one before it
abbrev pub AllFollow : {T : Type 0} → (Option T → T → Type 0) → Option T → List T → Type 0
AllFollow Follows last [] = Unit {0}
AllFollow Follows last (element ∷ elements) = Follows last element × AllFollow Follows (Some element) elements

-- the database's item alone, of the manifest's born
abbrev pub IsDatabaseFile : Bounds → List Item → Type 0
IsDatabaseFile bounds file = (at : ℕ) × (rec : DbRec) × (file ≡ Db at bounds.born rec ∷ [])

-- a table's item alone
abbrev pub IsTableFile : List Item → Type 0
IsTableFile file = (at : ℕ) × (table : List ℕ) × (born : ℕ) × (rec : TableRec) × (file ≡ Table at table born rec ∷ [])

-- one to 64 items of partitions
pub record IsPartFile (file : List Item) : Type 0 where
  pub some : 0 < length file
  pub few : length file ≤ 64
  pub parts : AllByRecursion (λ item. is_part item ≡ true) file

-- one to 256 events
abbrev pub IsEventCount : List Event → Type 0
IsEventCount file = (0 < length file) × (length file ≤ 256)

-- no mark is below the one before it or begin, or above end
abbrev pub IsMarked : Bounds → Option Item → Item → Type 0
IsMarked bounds last item = (least_mark bounds last ≤ mark_of item) × (mark_of item ≤ bounds.end)

-- each number is above the one before it and begin, and none is above end
abbrev pub IsNumbered : Bounds → Option Event → Event → Type 0
IsNumbered bounds last event = (number_before bounds last < event.id) × (event.id ≤ bounds.end)

-- the names of the tables, in order
abbrev pub table_names : List Item → List (List ℕ)
table_names [] = []
table_names (Db at born rec ∷ items) = table_names items
table_names (Table at table born rec ∷ items) = table ∷ table_names items
table_names (Part at table born values rec ∷ items) = table_names items

-- each name is above the one before it, by bytes
abbrev pub NamesRise : Option (List ℕ) → List (List ℕ) → Type 0
NamesRise last names = AllFollow (λ before name. rises (slice_cmp nat_cmp) before name ≡ true) last names

-- a table by name and born, and the values of its partition that came last
abbrev pub Walked : Type 0
Walked = (List ℕ × ℕ) × Option (List (List ℕ))

-- each partition is of the table last before it, and its values are above those of that table's partition before it
abbrev pub PartsStand : Option Walked → List Item → Type 0
PartsStand table [] = Unit {0}
PartsStand table (Db at born rec ∷ items) = PartsStand None items
PartsStand table (Table at name born rec ∷ items) = PartsStand (Some ((name, born), None)) items
PartsStand table (Part at name born values rec ∷ items) =
    (before : Option (List (List ℕ))) × (table ≡ Some ((name, born), before)) × (rises (slice_cmp (slice_cmp nat_cmp)) before values ≡ true) × PartsStand (Some ((name, born), Some values)) items
