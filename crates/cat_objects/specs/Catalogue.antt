-- What a catalogue holds.
use Rattle.std.specs.Prelude.{ℕ, Bool, List, [], ◌∷◌, None, Some, Option, is_some, codes, if◌then◌else◌}
use Rattle.std.specs.BTreeMap.{insert_entry, is_at}
use Rattle.std.specs.Cmp.Lexicographic.{slice_cmp}
use Rattle.std.specs.Map.{lookup, set_value}
use Rattle.std.specs.Ordering.{nat_cmp}
use Rattle.cat_values.specs.declared.records.DbRec.{DbRec}
use Rattle.cat_values.specs.declared.records.PartRec.{PartRec}
use Rattle.cat_values.specs.declared.records.TableRec.{TableRec}
use Rattle.cat_objects.specs.Parts.{PartList, at_values}
use Rattle.cat_objects.specs.declared.held.HeldDb.{HeldDb}
use Rattle.cat_objects.specs.declared.held.HeldTable.{HeldTable}

-- the databases by name, each with its born, the number of the event that made it, its record, and its tables by name, each with its born, its record, and its partitions by their values; names rise by their bytes, and lists of values by their texts
pub record Catalogue : Type 0 where
  pub databases : List (List ℕ × HeldDb)

-- a database's record without anything in it
abbrev pub empty_record : DbRec
empty_record = record { description = None; location = None; params = []; owner = None }

-- a database that no event made, with nothing in it
abbrev pub empty_database : HeldDb
empty_database = record { born = 0; rec = empty_record; tables = [] }

-- the catalogue of a new store: the database `default` alone
abbrev pub new_catalogue : Catalogue
new_catalogue = record { databases = (codes "default", empty_database) ∷ [] }

-- ---- maps by names

-- whether a text is this name
abbrev pub is_name : List ℕ → List ℕ → Bool
is_name name other = is_at (slice_cmp nat_cmp name) other

-- what stands at a name
abbrev pub at_name : {X : Type 0} → List ℕ → List (List ℕ × X) → Option X
at_name name entries = lookup (is_name name) entries

-- a value at a name: in the place of the one that is there, or else as an entry of its own, so that names still rise
abbrev pub put_at : {X : Type 0} → List ℕ → X → List (List ℕ × X) → List (List ℕ × X)
put_at name value entries = if is_some (at_name name entries) then set_value (is_name name) entries value else insert_entry (slice_cmp nat_cmp) entries name value

-- ---- look-ups

-- the database with this name
abbrev pub database : Catalogue → List ℕ → Option HeldDb
database cat name = at_name name cat.databases

abbrev pub has_database : Catalogue → List ℕ → Bool
has_database cat name = is_some (database cat name)

-- the tables of a database by their names, and none of one that isn't there
abbrev pub tables_of : Option HeldDb → List (List ℕ × HeldTable)
tables_of None = []
tables_of (Some held) = held.tables

-- the table with this name in the database with that one
abbrev pub table : Catalogue → List ℕ → List ℕ → Option HeldTable
table cat db name = at_name name (tables_of (database cat db))

abbrev pub has_table : Catalogue → List ℕ → List ℕ → Bool
has_table cat db name = is_some (table cat db name)

-- a database as it is shown: its name, its born and its record
abbrev pub shown_db : List ℕ × HeldDb → List ℕ × ℕ × DbRec
shown_db entry = (entry.0, entry.1.born, entry.1.rec)

-- a table as it is shown: its name, its born and its record
abbrev pub shown_table : List ℕ × HeldTable → List ℕ × ℕ × TableRec
shown_table entry = (entry.0, entry.1.born, entry.1.rec)

-- the partitions of a table, and none of one that isn't there
abbrev pub parts_of : Option HeldTable → PartList
parts_of None = []
parts_of (Some held) = held.parts

-- the partition with these values of the table with this name
abbrev pub part : Catalogue → List ℕ → List ℕ → List (List ℕ) → Option PartRec
part cat db name values = at_values values (parts_of (table cat db name))

abbrev pub has_part : Catalogue → List ℕ → List ℕ → List (List ℕ) → Bool
has_part cat db name values = is_some (part cat db name values)
