-- A message as JSON, for private clauses.
use Rattle.std.specs.Prelude.{ℕ, List, codes, length, map, take}
use Rattle.serde_json.specs.Data.{Data, array, member, no_members, number, object, string, unsigned}
use Rattle.serde_json.specs.View.{items_of}
use Rattle.cat_types.specs.declared.changes.Op.{Op}
use Rattle.cat_types.specs.declared.changes.Op.TheVariants.{PutDb, DropDb, PutTable, DropTable, MoveTable, PutPart, DropPart, MovePart}
use Rattle.cat_types.specs.declared.changes.Event.{Event}

abbrev pub texts_data : List (List ℕ) → Data
texts_data texts = array (items_of (map string texts))

abbrev pub alone : List ℕ → Data
alone op = object (member (codes "op") (string op) no_members)

abbrev pub of_table : List ℕ → List ℕ → Data
of_table op table = object (member (codes "op") (string op) (member (codes "table") (string table) no_members))

abbrev pub moved_table : List ℕ → List ℕ → Data
moved_table table to = object (member (codes "op") (string (codes "move_table")) (member (codes "table") (string table) (member (codes "to") (string to) no_members)))

abbrev pub of_part : List ℕ → List ℕ → List (List ℕ) → Data
of_part op table values = object (member (codes "op") (string op) (member (codes "table") (string table) (member (codes "values") (texts_data values) no_members)))

abbrev pub moved_part : List ℕ → List (List ℕ) → List (List ℕ) → Data
moved_part table values to = object (member (codes "op") (string (codes "move_part")) (member (codes "table") (string table) (member (codes "to") (texts_data to) (member (codes "values") (texts_data values) no_members))))

abbrev pub op_data : Op → Data
op_data (PutDb rec) = alone (codes "put_db")
op_data DropDb = alone (codes "drop_db")
op_data (PutTable table born rec) = of_table (codes "put_table") table
op_data (DropTable table born) = of_table (codes "drop_table") table
op_data (MoveTable table born to rec) = moved_table table to
op_data (PutPart table born values rec) = of_part (codes "put_part") table values
op_data (DropPart table born values) = of_part (codes "drop_part") table values
op_data (MovePart table born values to rec) = moved_part table values to

abbrev pub message_data : Event → Data
message_data event = object (member (codes "count") (number (unsigned (length event.change.ops))) (member (codes "db") (string event.change.db)
    (member (codes "ops") (array (items_of (map op_data (take 20 event.change.ops)))) no_members)))
