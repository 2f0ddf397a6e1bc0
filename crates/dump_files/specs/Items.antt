-- Which items may stand in the item files of a bootstrap dump.
use Rattle.std.specs.Prelude.{◌==◌, ◌&&◌, ℕ, zero, suc, nat_le, nat_lt, Bool, true, false, List, Option, None, Some}
use Rattle.std.specs.Cmp.Lexicographic.{slice_cmp}
use Rattle.std.specs.Ordering.{is_lt, nat_cmp}
use Rattle.std.specs.Str.{bytes_eq}
use Rattle.cat_types.specs.declared.items.Item.{Item}
use Rattle.cat_types.specs.declared.items.Item.TheVariants.{Db, Part, Table}
use Rattle.change_codec.specs.Forms.{Form}
use Rattle.change_codec.specs.Records.{an_item, newest}
use Rattle.dump_files.specs.Files.{Rule, file_of}
use Rattle.dump_files.specs.declared.bounds.Bounds.{Bounds}

-- the event number at which an item's object stood so
abbrev pub mark_of : Item → ℕ
mark_of (Db at born rec) = at
mark_of (Table at table born rec) = at
mark_of (Part at table born values rec) = at

-- the least mark that may stand: that of the last item, at first begin
abbrev pub least_mark : Bounds → Option Item → ℕ
least_mark bounds None = bounds.begin
least_mark bounds (Some last) = mark_of last

-- marks never fall, from begin on, and are at most end
abbrev pub is_marked : Bounds → Option Item → Item → Bool
is_marked bounds last item = nat_le (least_mark bounds last) (mark_of item) && nat_le (mark_of item) bounds.end

-- a name of a table is above that of the table last before it, by bytes
abbrev pub rises_above : Item → List ℕ → Bool
rises_above (Db at born rec) name = true
rises_above (Table at table born rec) name = is_lt (slice_cmp nat_cmp table name)
rises_above (Part at table born values rec) name = is_lt (slice_cmp nat_cmp table name)

-- a partition is of the table last before it, by name and born, and its values are above those of the table's partition before it
abbrev pub goes_on : Item → List ℕ → ℕ → List (List ℕ) → Bool
goes_on (Db at born rec) name of values = false
goes_on (Table at table born rec) name of values = bytes_eq table name && born == of
goes_on (Part at table born last rec) name of values = (bytes_eq table name && born == of) && is_lt (slice_cmp (slice_cmp nat_cmp) last values)

-- a dump begins with its database, of the manifest's born; tables and their partitions follow
abbrev pub follows : Bounds → Option Item → Item → Bool
follows bounds None (Db at born rec) = born == bounds.born
follows bounds None (Table at table born rec) = false
follows bounds None (Part at table born values rec) = false
follows bounds (Some last) (Db at born rec) = false
follows bounds (Some last) (Table at table born rec) = rises_above last table
follows bounds (Some last) (Part at table born values rec) = goes_on last table born values

-- whether an item is a partition's
abbrev pub is_part : Item → Bool
is_part (Db at born rec) = false
is_part (Table at table born rec) = false
is_part (Part at table born values rec) = true

-- in one file only partitions stand behind one another, and 64 at most
abbrev pub may_share : Option Item → ℕ → Item → Bool
may_share last zero item = true
may_share None (suc before) item = false
may_share (Some last) (suc before) item = (is_part last && is_part item) && nat_lt (suc before) 64

-- which item may stand behind the last one and at a place in its file
unfoldable pub item_stands : Bounds → Rule Item
item_stands bounds last place item = (follows bounds last item && may_share last place item) && is_marked bounds last item

-- an item file behind the last item of the files before it
abbrev pub item_file : Bounds → Option Item → Form (List Item)
item_file bounds = file_of (item_stands bounds) (an_item newest)
