-- The tags that stand before the variants of an enum.
use Rattle.std.specs.Prelude.{ℕ}

-- operations
abbrev pub put_db_op : ℕ
put_db_op = 1

abbrev pub drop_db_op : ℕ
drop_db_op = 2

abbrev pub put_table_op : ℕ
put_table_op = 3

abbrev pub drop_table_op : ℕ
drop_table_op = 4

abbrev pub move_table_op : ℕ
move_table_op = 5

abbrev pub put_part_op : ℕ
put_part_op = 6

abbrev pub drop_part_op : ℕ
drop_part_op = 7

abbrev pub move_part_op : ℕ
move_part_op = 8

-- kinds of events
abbrev pub create_database_kind : ℕ
create_database_kind = 1

abbrev pub alter_database_kind : ℕ
alter_database_kind = 2

abbrev pub drop_database_kind : ℕ
drop_database_kind = 3

abbrev pub create_table_kind : ℕ
create_table_kind = 4

abbrev pub alter_table_kind : ℕ
alter_table_kind = 5

abbrev pub drop_table_kind : ℕ
drop_table_kind = 6

abbrev pub add_partition_kind : ℕ
add_partition_kind = 7

abbrev pub alter_partition_kind : ℕ
alter_partition_kind = 8

abbrev pub drop_partition_kind : ℕ
drop_partition_kind = 9

-- items of a dump
abbrev pub db_item : ℕ
db_item = 1

abbrev pub table_item : ℕ
table_item = 2

abbrev pub part_item : ℕ
part_item = 3

-- a replica's phases
abbrev pub items_phase : ℕ
items_phase = 1

abbrev pub events_phase : ℕ
events_phase = 2

abbrev pub live_phase : ℕ
live_phase = 3

-- statistics of flags, whole numbers and texts
abbrev pub flag_stats : ℕ
flag_stats = 1

abbrev pub long_stats : ℕ
long_stats = 2

abbrev pub text_stats : ℕ
text_stats = 3

-- entries of a journal
abbrev pub event_entry : ℕ
event_entry = 1

abbrev pub dump_entry : ℕ
dump_entry = 2

abbrev pub trim_entry : ℕ
trim_entry = 3

abbrev pub load_entry : ℕ
load_entry = 4
