-- The forms of the records, of changes and events, of items and of a journal's entries: fields in their order, one behind the other.
use Rattle.std.specs.Prelude.{ℕ, ℤ, Bool, List, [], ◌∷◌, Option}
use Rattle.std.specs.Cmp.Lexicographic.{slice_cmp}
use Rattle.std.specs.Int.{w32, w64}
use Rattle.std.specs.Ordering.{nat_cmp}
use Rattle.cat_values.specs.declared.records.DbRec.{DbRec}
use Rattle.cat_values.specs.declared.records.PartRec.{PartRec}
use Rattle.cat_values.specs.declared.records.TableRec.{TableRec}
use Rattle.cat_values.specs.declared.statistics.StatRec.{StatRec}
use Rattle.cat_values.specs.declared.statistics.StatValue.{StatValue}
use Rattle.cat_values.specs.declared.statistics.StatValue.TheVariants as stat
use Rattle.cat_values.specs.declared.storage.Column.{Column}
use Rattle.cat_values.specs.declared.storage.Order.{Order}
use Rattle.cat_values.specs.declared.storage.Serde.{Serde}
use Rattle.cat_values.specs.declared.storage.Skew.{Skew}
use Rattle.cat_values.specs.declared.storage.Storage.{Storage}
use Rattle.cat_types.specs.declared.changes.Change.{Change}
use Rattle.cat_types.specs.declared.changes.Event.{Event}
use Rattle.cat_types.specs.declared.changes.EventKind.{EventKind}
use Rattle.cat_types.specs.declared.changes.EventKind.TheVariants as kind
use Rattle.cat_types.specs.declared.changes.Op.{Op}
use Rattle.cat_types.specs.declared.changes.Op.TheVariants as op
use Rattle.cat_types.specs.declared.items.Item.{Item}
use Rattle.cat_types.specs.declared.items.Item.TheVariants as item
use Rattle.cat_types.specs.declared.replicas.Marked.{Marked}
use Rattle.cat_types.specs.declared.replicas.Phase.{Phase}
use Rattle.cat_types.specs.declared.replicas.Phase.TheVariants as phase
use Rattle.cat_types.specs.declared.replicas.ReplicaRow.{ReplicaRow}
use Rattle.change_codec.specs.declared.entry.Entry.{Entry}
use Rattle.change_codec.specs.declared.entry.Entry.TheVariants as entry
use Rattle.change_codec.specs.declared.version.Version.{Version}
use Rattle.change_codec.specs.declared.version.Version.TheVariants.{One}
use Rattle.change_codec.specs.Tags as tag
use Rattle.change_codec.specs.Forms.{Form, Tags, alone, bytes_of, flag, four, list_of, made, made_read, map_of, number, optional, signed, tagged_read, text, three, ◌⊗◌}

-- the version that is written
abbrev pub newest : Version
newest = One

-- texts, and lists and maps of them; the keys of a map rise by their bytes, or by those of their texts
abbrev pub texts : Form (List (List ℕ))
texts = list_of text

abbrev pub params : Form (List (List ℕ × List ℕ))
params = map_of (slice_cmp nat_cmp) text text

abbrev pub places : Form (List (List (List ℕ) × List ℕ))
places = map_of (slice_cmp (slice_cmp nat_cmp)) texts text

abbrev pub column : Form Column
column = made (λ p. record { name = p.0; ty = p.1; comment = p.2 }) (λ c. (c.name, c.ty, c.comment)) (three text text (optional text))

abbrev pub order : Form Order
order = made (λ p. record { col = p.0; dir = p.1 }) (λ o. (o.col, o.dir)) (text ⊗ signed w32)

abbrev pub serde : Form Serde
serde = made (λ p. record { name = p.0; lib = p.1; params = p.2 }) (λ s. (s.name, s.lib, s.params)) (three (optional text) (optional text) params)

abbrev pub skew : Form Skew
skew = made (λ p. record { cols = p.0; values = p.1; places = p.2 }) (λ s. (s.cols, s.values, s.places)) (three texts (list_of texts) places)

-- cols, location, input, output; compressed, buckets, serde, bucket_cols; sort_cols, params, skew, sub_dirs
abbrev pub storage : Form Storage
storage = made
    (λ p. record {
      cols = p.0.0;
      location = p.0.1;
      input = p.0.2;
      output = p.0.3;
      compressed = p.1.0;
      buckets = p.1.1;
      serde = p.1.2;
      bucket_cols = p.1.3;
      sort_cols = p.2.0;
      params = p.2.1;
      skew = p.2.2;
      sub_dirs = p.2.3;
    })
    (λ s. ((s.cols, s.location, s.input, s.output), (s.compressed, s.buckets, s.serde, s.bucket_cols), (s.sort_cols, s.params, s.skew, s.sub_dirs)))
    (three (four (list_of column) (optional text) (optional text) (optional text)) (four flag (signed w32) (optional serde) texts) (four (list_of order) params (optional skew) (optional flag)))

abbrev pub db_rec : Version → Form DbRec
db_rec version = made (λ p. record { description = p.0; location = p.1; params = p.2; owner = p.3 }) (λ r. (r.description, r.location, r.params, r.owner)) (four (optional text) (optional text) params (optional text))

-- statistics: a tag, and the numbers
abbrev pub stat_flags : Form (ℤ × ℤ × ℤ)
stat_flags = three (signed w64) (signed w64) (signed w64)

abbrev pub stat_long : Form (Option ℤ × Option ℤ × ℤ × ℤ)
stat_long = four (optional (signed w64)) (optional (signed w64)) (signed w64) (signed w64)

abbrev pub stat_str : Form (ℤ × List ℕ × ℤ × ℤ)
stat_str = four (signed w64) (bytes_of 8) (signed w64) (signed w64)

abbrev pub stat_fits : StatValue → Type 0
stat_fits (stat.Flags trues falses nulls) = stat_flags.HasCode (trues, falses, nulls)
stat_fits (stat.Long low high nulls distinct) = stat_long.HasCode (low, high, nulls, distinct)
stat_fits (stat.Str longest average nulls distinct) = stat_str.HasCode (longest, average, nulls, distinct)

abbrev pub stat_code : StatValue → List ℕ
stat_code (stat.Flags trues falses nulls) = tag.flag_stats ∷ stat_flags.code (trues, falses, nulls)
stat_code (stat.Long low high nulls distinct) = tag.long_stats ∷ stat_long.code (low, high, nulls, distinct)
stat_code (stat.Str longest average nulls distinct) = tag.text_stats ∷ stat_str.code (longest, average, nulls, distinct)

abbrev pub stat_tags : Tags StatValue
stat_tags =
    (tag.flag_stats, made_read (λ p. stat.Flags p.0 p.1 p.2) stat_flags.read) ∷
    (tag.long_stats, made_read (λ p. stat.Long p.0 p.1 p.2 p.3) stat_long.read) ∷
    (tag.text_stats, made_read (λ p. stat.Str p.0 p.1 p.2 p.3) stat_str.read) ∷
    []

abbrev pub stat_value : Form StatValue
stat_value = record { HasCode = stat_fits; code = stat_code; read = tagged_read stat_tags }

abbrev pub stat_rec : Form StatRec
stat_rec = made (λ p. record { analyzed = p.0; value = p.1 }) (λ r. (r.analyzed, r.value)) (signed w64 ⊗ stat_value)

abbrev pub stats : Form (List (List ℕ × StatRec))
stats = map_of (slice_cmp nat_cmp) text stat_rec

-- owner, created, accessed, retention; sd, keys, params, view_original; view_expanded, kind, stats
abbrev pub table_rec : Version → Form TableRec
table_rec version = made
    (λ p. record {
      owner = p.0.0;
      created = p.0.1;
      accessed = p.0.2;
      retention = p.0.3;
      sd = p.1.0;
      keys = p.1.1;
      params = p.1.2;
      view_original = p.1.3;
      view_expanded = p.2.0;
      kind = p.2.1;
      stats = p.2.2;
    })
    (λ r. ((r.owner, r.created, r.accessed, r.retention), (r.sd, r.keys, r.params, r.view_original), (r.view_expanded, r.kind, r.stats)))
    (three (four (optional text) (signed w32) (signed w32) (signed w32)) (four storage (list_of column) params (optional text)) (three (optional text) (optional text) stats))

-- created, accessed; sd, params, stats
abbrev pub part_rec : Form PartRec
part_rec = made
    (λ p. record { created = p.0.0; accessed = p.0.1; sd = p.1.0; params = p.1.1; stats = p.1.2 })
    (λ r. ((r.created, r.accessed), (r.sd, r.params, r.stats)))
    ((signed w32 ⊗ signed w32) ⊗ three (optional storage) params stats)

-- operations: a tag, and the fields
abbrev pub put_table : Version → Form (List ℕ × ℕ × TableRec)
put_table version = three text (number w64) (table_rec version)

abbrev pub drop_table : Form (List ℕ × ℕ)
drop_table = text ⊗ number w64

abbrev pub move_table : Version → Form (List ℕ × ℕ × List ℕ × TableRec)
move_table version = four text (number w64) text (table_rec version)

abbrev pub put_part : Form (List ℕ × ℕ × List (List ℕ) × PartRec)
put_part = four text (number w64) texts part_rec

abbrev pub drop_part : Form (List ℕ × ℕ × List (List ℕ))
drop_part = three text (number w64) texts

-- table, born; values, to, rec
abbrev pub move_part : Form ((List ℕ × ℕ) × (List (List ℕ) × List (List ℕ) × PartRec))
move_part = (text ⊗ number w64) ⊗ three texts texts part_rec

abbrev pub op_fits : Version → Op → Type 0
op_fits version (op.PutDb rec) = (db_rec version).HasCode rec
op_fits version op.DropDb = Unit {0}
op_fits version (op.PutTable table born rec) = (put_table version).HasCode (table, born, rec)
op_fits version (op.DropTable table born) = drop_table.HasCode (table, born)
op_fits version (op.MoveTable table born to rec) = (move_table version).HasCode (table, born, to, rec)
op_fits version (op.PutPart table born values rec) = put_part.HasCode (table, born, values, rec)
op_fits version (op.DropPart table born values) = drop_part.HasCode (table, born, values)
op_fits version (op.MovePart table born values to rec) = move_part.HasCode ((table, born), (values, to, rec))

abbrev pub op_code : Version → Op → List ℕ
op_code version (op.PutDb rec) = tag.put_db_op ∷ (db_rec version).code rec
op_code version op.DropDb = tag.drop_db_op ∷ []
op_code version (op.PutTable table born rec) = tag.put_table_op ∷ (put_table version).code (table, born, rec)
op_code version (op.DropTable table born) = tag.drop_table_op ∷ drop_table.code (table, born)
op_code version (op.MoveTable table born to rec) = tag.move_table_op ∷ (move_table version).code (table, born, to, rec)
op_code version (op.PutPart table born values rec) = tag.put_part_op ∷ put_part.code (table, born, values, rec)
op_code version (op.DropPart table born values) = tag.drop_part_op ∷ drop_part.code (table, born, values)
op_code version (op.MovePart table born values to rec) = tag.move_part_op ∷ move_part.code ((table, born), (values, to, rec))

abbrev pub op_tags : Version → Tags Op
op_tags version =
    (tag.put_db_op, made_read (λ r. op.PutDb r) (db_rec version).read) ∷
    (tag.drop_db_op, alone op.DropDb) ∷
    (tag.put_table_op, made_read (λ p. op.PutTable p.0 p.1 p.2) (put_table version).read) ∷
    (tag.drop_table_op, made_read (λ p. op.DropTable p.0 p.1) drop_table.read) ∷
    (tag.move_table_op, made_read (λ p. op.MoveTable p.0 p.1 p.2 p.3) (move_table version).read) ∷
    (tag.put_part_op, made_read (λ p. op.PutPart p.0 p.1 p.2 p.3) put_part.read) ∷
    (tag.drop_part_op, made_read (λ p. op.DropPart p.0 p.1 p.2) drop_part.read) ∷
    (tag.move_part_op, made_read (λ p. op.MovePart p.0.0 p.0.1 p.1.0 p.1.1 p.1.2) move_part.read) ∷
    []

abbrev pub operation : Version → Form Op
operation version = record { HasCode = op_fits version; code = op_code version; read = tagged_read (op_tags version) }

-- the kinds of events, each a tag alone
abbrev pub kind_code : EventKind → List ℕ
kind_code kind.CreateDatabase = tag.create_database_kind ∷ []
kind_code kind.AlterDatabase = tag.alter_database_kind ∷ []
kind_code kind.DropDatabase = tag.drop_database_kind ∷ []
kind_code kind.CreateTable = tag.create_table_kind ∷ []
kind_code kind.AlterTable = tag.alter_table_kind ∷ []
kind_code kind.DropTable = tag.drop_table_kind ∷ []
kind_code kind.AddPartition = tag.add_partition_kind ∷ []
kind_code kind.AlterPartition = tag.alter_partition_kind ∷ []
kind_code kind.DropPartition = tag.drop_partition_kind ∷ []

abbrev pub kind_tags : Tags EventKind
kind_tags =
    (tag.create_database_kind, alone kind.CreateDatabase) ∷
    (tag.alter_database_kind, alone kind.AlterDatabase) ∷
    (tag.drop_database_kind, alone kind.DropDatabase) ∷
    (tag.create_table_kind, alone kind.CreateTable) ∷
    (tag.alter_table_kind, alone kind.AlterTable) ∷
    (tag.drop_table_kind, alone kind.DropTable) ∷
    (tag.add_partition_kind, alone kind.AddPartition) ∷
    (tag.alter_partition_kind, alone kind.AlterPartition) ∷
    (tag.drop_partition_kind, alone kind.DropPartition) ∷
    []

abbrev pub event_kind : Form EventKind
event_kind = record { HasCode = λ _. Unit {0}; code = kind_code; read = tagged_read kind_tags }

abbrev pub change : Version → Form Change
change version = made (λ p. record { kind = p.0; db = p.1; db_born = p.2; ops = p.3 }) (λ c. (c.kind, c.db, c.db_born, c.ops)) (four event_kind text (number w64) (list_of (operation version)))

abbrev pub event : Version → Form Event
event version = made (λ p. record { id = p.0; moment = p.1; change = p.2 }) (λ e. (e.id, e.moment, e.change)) (three (number w64) (number w64) (change version))

-- items: a tag, and the fields
abbrev pub db_item : Version → Form (ℕ × ℕ × DbRec)
db_item version = three (number w64) (number w64) (db_rec version)

abbrev pub table_item : Version → Form (ℕ × List ℕ × ℕ × TableRec)
table_item version = four (number w64) text (number w64) (table_rec version)

-- at, table; born, values, rec
abbrev pub part_item : Form ((ℕ × List ℕ) × (ℕ × List (List ℕ) × PartRec))
part_item = (number w64 ⊗ text) ⊗ three (number w64) texts part_rec

abbrev pub item_fits : Version → Item → Type 0
item_fits version (item.Db at born rec) = (db_item version).HasCode (at, born, rec)
item_fits version (item.Table at table born rec) = (table_item version).HasCode (at, table, born, rec)
item_fits version (item.Part at table born values rec) = part_item.HasCode ((at, table), (born, values, rec))

abbrev pub item_code : Version → Item → List ℕ
item_code version (item.Db at born rec) = tag.db_item ∷ (db_item version).code (at, born, rec)
item_code version (item.Table at table born rec) = tag.table_item ∷ (table_item version).code (at, table, born, rec)
item_code version (item.Part at table born values rec) = tag.part_item ∷ part_item.code ((at, table), (born, values, rec))

abbrev pub item_tags : Version → Tags Item
item_tags version =
    (tag.db_item, made_read (λ p. item.Db p.0 p.1 p.2) (db_item version).read) ∷
    (tag.table_item, made_read (λ p. item.Table p.0 p.1 p.2 p.3) (table_item version).read) ∷
    (tag.part_item, made_read (λ p. item.Part p.0.0 p.0.1 p.1.0 p.1.1 p.1.2) part_item.read) ∷
    []

abbrev pub an_item : Version → Form Item
an_item version = record { HasCode = item_fits version; code = item_code version; read = tagged_read (item_tags version) }

-- how far a replica came: a tag, and one number or two
abbrev pub two_numbers : Form (ℕ × ℕ)
two_numbers = number w64 ⊗ number w64

abbrev pub phase_fits : Phase → Type 0
phase_fits (phase.Items dump count) = two_numbers.HasCode (dump, count)
phase_fits (phase.Events dump at) = two_numbers.HasCode (dump, at)
phase_fits (phase.Live at) = (number w64).HasCode at

abbrev pub phase_code : Phase → List ℕ
phase_code (phase.Items dump count) = tag.items_phase ∷ two_numbers.code (dump, count)
phase_code (phase.Events dump at) = tag.events_phase ∷ two_numbers.code (dump, at)
phase_code (phase.Live at) = tag.live_phase ∷ (number w64).code at

abbrev pub phase_tags : Tags Phase
phase_tags =
    (tag.items_phase, made_read (λ p. phase.Items p.0 p.1) two_numbers.read) ∷
    (tag.events_phase, made_read (λ p. phase.Events p.0 p.1) two_numbers.read) ∷
    (tag.live_phase, made_read (λ n. phase.Live n) (number w64).read) ∷
    []

abbrev pub a_phase : Form Phase
a_phase = record { HasCode = phase_fits; code = phase_code; read = tagged_read phase_tags }

abbrev pub replica_row : Form ReplicaRow
replica_row = made (λ p. record { source = p.0; source_db = p.1; phase = p.2 }) (λ r. (r.source, r.source_db, r.phase)) (three (bytes_of 16) text a_phase)

abbrev pub marked : Version → Form Marked
marked version = made (λ p. record { mark = p.0; db_born = p.1; op = p.2 }) (λ m. (m.mark, m.db_born, m.op)) (three (number w64) (number w64) (operation version))

-- a journal's entries: a tag, and the fields
abbrev pub load_step : Version → Form (List ℕ × ReplicaRow × Bool × List Marked)
load_step version = four text replica_row flag (list_of (marked version))

abbrev pub entry_fits : Version → Entry → Type 0
entry_fits version (entry.Event kept) = (event version).HasCode kept
entry_fits version (entry.DumpBegun dump) = (number w64).HasCode dump
entry_fits version (entry.Trimmed first) = (number w64).HasCode first
entry_fits version (entry.LoadStep target row clear ops) = (load_step version).HasCode (target, row, clear, ops)

abbrev pub entry_code : Version → Entry → List ℕ
entry_code version (entry.Event kept) = tag.event_entry ∷ (event version).code kept
entry_code version (entry.DumpBegun dump) = tag.dump_entry ∷ (number w64).code dump
entry_code version (entry.Trimmed first) = tag.trim_entry ∷ (number w64).code first
entry_code version (entry.LoadStep target row clear ops) = tag.load_entry ∷ (load_step version).code (target, row, clear, ops)

abbrev pub entry_tags : Version → Tags Entry
entry_tags version =
    (tag.event_entry, made_read (λ e. entry.Event e) (event version).read) ∷
    (tag.dump_entry, made_read (λ n. entry.DumpBegun n) (number w64).read) ∷
    (tag.trim_entry, made_read (λ n. entry.Trimmed n) (number w64).read) ∷
    (tag.load_entry, made_read (λ p. entry.LoadStep p.0 p.1 p.2 p.3) (load_step version).read) ∷
    []

abbrev pub an_entry : Version → Form Entry
an_entry version = record { HasCode = entry_fits version; code = entry_code version; read = tagged_read (entry_tags version) }
