-- Each record is read as it is written.
use Rattle.std.proofs.Common.{◌≡◌, ℕ, List, ◌++◌, Ok, refl}
use Rattle.std.specs.Cmp.Lexicographic.{slice_cmp, nat_list_cmp_total, lists_total}
use Rattle.std.specs.Int.{w32, w64}
use Rattle.std.specs.Ordering.{nat_cmp}
use Rattle.cat_values.specs.declared.statistics.StatValue.{StatValue}
use Rattle.cat_values.specs.declared.statistics.StatValue.TheVariants as stat
use Rattle.cat_types.specs.declared.changes.EventKind.{EventKind}
use Rattle.cat_types.specs.declared.changes.EventKind.TheVariants as kind
use Rattle.cat_types.specs.declared.changes.Op.{Op}
use Rattle.cat_types.specs.declared.changes.Op.TheVariants as op
use Rattle.cat_types.specs.declared.items.Item.{Item}
use Rattle.cat_types.specs.declared.items.Item.TheVariants as item
use Rattle.cat_types.specs.declared.replicas.Phase.{Phase}
use Rattle.cat_types.specs.declared.replicas.Phase.TheVariants as phase
use Rattle.change_codec.specs.declared.entry.Entry.{Entry}
use Rattle.change_codec.specs.declared.entry.Entry.TheVariants as entry
use Rattle.change_codec.specs.Forms.{flag, list_of, number, optional, signed, tagged_read, text}
use Rattle.change_codec.specs.declared.version.Version.{Version}
use Rattle.change_codec.specs.Records.{a_phase, an_entry, an_item, change, column, db_item, db_rec, drop_part, drop_table, entry_code, entry_fits, entry_tags, event, event_kind, item_code, item_fits, item_tags, kind_code, kind_tags, load_step, marked, move_part, move_table, op_code, op_fits, op_tags, operation, order, params, part_item, part_rec, phase_code, phase_fits, phase_tags, places, put_part, put_table, replica_row, serde, skew, stat_code, stat_fits, stat_flags, stat_long, stat_rec, stat_str, stat_tags, stat_value, stats, storage, table_item, table_rec, texts, two_numbers}
use Rattle.change_codec.proofs.Numbers.{IsLawful, bytes-lawful, flag-lawful, number-lawful, signed-lawful, text-lawful, wide32, wide64}
use Rattle.change_codec.proofs.Signs.{signs32, signs64}
use Rattle.change_codec.proofs.Composed.{four-lawful, list-lawful, made-lawful, made_again, map-lawful, optional-lawful, then-lawful, three-lawful}
use Rattle.change_codec.proofs.Tagged.{lone, tagged_spelled, variant}

u64-lawful : IsLawful (number w64)
u64-lawful = number-lawful w64 wide64

i32-lawful : IsLawful (signed w32)
i32-lawful = signed-lawful w32 wide32 signs32

i64-lawful : IsLawful (signed w64)
i64-lawful = signed-lawful w64 wide64 signs64

some_text : IsLawful (optional text)
some_text = optional-lawful text text-lawful

texts-lawful : IsLawful texts
texts-lawful = list-lawful text text-lawful

params-lawful : IsLawful params
params-lawful = map-lawful (slice_cmp nat_cmp) nat_list_cmp_total text text text-lawful text-lawful

places-lawful : IsLawful places
places-lawful = map-lawful (slice_cmp (slice_cmp nat_cmp)) (lists_total nat_list_cmp_total) texts text texts-lawful text-lawful

column-lawful : IsLawful column
column-lawful = made-lawful _ _ _ (three-lawful text text (optional text) text-lawful text-lawful some_text) (λ _. refl) (λ _. refl)

order-lawful : IsLawful order
order-lawful = made-lawful _ _ _ (then-lawful text (signed w32) text-lawful i32-lawful) (λ _. refl) (λ _. refl)

serde-lawful : IsLawful serde
serde-lawful = made-lawful _ _ _ (three-lawful (optional text) (optional text) params some_text some_text params-lawful) (λ _. refl) (λ _. refl)

skew-lawful : IsLawful skew
skew-lawful = made-lawful _ _ _ (three-lawful texts (list_of texts) places texts-lawful (list-lawful texts texts-lawful) places-lawful) (λ _. refl) (λ _. refl)

storage-lawful : IsLawful storage
storage-lawful = made-lawful _ _ _
    (three-lawful _ _ _
    (four-lawful _ _ _ _ (list-lawful column column-lawful) some_text some_text some_text)
    (four-lawful _ _ _ _ flag-lawful i32-lawful (optional-lawful serde serde-lawful) texts-lawful)
    (four-lawful _ _ _ _ (list-lawful order order-lawful) params-lawful (optional-lawful skew skew-lawful) (optional-lawful flag flag-lawful)))
    (λ _. refl) (λ _. refl)

db_rec-lawful : (version : Version) → IsLawful (db_rec version)
db_rec-lawful version = made-lawful _ _ _ (four-lawful _ _ _ _ some_text some_text params-lawful some_text) (λ _. refl) (λ _. refl)

stat_flags-lawful : IsLawful stat_flags
stat_flags-lawful = three-lawful _ _ _ i64-lawful i64-lawful i64-lawful

stat_long-lawful : IsLawful stat_long
stat_long-lawful = four-lawful _ _ _ _ (optional-lawful _ i64-lawful) (optional-lawful _ i64-lawful) i64-lawful i64-lawful

stat_str-lawful : IsLawful stat_str
stat_str-lawful = four-lawful _ _ _ _ i64-lawful (bytes-lawful 8) i64-lawful i64-lawful

stat_again : (v : StatValue) (rest : List ℕ) → stat_fits v → tagged_read stat_tags (stat_code v ++ rest) ≡ Ok (v, rest)
unfolding tagged_read
stat_again (stat.Flags trues falses nulls) rest f = made_again _ stat_flags stat_flags-lawful (trues, falses, nulls) rest f
stat_again (stat.Long low high nulls distinct) rest f = made_again _ stat_long stat_long-lawful (low, high, nulls, distinct) rest f
stat_again (stat.Str longest average nulls distinct) rest f = made_again _ stat_str stat_str-lawful (longest, average, nulls, distinct) rest f

stat_value-lawful : IsLawful stat_value
stat_value-lawful = record {
  again = stat_again;
  spelled = tagged_spelled stat_fits stat_code stat_tags (
    variant stat_fits stat_code 1 _ stat_flags stat_flags-lawful (λ _. refl) (λ _ f. f),
    (
      variant stat_fits stat_code 2 _ stat_long stat_long-lawful (λ _. refl) (λ _ f. f),
      (variant stat_fits stat_code 3 _ stat_str stat_str-lawful (λ _. refl) (λ _ f. f), tt),
    ),
  );
}

stat_rec-lawful : IsLawful stat_rec
stat_rec-lawful = made-lawful _ _ _ (then-lawful (signed w64) stat_value i64-lawful stat_value-lawful) (λ _. refl) (λ _. refl)

stats-lawful : IsLawful stats
stats-lawful = map-lawful (slice_cmp nat_cmp) nat_list_cmp_total text stat_rec text-lawful stat_rec-lawful

table_rec-lawful : (version : Version) → IsLawful (table_rec version)
table_rec-lawful version = made-lawful _ _ _
    (three-lawful _ _ _
    (four-lawful _ _ _ _ some_text i32-lawful i32-lawful i32-lawful)
    (four-lawful _ _ _ _ storage-lawful (list-lawful column column-lawful) params-lawful some_text)
    (three-lawful _ _ _ some_text some_text stats-lawful))
    (λ _. refl) (λ _. refl)

part_rec-lawful : IsLawful part_rec
part_rec-lawful = made-lawful _ _ _
    (then-lawful _ _ (then-lawful _ _ i32-lawful i32-lawful) (three-lawful _ _ _ (optional-lawful storage storage-lawful) params-lawful stats-lawful))
    (λ _. refl) (λ _. refl)

put_table-lawful : (version : Version) → IsLawful (put_table version)
put_table-lawful version = three-lawful _ _ _ text-lawful u64-lawful (table_rec-lawful version)

drop_table-lawful : IsLawful drop_table
drop_table-lawful = then-lawful _ _ text-lawful u64-lawful

move_table-lawful : (version : Version) → IsLawful (move_table version)
move_table-lawful version = four-lawful _ _ _ _ text-lawful u64-lawful text-lawful (table_rec-lawful version)

put_part-lawful : IsLawful put_part
put_part-lawful = four-lawful _ _ _ _ text-lawful u64-lawful texts-lawful part_rec-lawful

drop_part-lawful : IsLawful drop_part
drop_part-lawful = three-lawful _ _ _ text-lawful u64-lawful texts-lawful

move_part-lawful : IsLawful move_part
move_part-lawful = then-lawful _ _ (then-lawful _ _ text-lawful u64-lawful) (three-lawful _ _ _ texts-lawful texts-lawful part_rec-lawful)

op_again : (version : Version) (v : Op) (rest : List ℕ) → op_fits version v → tagged_read (op_tags version) (op_code version v ++ rest) ≡ Ok (v, rest)
unfolding tagged_read
op_again version (op.PutDb rec) rest f = made_again _ (db_rec version) (db_rec-lawful version) rec rest f
op_again version op.DropDb rest f = refl
op_again version (op.PutTable table born rec) rest f = made_again _ (put_table version) (put_table-lawful version) (table, born, rec) rest f
op_again version (op.DropTable table born) rest f = made_again _ drop_table drop_table-lawful (table, born) rest f
op_again version (op.MoveTable table born to rec) rest f = made_again _ (move_table version) (move_table-lawful version) (table, born, to, rec) rest f
op_again version (op.PutPart table born values rec) rest f = made_again _ put_part put_part-lawful (table, born, values, rec) rest f
op_again version (op.DropPart table born values) rest f = made_again _ drop_part drop_part-lawful (table, born, values) rest f
op_again version (op.MovePart table born values to rec) rest f = made_again _ move_part move_part-lawful ((table, born), (values, to, rec)) rest f

pub operation-lawful : (version : Version) → IsLawful (operation version)
operation-lawful version = record {
  again = op_again version;
  spelled = tagged_spelled (op_fits version) (op_code version) (op_tags version) (
    variant (op_fits version) (op_code version) 1 _ (db_rec version) (db_rec-lawful version) (λ _. refl) (λ _ f. f),
    (
      lone (op_fits version) (op_code version) 2 op.DropDb refl tt,
      (
        variant (op_fits version) (op_code version) 3 _ (put_table version) (put_table-lawful version) (λ _. refl) (λ _ f. f),
        (
          variant (op_fits version) (op_code version) 4 _ drop_table drop_table-lawful (λ _. refl) (λ _ f. f),
          (
            variant (op_fits version) (op_code version) 5 _ (move_table version) (move_table-lawful version) (λ _. refl) (λ _ f. f),
            (
              variant (op_fits version) (op_code version) 6 _ put_part put_part-lawful (λ _. refl) (λ _ f. f),
              (
                variant (op_fits version) (op_code version) 7 _ drop_part drop_part-lawful (λ _. refl) (λ _ f. f),
                (variant (op_fits version) (op_code version) 8 _ move_part move_part-lawful (λ _. refl) (λ _ f. f), tt),
              ),
            ),
          ),
        ),
      ),
    ),
  );
}

kind_again : (v : EventKind) (rest : List ℕ) → tagged_read kind_tags (kind_code v ++ rest) ≡ Ok (v, rest)
unfolding tagged_read
kind_again kind.CreateDatabase rest = refl
kind_again kind.AlterDatabase rest = refl
kind_again kind.DropDatabase rest = refl
kind_again kind.CreateTable rest = refl
kind_again kind.AlterTable rest = refl
kind_again kind.DropTable rest = refl
kind_again kind.AddPartition rest = refl
kind_again kind.AlterPartition rest = refl
kind_again kind.DropPartition rest = refl

event_kind-lawful : IsLawful event_kind
event_kind-lawful = record {
  again = λ v rest f. kind_again v rest;
  spelled = tagged_spelled (λ _. Unit {0}) kind_code kind_tags (
    lone (λ _. Unit {0}) kind_code 1 kind.CreateDatabase refl tt,
    (
      lone (λ _. Unit {0}) kind_code 2 kind.AlterDatabase refl tt,
      (
        lone (λ _. Unit {0}) kind_code 3 kind.DropDatabase refl tt,
        (
          lone (λ _. Unit {0}) kind_code 4 kind.CreateTable refl tt,
          (
            lone (λ _. Unit {0}) kind_code 5 kind.AlterTable refl tt,
            (
              lone (λ _. Unit {0}) kind_code 6 kind.DropTable refl tt,
              (
                lone (λ _. Unit {0}) kind_code 7 kind.AddPartition refl tt,
                (
                  lone (λ _. Unit {0}) kind_code 8 kind.AlterPartition refl tt,
                  (lone (λ _. Unit {0}) kind_code 9 kind.DropPartition refl tt, tt),
                ),
              ),
            ),
          ),
        ),
      ),
    ),
  );
}

change-lawful : (version : Version) → IsLawful (change version)
change-lawful version = made-lawful _ _ _ (four-lawful _ _ _ _ event_kind-lawful text-lawful u64-lawful (list-lawful (operation version) (operation-lawful version))) (λ _. refl) (λ _. refl)

pub event-lawful : (version : Version) → IsLawful (event version)
event-lawful version = made-lawful _ _ _ (three-lawful _ _ _ u64-lawful u64-lawful (change-lawful version)) (λ _. refl) (λ _. refl)

pub events-lawful : (version : Version) → IsLawful (list_of (event version))
events-lawful version = list-lawful (event version) (event-lawful version)

db_item-lawful : (version : Version) → IsLawful (db_item version)
db_item-lawful version = three-lawful _ _ _ u64-lawful u64-lawful (db_rec-lawful version)

table_item-lawful : (version : Version) → IsLawful (table_item version)
table_item-lawful version = four-lawful _ _ _ _ u64-lawful text-lawful u64-lawful (table_rec-lawful version)

part_item-lawful : IsLawful part_item
part_item-lawful = then-lawful _ _ (then-lawful _ _ u64-lawful text-lawful) (three-lawful _ _ _ u64-lawful texts-lawful part_rec-lawful)

item_again : (version : Version) (v : Item) (rest : List ℕ) → item_fits version v → tagged_read (item_tags version) (item_code version v ++ rest) ≡ Ok (v, rest)
unfolding tagged_read
item_again version (item.Db at born rec) rest f = made_again _ (db_item version) (db_item-lawful version) (at, born, rec) rest f
item_again version (item.Table at table born rec) rest f = made_again _ (table_item version) (table_item-lawful version) (at, table, born, rec) rest f
item_again version (item.Part at table born values rec) rest f = made_again _ part_item part_item-lawful ((at, table), (born, values, rec)) rest f

pub item-lawful : (version : Version) → IsLawful (an_item version)
item-lawful version = record {
  again = item_again version;
  spelled = tagged_spelled (item_fits version) (item_code version) (item_tags version) (
    variant (item_fits version) (item_code version) 1 _ (db_item version) (db_item-lawful version) (λ _. refl) (λ _ f. f),
    (
      variant (item_fits version) (item_code version) 2 _ (table_item version) (table_item-lawful version) (λ _. refl) (λ _ f. f),
      (variant (item_fits version) (item_code version) 3 _ part_item part_item-lawful (λ _. refl) (λ _ f. f), tt),
    ),
  );
}

pub items-lawful : (version : Version) → IsLawful (list_of (an_item version))
items-lawful version = list-lawful (an_item version) (item-lawful version)

two_numbers-lawful : IsLawful two_numbers
two_numbers-lawful = then-lawful _ _ u64-lawful u64-lawful

phase_again : (v : Phase) (rest : List ℕ) → phase_fits v → tagged_read phase_tags (phase_code v ++ rest) ≡ Ok (v, rest)
unfolding tagged_read
phase_again (phase.Items dump count) rest f = made_again _ two_numbers two_numbers-lawful (dump, count) rest f
phase_again (phase.Events dump at) rest f = made_again _ two_numbers two_numbers-lawful (dump, at) rest f
phase_again (phase.Live at) rest f = made_again _ (number w64) u64-lawful at rest f

phase-lawful : IsLawful a_phase
phase-lawful = record {
  again = phase_again;
  spelled = tagged_spelled phase_fits phase_code phase_tags (
    variant phase_fits phase_code 1 _ two_numbers two_numbers-lawful (λ _. refl) (λ _ f. f),
    (
      variant phase_fits phase_code 2 _ two_numbers two_numbers-lawful (λ _. refl) (λ _ f. f),
      (variant phase_fits phase_code 3 _ (number w64) u64-lawful (λ _. refl) (λ _ f. f), tt),
    ),
  );
}

replica_row-lawful : IsLawful replica_row
replica_row-lawful = made-lawful _ _ _ (three-lawful _ _ _ (bytes-lawful 16) text-lawful phase-lawful) (λ _. refl) (λ _. refl)

marked-lawful : (version : Version) → IsLawful (marked version)
marked-lawful version = made-lawful _ _ _ (three-lawful _ _ _ u64-lawful u64-lawful (operation-lawful version)) (λ _. refl) (λ _. refl)

load_step-lawful : (version : Version) → IsLawful (load_step version)
load_step-lawful version = four-lawful _ _ _ _ text-lawful replica_row-lawful flag-lawful (list-lawful (marked version) (marked-lawful version))

entry_again : (version : Version) (v : Entry) (rest : List ℕ) → entry_fits version v → tagged_read (entry_tags version) (entry_code version v ++ rest) ≡ Ok (v, rest)
unfolding tagged_read
entry_again version (entry.Event kept) rest f = made_again _ (event version) (event-lawful version) kept rest f
entry_again version (entry.DumpBegun dump) rest f = made_again _ (number w64) u64-lawful dump rest f
entry_again version (entry.Trimmed first) rest f = made_again _ (number w64) u64-lawful first rest f
entry_again version (entry.LoadStep target row clear ops) rest f = made_again _ (load_step version) (load_step-lawful version) (target, row, clear, ops) rest f

pub entry-lawful : (version : Version) → IsLawful (an_entry version)
entry-lawful version = record {
  again = entry_again version;
  spelled = tagged_spelled (entry_fits version) (entry_code version) (entry_tags version) (
    variant (entry_fits version) (entry_code version) 1 _ (event version) (event-lawful version) (λ _. refl) (λ _ f. f),
    (
      variant (entry_fits version) (entry_code version) 2 _ (number w64) u64-lawful (λ _. refl) (λ _ f. f),
      (
        variant (entry_fits version) (entry_code version) 3 _ (number w64) u64-lawful (λ _. refl) (λ _ f. f),
        (variant (entry_fits version) (entry_code version) 4 _ (load_step version) (load_step-lawful version) (λ _. refl) (λ _ f. f), tt),
      ),
    ),
  );
}
