-- Where each record stops to be read.
use Rattle.std.proofs.Common.{◌≡◌, ℕ, List, [], ◌++◌, length, Err, refl, sym, ap, ◌∙◌, append-nil, ◌≢◌, ◌∷◌, Ok, append_assoc}
use Rattle.std.specs.Cmp.Lexicographic.{slice_cmp}
use Rattle.std.specs.Int.{w32, w64}
use Rattle.std.specs.Ordering.{nat_cmp}
use Rattle.change_codec.specs.Forms.{Form, Reading, list_of, made_read, number, number_read, optional, tagged_read, text, three_read}
use Rattle.change_codec.specs.declared.version.Version.{Version}
use Rattle.change_codec.specs.Records.{a_phase, an_entry, an_item, change, column, db_item, db_rec, drop_part, drop_table, entry_tags, event, event_kind, item_tags, kind_tags, load_step, marked, move_part, move_table, op_tags, operation, order, params, part_item, part_rec, phase_tags, places, put_part, put_table, replica_row, serde, skew, stat_flags, stat_long, stat_rec, stat_str, stat_tags, stat_value, stats, storage, table_item, table_rec, texts, two_numbers}
use Rattle.change_codec.specs.Whole.{IsCutAtItsEnd, IsReadAgain, IsRefusedInPlace}
use Rattle.change_codec.proofs.Bind.{ok_is}
use Rattle.change_codec.proofs.Places.{IsSteady, Place, given-steady, never, front-steady, number-steady, signed-steady, text-steady, text_none, made-steady, then-steady, three-steady, four-steady, list-steady, list_none, map-steady, tagged-steady, flag-steady, option-steady}

abbrev Steady : {T : Type 0} → Form T → Type 0
Steady form = IsSteady form.read

u64-steady : Steady (number w64)
u64-steady = number-steady w64

some_text : Steady (optional text)
some_text = option-steady _ text-steady

texts-steady : Steady texts
texts-steady = list-steady _ text-steady

params-steady : Steady params
params-steady = map-steady (slice_cmp nat_cmp) _ _ text-steady text_none text-steady

places-steady : Steady places
places-steady = map-steady (slice_cmp (slice_cmp nat_cmp)) _ _ texts-steady (list_none text.read) text-steady

column-steady : Steady column
column-steady = made-steady _ _ (three-steady _ _ _ text-steady text-steady some_text)

order-steady : Steady order
order-steady = made-steady _ _ (then-steady _ _ text-steady (signed-steady w32))

serde-steady : Steady serde
serde-steady = made-steady _ _ (three-steady _ _ _ some_text some_text params-steady)

skew-steady : Steady skew
skew-steady = made-steady _ _ (three-steady _ _ _ texts-steady (list-steady _ texts-steady) places-steady)

storage-steady : Steady storage
storage-steady = made-steady _ _
    (three-steady _ _ _
    (four-steady _ _ _ _ (list-steady _ column-steady) some_text some_text some_text)
    (four-steady _ _ _ _ flag-steady (signed-steady w32) (option-steady _ serde-steady) texts-steady)
    (four-steady _ _ _ _ (list-steady _ order-steady) params-steady (option-steady _ skew-steady) (option-steady _ flag-steady)))

db_rec-steady : (version : Version) → Steady (db_rec version)
db_rec-steady version = made-steady _ _ (four-steady _ _ _ _ some_text some_text params-steady some_text)

stat_flags-steady : Steady stat_flags
stat_flags-steady = three-steady _ _ _ (signed-steady w64) (signed-steady w64) (signed-steady w64)

stat_long-steady : Steady stat_long
stat_long-steady = four-steady _ _ _ _ (option-steady _ (signed-steady w64)) (option-steady _ (signed-steady w64)) (signed-steady w64) (signed-steady w64)

stat_str-steady : Steady stat_str
stat_str-steady = four-steady _ _ _ _ (signed-steady w64) (front-steady 8) (signed-steady w64) (signed-steady w64)

stat_value-steady : Steady stat_value
stat_value-steady = tagged-steady stat_tags (made-steady _ _ stat_flags-steady, (made-steady _ _ stat_long-steady, (made-steady _ _ stat_str-steady, tt)))

stat_rec-steady : Steady stat_rec
stat_rec-steady = made-steady _ _ (then-steady _ _ (signed-steady w64) stat_value-steady)

stats-steady : Steady stats
stats-steady = map-steady (slice_cmp nat_cmp) _ _ text-steady text_none stat_rec-steady

table_rec-steady : (version : Version) → Steady (table_rec version)
table_rec-steady version = made-steady _ _
    (three-steady _ _ _
    (four-steady _ _ _ _ some_text (signed-steady w32) (signed-steady w32) (signed-steady w32))
    (four-steady _ _ _ _ storage-steady (list-steady _ column-steady) params-steady some_text)
    (three-steady _ _ _ some_text some_text stats-steady))

part_rec-steady : Steady part_rec
part_rec-steady = made-steady _ _
    (then-steady _ _ (then-steady _ _ (signed-steady w32) (signed-steady w32)) (three-steady _ _ _ (option-steady _ storage-steady) params-steady stats-steady))

put_table-steady : (version : Version) → Steady (put_table version)
put_table-steady version = three-steady _ _ _ text-steady u64-steady (table_rec-steady version)

drop_table-steady : Steady drop_table
drop_table-steady = then-steady _ _ text-steady u64-steady

move_table-steady : (version : Version) → Steady (move_table version)
move_table-steady version = four-steady _ _ _ _ text-steady u64-steady text-steady (table_rec-steady version)

put_part-steady : Steady put_part
put_part-steady = four-steady _ _ _ _ text-steady u64-steady texts-steady part_rec-steady

drop_part-steady : Steady drop_part
drop_part-steady = three-steady _ _ _ text-steady u64-steady texts-steady

move_part-steady : Steady move_part
move_part-steady = then-steady _ _ (then-steady _ _ text-steady u64-steady) (three-steady _ _ _ texts-steady texts-steady part_rec-steady)

operation-steady : (version : Version) → Steady (operation version)
operation-steady version = tagged-steady (op_tags version) (
  made-steady _ _ (db_rec-steady version),
  (given-steady _, (made-steady _ _ (put_table-steady version), (made-steady _ _ drop_table-steady, (made-steady _ _ (move_table-steady version), (made-steady _ _ put_part-steady, (made-steady _ _ drop_part-steady, (made-steady _ _ move_part-steady, tt))))))),
)

event_kind-steady : Steady event_kind
event_kind-steady = tagged-steady kind_tags (given-steady _, (given-steady _, (given-steady _, (given-steady _, (given-steady _, (given-steady _, (given-steady _, (given-steady _, (given-steady _, tt)))))))))

change-steady : (version : Version) → Steady (change version)
change-steady version = made-steady _ _ (four-steady _ _ _ _ event_kind-steady text-steady u64-steady (list-steady _ (operation-steady version)))

pub event-steady : (version : Version) → Steady (event version)
event-steady version = made-steady _ _ (three-steady _ _ _ u64-steady u64-steady (change-steady version))

pub events-steady : (version : Version) → Steady (list_of (event version))
events-steady version = list-steady _ (event-steady version)

db_item-steady : (version : Version) → Steady (db_item version)
db_item-steady version = three-steady _ _ _ u64-steady u64-steady (db_rec-steady version)

table_item-steady : (version : Version) → Steady (table_item version)
table_item-steady version = four-steady _ _ _ _ u64-steady text-steady u64-steady (table_rec-steady version)

part_item-steady : Steady part_item
part_item-steady = then-steady _ _ (then-steady _ _ u64-steady text-steady) (three-steady _ _ _ u64-steady texts-steady part_rec-steady)

pub item-steady : (version : Version) → Steady (an_item version)
item-steady version = tagged-steady (item_tags version) (made-steady _ _ (db_item-steady version), (made-steady _ _ (table_item-steady version), (made-steady _ _ part_item-steady, tt)))

pub items-steady : (version : Version) → Steady (list_of (an_item version))
items-steady version = list-steady _ (item-steady version)

two_numbers-steady : Steady two_numbers
two_numbers-steady = then-steady _ _ u64-steady u64-steady

phase-steady : Steady a_phase
phase-steady = tagged-steady phase_tags (made-steady _ _ two_numbers-steady, (made-steady _ _ two_numbers-steady, (made-steady _ _ u64-steady, tt)))

replica_row-steady : Steady replica_row
replica_row-steady = made-steady _ _ (three-steady _ _ _ (front-steady 16) text-steady phase-steady)

marked-steady : (version : Version) → Steady (marked version)
marked-steady version = made-steady _ _ (three-steady _ _ _ u64-steady u64-steady (operation-steady version))

load_step-steady : (version : Version) → Steady (load_step version)
load_step-steady version = four-steady _ _ _ _ text-steady replica_row-steady flag-steady (list-steady _ (marked-steady version))

pub entry-steady : (version : Version) → Steady (an_entry version)
entry-steady version = tagged-steady (entry_tags version) (made-steady _ _ (event-steady version), (made-steady _ _ u64-steady, (made-steady _ _ u64-steady, (made-steady _ _ (load_step-steady version), tt))))

-- no bytes are none of these

pub event_none : (version : Version) → (event version).read [] ≡ Err 0
unfolding made_read three_read number_read
event_none version = refl

pub item_none : (version : Version) → (an_item version).read [] ≡ Err 0
unfolding tagged_read
item_none version = refl

-- ---- what that says of spellings

not_nil : (x : ℕ) (xs : List ℕ) → x ∷ xs ≡ [] → ⊥
not_nil x xs e = cc

none_behind : (xs ys : List ℕ) → [] ≡ xs ++ ys → ys ≡ []
none_behind [] ys e = sym e
none_behind (x ∷ xs) ys e = absurd (not_nil x (xs ++ ys) (sym e))

module _ {T : Type 0} (form : Form T) (p : IsSteady form.read) (again : IsReadAgain form) where
  none_read : (bytes : List ℕ) (left : ℕ) → form.read bytes ≡ Err left → (value : T) (rest : List ℕ) → form.HasCode value → bytes ≡ form.code value ++ rest → ⊥
  none_read bytes left e value rest f is = never (form.read bytes) (value, rest) left (ap form.read is ∙ again value rest f) e

  pub refused_in_place : IsRefusedInPlace form
  refused_in_place bytes left e =
      let s = p.stops bytes left e in
      record {
        before = s.before;
        behind = s.behind;
        parts = s.parts;
        place = s.place;
        early = s.early;
        none = none_read bytes left e;
        final = λ some value more f is. none_read (bytes ++ more) (length (s.behind ++ more)) (s.stays some more) value [] f (sym is ∙ sym (append-nil (form.code value)));
        stays = s.stays;
      }

  -- a value that is read off a front takes no more of the whole
  cut_value : (value : T) (front more : List ℕ) → form.HasCode value → form.code value ≡ front ++ more → more ≢ [] → (v : T) (rest : List ℕ) → form.read front ≡ Ok (v, rest) → ⊥
  cut_value value front more f is some v rest e =
      let t = p.took front v rest e in
      let split : form.code value ++ [] ≡ t.front ++ (rest ++ more) = append-nil (form.code value) ∙ is ∙ ap (λ (l : List ℕ). l ++ more) t.parts ∙ append_assoc t.front rest more in
      let same : (value, []) ≡ (v, rest ++ more) = ok_is (value, []) (v, rest ++ more) (sym (again value [] f) ∙ ap form.read split ∙ t.again (rest ++ more)) in
      some (none_behind rest more (ap (λ (r : T × List ℕ). r.1) same))

  cut_stop : (value : T) (front more : List ℕ) → form.HasCode value → form.code value ≡ front ++ more → (left : ℕ) → form.read front ≡ Err left → (s : Place form.read front left) (behind : List ℕ) → s.behind ≡ behind → form.read front ≡ Err 0
  cut_stop value front more f is left e s [] none = e ∙ ap (λ (n : ℕ). Err n) (s.place ∙ ap (λ (l : List ℕ). length l) none)
  cut_stop value front more f is left e s (x ∷ xs) some =
      let left_over : s.behind ≡ [] → ⊥ = λ none. not_nil x xs (sym some ∙ none) in
      absurd (none_read (front ++ more) (length (s.behind ++ more)) (s.stays left_over more) value [] f (sym is ∙ sym (append-nil (form.code value))))

  cut_by : (value : T) (front more : List ℕ) → form.HasCode value → form.code value ≡ front ++ more → more ≢ [] → (r : Reading T) → form.read front ≡ r → form.read front ≡ Err 0
  cut_by value front more f is some (Ok (v, rest)) e = absurd (cut_value value front more f is some v rest e)
  cut_by value front more f is some (Err left) e = let s = p.stops front left e in cut_stop value front more f is left e s s.behind refl

  pub cut_at_its_end : IsCutAtItsEnd form
  cut_at_its_end value front more f is some = cut_by value front more f is some (form.read front) refl
