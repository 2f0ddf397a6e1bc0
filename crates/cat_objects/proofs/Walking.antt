-- Whether a partition stands after operations, read from the last of them to the first.
use Rattle.std.proofs.Common.{◌≡◌, ℕ, Bool, true, false, not, ◌&&◌, ◌||◌, List, [], ◌∷◌, ◌++◌, Option, Some, None, MatchOption, is_some, cond, length, arith, refl, sym, ap, subst, ◌∙◌}
use Rattle.std.proofs.lemmas.List.Folds.{list_all-append}
use Rattle.std.specs.Cmp.{IsTotalOrder}
use Rattle.std.specs.Cmp.Lexicographic.{lists_total, nat_list_cmp_total, slice_cmp}
use Rattle.std.specs.List.Sorted.{IsStrictlySortedBy}
use Rattle.std.specs.Map.{keys_of}
use Rattle.std.specs.Option.{option_map}
use Rattle.std.specs.Ordering.{nat_cmp}
use Rattle.cat_types.specs.declared.changes.Op.{Op}
use Rattle.cat_types.specs.declared.changes.Op.TheVariants.{DropDb, DropPart, DropTable, MovePart, MoveTable, PutDb, PutPart, PutTable}
use Rattle.cat_values.specs.declared.records.PartRec.{PartRec}
use Rattle.cat_values.specs.declared.records.TableRec.{TableRec}
use Rattle.cat_objects.specs.Catalogue.{Catalogue, at_name, database, has_part, is_name, parts_of, put_at, table, tables_of}
use Rattle.cat_objects.specs.Changes.{changed_parts, done_op, done_ops, is_drop_db, put_table, with_parts}
use Rattle.cat_objects.specs.Lawful.{keep_database}
use Rattle.cat_objects.specs.Parts.{PartList, are_values, at_values, moved_part, put_part, without_part}
use Rattle.cat_objects.specs.Seen.{name_before, puts, takes, touched}
use Rattle.cat_objects.specs.declared.following.Touch.{Touch}
use Rattle.cat_objects.specs.declared.following.Touch.TheVariants.{Nothing, Puts, Takes}
use Rattle.cat_objects.specs.declared.held.HeldDb.{HeldDb}
use Rattle.cat_objects.specs.declared.held.HeldTable.{HeldTable}
use Rattle.cat_objects.proofs.Editing.{Tables}
use Rattle.cat_objects.proofs.Found.{found_apart, found_changed, found_put, found_removed}
use Rattle.cat_objects.proofs.Maps.{equal_of, same_found}
use Rattle.cat_objects.proofs.Rising.{none_rise, rising_put, rising_remove}
use Rattle.cat_objects.proofs.Seeing.{Rises, after_is, db_after, rises_after, tables_after}
use Rattle.cat_objects.proofs.Taking.{first_of, is_free, last_of}

values_total : IsTotalOrder (slice_cmp (slice_cmp nat_cmp))
values_total = lists_total nat_list_cmp_total

abbrev pub ValuesRise : PartList → Type 0
ValuesRise parts = IsStrictlySortedBy (slice_cmp (slice_cmp nat_cmp)) (keys_of parts)

-- whether a table that may be there has a partition
abbrev pub has_in : List (List ℕ) → PartList → Bool
has_in values parts = is_some (at_values values parts)

-- ---- one step

-- what an operation that does this to a partition makes of it, from the table before it to the partitions after it
abbrev pub Does : Touch → List (List ℕ) → Option HeldTable → PartList → Type 0
Does Nothing values before after = has_in values after ≡ has_in values (parts_of before)
Does Puts values before after = has_in values after ≡ is_some before
Does Takes values before after = ValuesRise (parts_of before) → has_in values after ≡ false

pub record Steps (touch : Touch) (values : List (List ℕ)) (before : Option HeldTable) (after : PartList) : Type 0 where
  pub rises : ValuesRise (parts_of before) → ValuesRise after
  pub does : Does touch values before after

none_does : (touch : Touch) (values : List (List ℕ)) → Does touch values None []
none_does Nothing values = refl
none_does Puts values = refl
none_does Takes values = λ rise. refl

none_steps : (touch : Touch) (values : List (List ℕ)) → Steps touch values None []
none_steps touch values = record { rises = λ rise. rise; does = none_does touch values }

same_steps : (values : List (List ℕ)) (before : Option HeldTable) (after : PartList) → after ≡ parts_of before → Steps Nothing values before after
same_steps values before after is = record { rises = λ rise. subst ValuesRise (sym is) rise; does = ap (has_in values) is }

-- a partition that is put, dropped or moved
put_does : (c : Bool) (values put : List (List ℕ)) (rec : PartRec) (held : HeldTable) → are_values values put ≡ c → Does (cond c Puts Nothing) values (Some held) (put_part put rec held.parts)
put_does true values put rec held is = ap is_some (found_put (slice_cmp (slice_cmp nat_cmp)) values_total values put rec held.parts ∙ ap (λ (c : Bool). cond c (Some rec) (at_values values held.parts)) is)
put_does false values put rec held is = ap is_some (found_put (slice_cmp (slice_cmp nat_cmp)) values_total values put rec held.parts ∙ ap (λ (c : Bool). cond c (Some rec) (at_values values held.parts)) is)

put_rises : (put : List (List ℕ)) (rec : PartRec) (parts : PartList) → ValuesRise parts → ValuesRise (put_part put rec parts)
put_rises put rec parts rise = rising_put (slice_cmp (slice_cmp nat_cmp)) values_total put rec parts rise

taken_out : (values dropped : List (List ℕ)) (parts : PartList) → are_values values dropped ≡ true → ValuesRise parts → has_in values (without_part dropped parts) ≡ false
taken_out values dropped parts is rise = ap is_some (found_removed (slice_cmp (slice_cmp nat_cmp)) values_total values dropped parts rise ∙ ap (λ (c : Bool). cond c None (at_values values parts)) is)

drop_does : (c : Bool) (values dropped : List (List ℕ)) (held : HeldTable) → are_values values dropped ≡ c → Does (cond c Takes Nothing) values (Some held) (without_part dropped held.parts)
drop_does true values dropped held is = λ rise. taken_out values dropped held.parts is rise
drop_does false values dropped held is = ap is_some (found_apart (slice_cmp (slice_cmp nat_cmp)) values_total values dropped held.parts is)

drop_rises : (dropped : List (List ℕ)) (parts : PartList) → ValuesRise parts → ValuesRise (without_part dropped parts)
drop_rises dropped parts rise = rising_remove (slice_cmp (slice_cmp nat_cmp)) (are_values dropped) parts rise

moved_to : (c : Bool) (values from to : List (List ℕ)) (rec : PartRec) (held : HeldTable) → are_values values from ≡ false → are_values values to ≡ c → Does (cond c Puts Nothing) values (Some held) (moved_part from to rec held.parts)
moved_to true values from to rec held other is =
    ap is_some (found_apart (slice_cmp (slice_cmp nat_cmp)) values_total values from (put_part to rec held.parts) other) ∙ put_does true values to rec held is
moved_to false values from to rec held other is =
    ap is_some (found_apart (slice_cmp (slice_cmp nat_cmp)) values_total values from (put_part to rec held.parts) other) ∙ put_does false values to rec held is

move_does : (c : Bool) (values from to : List (List ℕ)) (rec : PartRec) (held : HeldTable) → are_values values from ≡ c → Does (cond c Takes (cond (are_values values to) Puts Nothing)) values (Some held) (moved_part from to rec held.parts)
move_does true values from to rec held is = λ rise. taken_out values from (put_part to rec held.parts) is (put_rises to rec held.parts rise)
move_does false values from to rec held is = moved_to (are_values values to) values from to rec held is refl

-- ---- a change of a table's partitions

abbrev on_parts : (PartList → PartList) → HeldTable → HeldTable
on_parts change held = with_parts (change held.parts) held

parts_by : (b : Bool) (touch : Touch) (values : List (List ℕ)) (change : PartList → PartList) (o : Option HeldTable) → ((held : HeldTable) → Does touch values (Some held) (change held.parts)) → ((parts : PartList) → ValuesRise parts → ValuesRise (change parts))
    → Steps (cond b touch Nothing) values o (parts_of (cond b (option_map (on_parts change) o) o))
parts_by true touch values change None does rises = none_steps touch values
parts_by true touch values change (Some held) does rises = record { rises = λ rise. rises held.parts rise; does = does held }
parts_by false touch values change o does rises = same_steps values o (parts_of o) refl

parts_step : (name under : List ℕ) (touch : Touch) (values : List (List ℕ)) (change : PartList → PartList) (tables : Tables) → ((held : HeldTable) → Does touch values (Some held) (change held.parts)) → ((parts : PartList) → ValuesRise parts → ValuesRise (change parts))
    → Steps (cond (is_name name under) touch Nothing) values (at_name name tables) (parts_of (at_name name (changed_parts under change tables)))
parts_step name under touch values change tables does rises =
    subst (λ (o : Option HeldTable). Steps (cond (is_name name under) touch Nothing) values (at_name name tables) (parts_of o))
    (sym (found_changed (slice_cmp nat_cmp) nat_list_cmp_total name under (on_parts change) tables))
    (parts_by (is_name name under) touch values change (at_name name tables) does rises)

-- ---- one operation

-- what an operation does to the partition, from the name before it
abbrev pub Stepped : Option (List ℕ) → Touch → List (List ℕ) → Tables → PartList → Type 0
Stepped found touch values tables after = MatchOption found (after ≡ []) (λ name. Steps touch values (at_name name tables) after)

abbrev made : List ℕ → ℕ → TableRec → Tables → HeldTable
made under at rec tables = record { born = at; rec = rec; parts = parts_of (at_name under tables) }

over_by : (b : Bool) (name under : List ℕ) (at : ℕ) (rec : TableRec) (tables : Tables) → is_name name under ≡ b → parts_of (cond b (Some (made under at rec tables)) (at_name name tables)) ≡ parts_of (at_name name tables)
over_by true name under at rec tables is = ap parts_of (sym (same_found (slice_cmp nat_cmp) nat_list_cmp_total name under tables (equal_of (slice_cmp nat_cmp name under) is)))
over_by false name under at rec tables is = refl

dropped_by : (b : Bool) (values : List (List ℕ)) (name : List ℕ) (tables : Tables) → Stepped (cond b None (Some name)) Nothing values tables (parts_of (cond b None (at_name name tables)))
dropped_by true values name tables = refl
dropped_by false values name tables = same_steps values (at_name name tables) (parts_of (at_name name tables)) refl

moved_by : (b c : Bool) (values : List (List ℕ)) (name under : List ℕ) (at : ℕ) (rec : TableRec) (tables : Tables)
    → Stepped (cond b None (cond c (Some under) (Some name))) Nothing values tables (parts_of (cond b None (cond c (Some (made under at rec tables)) (at_name name tables))))
moved_by true c values name under at rec tables = refl
moved_by false true values name under at rec tables = same_steps values (at_name under tables) (parts_of (at_name under tables)) refl
moved_by false false values name under at rec tables = same_steps values (at_name name tables) (parts_of (at_name name tables)) refl

tables_step : (name : List ℕ) (values : List (List ℕ)) (op : Op) (tables : Tables) → Rises tables → Stepped (name_before name op) (touched name values op) values tables (parts_of (at_name name (tables_after op tables)))
tables_step name values (PutDb rec) tables rise = same_steps values (at_name name tables) (parts_of (at_name name tables)) refl
tables_step name values DropDb tables rise = same_steps values (at_name name tables) (parts_of (at_name name tables)) refl
tables_step name values (PutTable under at rec) tables rise =
    same_steps values (at_name name tables) (parts_of (at_name name (put_table under at rec tables)))
    (ap parts_of (found_put (slice_cmp nat_cmp) nat_list_cmp_total name under (made under at rec tables) tables) ∙ over_by (is_name name under) name under at rec tables refl)
tables_step name values (DropTable under at) tables rise =
    subst (λ (o : Option HeldTable). Stepped (name_before name (DropTable under at)) Nothing values tables (parts_of o))
    (sym (found_removed (slice_cmp nat_cmp) nat_list_cmp_total name under tables rise))
    (dropped_by (is_name name under) values name tables)
tables_step name values (MoveTable under at to rec) tables rise =
    let new : HeldTable = made under at rec tables in
    subst (λ (o : Option HeldTable). Stepped (name_before name (MoveTable under at to rec)) Nothing values tables (parts_of o))
    (sym
    (found_removed (slice_cmp nat_cmp) nat_list_cmp_total name under (put_at to new tables) (rising_put (slice_cmp nat_cmp) nat_list_cmp_total to new tables rise)
    ∙ ap (λ (o : Option HeldTable). cond (is_name name under) None o) (found_put (slice_cmp nat_cmp) nat_list_cmp_total name to new tables)))
    (moved_by (is_name name under) (is_name name to) values name under at rec tables)
tables_step name values (PutPart under at put rec) tables rise =
    parts_step name under (cond (are_values values put) Puts Nothing) values (put_part put rec) tables (λ held. put_does (are_values values put) values put rec held refl) (put_rises put rec)
tables_step name values (DropPart under at dropped) tables rise =
    parts_step name under (cond (are_values values dropped) Takes Nothing) values (without_part dropped) tables (λ held. drop_does (are_values values dropped) values dropped held refl) (drop_rises dropped)
tables_step name values (MovePart under at from to rec) tables rise =
    parts_step name under (cond (are_values values from) Takes (cond (are_values values to) Puts Nothing)) values (moved_part from to rec) tables (λ held. move_does (are_values values from) values from to rec held refl)
    (λ parts up. drop_rises from (put_part to rec parts) (put_rises to rec parts up))

-- where no database is, there is nothing
nowhere : (found : Option (List ℕ)) (touch : Touch) (values : List (List ℕ)) → Stepped found touch values [] []
nowhere None touch values = refl
nowhere (Some name) touch values = none_steps touch values

db_step : (born : ℕ) (name : List ℕ) (values : List (List ℕ)) (op : Op) (o : Option HeldDb) → is_drop_db op ≡ false → Rises (tables_of o) → Stepped (name_before name op) (touched name values op) values (tables_of o) (parts_of (at_name name (tables_of (db_after born op o))))
db_step born name values (PutDb rec) None keeps rise = nowhere (Some name) Nothing values
db_step born name values (PutDb rec) (Some held) keeps rise = same_steps values (at_name name held.tables) (parts_of (at_name name held.tables)) refl
db_step born name values DropDb o keeps rise = absurd cc
db_step born name values (PutTable under at rec) None keeps rise = nowhere (Some name) Nothing values
db_step born name values (PutTable under at rec) (Some held) keeps rise = tables_step name values (PutTable under at rec) held.tables rise
db_step born name values (DropTable under at) None keeps rise = nowhere (name_before name (DropTable under at)) Nothing values
db_step born name values (DropTable under at) (Some held) keeps rise = tables_step name values (DropTable under at) held.tables rise
db_step born name values (MoveTable under at to rec) None keeps rise = nowhere (name_before name (MoveTable under at to rec)) Nothing values
db_step born name values (MoveTable under at to rec) (Some held) keeps rise = tables_step name values (MoveTable under at to rec) held.tables rise
db_step born name values (PutPart under at put rec) None keeps rise = nowhere (Some name) (touched name values (PutPart under at put rec)) values
db_step born name values (PutPart under at put rec) (Some held) keeps rise = tables_step name values (PutPart under at put rec) held.tables rise
db_step born name values (DropPart under at dropped) None keeps rise = nowhere (Some name) (touched name values (DropPart under at dropped)) values
db_step born name values (DropPart under at dropped) (Some held) keeps rise = tables_step name values (DropPart under at dropped) held.tables rise
db_step born name values (MovePart under at from to rec) None keeps rise = nowhere (Some name) (touched name values (MovePart under at from to rec)) values
db_step born name values (MovePart under at from to rec) (Some held) keeps rise = tables_step name values (MovePart under at from to rec) held.tables rise

-- ---- the last of operations

done_last : (db : List ℕ) (born : ℕ) (cat : Catalogue) (front : List Op) (op : Op) → done_ops db born cat (front ++ op ∷ []) ≡ done_op db born (done_ops db born cat front) op
done_last db born cat [] op = refl
done_last db born cat (first ∷ front) op = done_last db born (done_op db born cat first) front op

front_kept : (front : List Op) (op : Op) → keep_database (front ++ op ∷ []) ≡ true → keep_database front ≡ true
front_kept front op keep = first_of (keep_database front) (keep_database (op ∷ [])) (sym (list_all-append (λ o. not (is_drop_db o)) front (op ∷ [])) ∙ keep)

last_kept : (front : List Op) (op : Op) → keep_database (front ++ op ∷ []) ≡ true → is_drop_db op ≡ false
last_kept front op keep =
    is_free (is_drop_db op)
    (first_of (not (is_drop_db op)) true (last_of (keep_database front) (keep_database (op ∷ [])) (sym (list_all-append (λ o. not (is_drop_db o)) front (op ∷ [])) ∙ keep)))

-- what the last operation does to the partition
last_step : (db : List ℕ) (born : ℕ) (cat : Catalogue) (front : List Op) (op : Op) (name : List ℕ) (values : List (List ℕ)) → keep_database (front ++ op ∷ []) ≡ true → Rises (tables_of (database cat db))
    → Stepped (name_before name op) (touched name values op) values (tables_of (database (done_ops db born cat front) db)) (parts_of (table (done_ops db born cat (front ++ op ∷ [])) db name))
last_step db born cat front op name values keep rise =
    subst (λ (o : Option HeldDb). Stepped (name_before name op) (touched name values op) values (tables_of (database (done_ops db born cat front) db)) (parts_of (at_name name (tables_of o))))
    (sym (ap (λ (c : Catalogue). database c db) (done_last db born cat front op) ∙ after_is (done_ops db born cat front) db born op (last_kept front op keep)))
    (db_step born name values op (database (done_ops db born cat front) db) (last_kept front op keep) (rises_after db born cat front (front_kept front op keep) rise))

-- ---- the walk

-- what is left to tell: where the partition was taken out, only that it isn't there, as soon as values rise
abbrev pub Left : Bool → Bool → List (List ℕ) → PartList → Type 0
Left true there values parts = ValuesRise parts → there ≡ false
Left false there values parts = there ≡ has_in values parts

-- past an operation that doesn't tell the answer
past : (touch : Touch) (taken there : Bool) (values : List (List ℕ)) (before : Option HeldTable) (after : PartList) → (puts touch && not taken) ≡ false → Steps touch values before after → Left taken there values after
    → Left (takes touch || taken) there values (parts_of before)
past Nothing true there values before after goes step left = λ rise. left (step.rises rise)
past Nothing false there values before after goes step left = left ∙ step.does
past Puts true there values before after goes step left = λ rise. left (step.rises rise)
past Puts false there values before after goes step left = absurd cc
past Takes true there values before after goes step left = λ rise. left (step.rises rise)
past Takes false there values before after goes step left = λ rise. left ∙ step.does rise

at_put : (touch : Touch) (taken there : Bool) (values : List (List ℕ)) (before : Option HeldTable) (after : PartList) → (puts touch && not taken) ≡ true → Steps touch values before after → Left taken there values after → there ≡ is_some before
at_put Nothing taken there values before after is step left = absurd cc
at_put Puts true there values before after is step left = absurd cc
at_put Puts false there values before after is step left = left ∙ step.does
at_put Takes taken there values before after is step left = absurd cc

put_is : (touch : Touch) (taken : Bool) → (puts touch && not taken) ≡ true → puts touch ≡ true
put_is touch taken is = first_of (puts touch) (not taken) is

gone : (taken there : Bool) (values : List (List ℕ)) (after : PartList) → after ≡ [] → Left taken there values after → there ≡ false
gone true there values after is left = left (subst ValuesRise (sym is) (none_rise (slice_cmp (slice_cmp nat_cmp))))
gone false there values after is left = left ∙ ap (has_in values) is

and_not : (a : Bool) → (a && true) ≡ a
and_not true = refl
and_not false = refl

none_of : (a : Bool) → (a && false) ≡ false
none_of true = refl
none_of false = refl

at_end : (taken there : Bool) (values : List (List ℕ)) (parts : PartList) → Left taken there values parts → ValuesRise parts → (has_in values parts && not taken) ≡ there
at_end true there values parts left rise = none_of (has_in values parts) ∙ sym (left rise)
at_end false there values parts left rise = and_not (has_in values parts) ∙ sym left

-- how far a walk came: which operations are left, which name the table has there, and whether the partition was taken out later
pub record Walk (cat : Catalogue) (db name : List ℕ) (values : List (List ℕ)) (before rest : List Op) (at : List ℕ) (taken : Bool) : Type 0 where
  pub keeps : keep_database rest ≡ true
  pub left : (born : ℕ) → Left taken (has_part (done_ops db born cat before) db name values) values (parts_of (table (done_ops db born cat rest) db at))

module _ (cat : Catalogue) (db name : List ℕ) (values : List (List ℕ)) (before : List Op) (rise : Rises (tables_of (database cat db))) where
  step_of : (rest front : List Op) (op : Op) (at to : List ℕ) → rest ≡ front ++ op ∷ [] → keep_database rest ≡ true → name_before at op ≡ Some to → (born : ℕ)
      → Steps (touched at values op) values (table (done_ops db born cat front) db to) (parts_of (table (done_ops db born cat rest) db at))
  step_of rest front op at to is keep was born =
      subst (λ (ops : List Op). Steps (touched at values op) values (table (done_ops db born cat front) db to) (parts_of (table (done_ops db born cat ops) db at))) (sym is)
      (subst (λ (o : Option (List ℕ)). Stepped o (touched at values op) values (tables_of (database (done_ops db born cat front) db)) (parts_of (table (done_ops db born cat (front ++ op ∷ [])) db at))) was
      (last_step db born cat front op at values (subst (λ (ops : List Op). keep_database ops ≡ true) is keep) rise))

  front_keeps : (rest front : List Op) (op : Op) → rest ≡ front ++ op ∷ [] → keep_database rest ≡ true → keep_database front ≡ true
  front_keeps rest front op is keep = front_kept front op (subst (λ (ops : List Op). keep_database ops ≡ true) is keep)

  pub goes_on : (rest front : List Op) (op : Op) (at to : List ℕ) (taken : Bool) → Walk cat db name values before rest at taken → rest ≡ front ++ op ∷ [] → name_before at op ≡ Some to → (puts (touched at values op) && not taken) ≡ false
      → Walk cat db name values before front to (takes (touched at values op) || taken)
  goes_on rest front op at to taken walk is was goes = record {
    keeps = front_keeps rest front op is walk.keeps;
    left = λ born. past (touched at values op) taken (has_part (done_ops db born cat before) db name values) values (table (done_ops db born cat front) db to) (parts_of (table (done_ops db born cat rest) db at)) goes
        (step_of rest front op at to is walk.keeps was born) (walk.left born);
  }

  pub ends_gone : (rest front : List Op) (op : Op) (at : List ℕ) (taken : Bool) → Walk cat db name values before rest at taken → rest ≡ front ++ op ∷ [] → name_before at op ≡ None → (born : ℕ) → has_part (done_ops db born cat before) db name values ≡ false
  ends_gone rest front op at taken walk is was born =
      gone taken (has_part (done_ops db born cat before) db name values) values (parts_of (table (done_ops db born cat rest) db at))
      (subst (λ (ops : List Op). parts_of (table (done_ops db born cat ops) db at) ≡ []) (sym is)
      (subst (λ (o : Option (List ℕ)). Stepped o (touched at values op) values (tables_of (database (done_ops db born cat front) db)) (parts_of (table (done_ops db born cat (front ++ op ∷ [])) db at))) was
      (last_step db born cat front op at values (subst (λ (ops : List Op). keep_database ops ≡ true) is walk.keeps) rise)))
      (walk.left born)

  -- a name is the same before what puts a partition
  stays_put : (op : Op) (at to : List ℕ) → puts (touched at values op) ≡ true → name_before at op ≡ Some to → to ≡ at
  stays_put (PutDb rec) at to is was = absurd cc
  stays_put DropDb at to is was = absurd cc
  stays_put (PutTable under born rec) at to is was = absurd cc
  stays_put (DropTable under born) at to is was = absurd cc
  stays_put (MoveTable under born new rec) at to is was = absurd cc
  stays_put (PutPart under born put rec) at to is was = sym cc
  stays_put (DropPart under born dropped) at to is was = sym cc
  stays_put (MovePart under born from new rec) at to is was = sym cc

  pub ends_put : (rest front : List Op) (op : Op) (at to : List ℕ) (taken : Bool) → Walk cat db name values before rest at taken → rest ≡ front ++ op ∷ [] → name_before at op ≡ Some to → (puts (touched at values op) && not taken) ≡ true
      → (born : ℕ) → has_part (done_ops db born cat before) db name values ≡ is_some (table (done_ops db born cat front) db at)
  ends_put rest front op at to taken walk is was ends born =
      at_put (touched at values op) taken (has_part (done_ops db born cat before) db name values) values (table (done_ops db born cat front) db to) (parts_of (table (done_ops db born cat rest) db at)) ends
      (step_of rest front op at to is walk.keeps was born) (walk.left born)
      ∙ ap (λ (n : List ℕ). is_some (table (done_ops db born cat front) db n)) (stays_put op at to (put_is (touched at values op) taken ends) was)

  pub ends_here : (rest : List Op) (at : List ℕ) (taken : Bool) → Walk cat db name values before rest at taken → length rest ≡ 0 → ValuesRise (parts_of (table cat db at)) → (born : ℕ) → (has_part cat db at values && not taken) ≡ has_part (done_ops db born cat before) db name values
  ends_here [] at taken walk none up born = at_end taken (has_part (done_ops db born cat before) db name values) values (parts_of (table cat db at)) (walk.left born) up
  ends_here (op ∷ rest) at taken walk none up born = absurd (omega (arith, none))
