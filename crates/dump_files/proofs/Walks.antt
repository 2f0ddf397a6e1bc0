-- What the rules come to over files and rows of files.
use Rattle.std.proofs.Common.{◌≡◌, ◌==◌, ◌&&◌, ℕ, suc, ◌+◌, ◌≤◌, ◌<◌, nat_le, nat_lt, ◌⊎◌, inl, inr, true, false, List, [], ◌∷◌, ◌++◌, length, Option, None, Some, refl, sym, ap, subst, ◌∙◌, arith}
use Rattle.std.proofs.lemmas.Bool.{and_parts, eqb-true, false≢true, leb-true, ltb-true}
use Rattle.std.proofs.lemmas.Slice.Eq.{bytes_eq-Decides}
use Rattle.std.specs.Cmp.Lexicographic.{slice_cmp}
use Rattle.std.specs.List.{AllByRecursion, last_or}
use Rattle.std.specs.Ordering.{is_lt, nat_cmp}
use Rattle.std.specs.Str.{bytes_eq}
use Rattle.cat_types.specs.declared.changes.Event.{Event}
use Rattle.cat_types.specs.declared.items.Item.{Item}
use Rattle.cat_types.specs.declared.items.Item.TheVariants.{Db, Part, Table}
use Rattle.change_codec.specs.Forms.{rises}
use Rattle.dump_files.specs.declared.bounds.Bounds.{Bounds}
use Rattle.dump_files.specs.Files.{AllStand, AreFiles, IsFile, Rule}
use Rattle.dump_files.specs.Items.{follows, is_marked, is_part, item_stands, least_mark, mark_of, may_share}
use Rattle.dump_files.specs.Events.{event_stands, is_numbered, is_within, number_before}
use Rattle.dump_files.specs.Rows.{AllFollow, IsDatabaseFile, IsEventCount, IsMarked, IsNumbered, IsPartFile, IsTableFile, NamesRise, PartsStand, Walked, all_of, table_names}

-- ---- over a row of files

follow_both : {T : Type 0} (Follows : Option T → T → Type 0) (last : Option T) (xs ys : List T) → AllFollow Follows last xs → AllFollow Follows (last_or last xs) ys → AllFollow Follows last (xs ++ ys)
follow_both Follows last [] ys p q = q
follow_both Follows last (x ∷ xs) ys p q = (p.0, follow_both Follows (Some x) xs ys p.1 q)

module _ {T : Type 0} (rule : Rule T) (Follows : Option T → T → Type 0) (gives : (last : Option T) (place : ℕ) (element : T) → rule last place element ≡ true → Follows last element) where
  in_file : (last : Option T) (place : ℕ) (elements : List T) → AllStand rule last place elements → AllFollow Follows last elements
  in_file last place [] s = tt
  in_file last place (x ∷ xs) s = (gives last place x s.0, in_file (Some x) (suc place) xs s.1)

  in_files : (last : Option T) (files : List (List T)) → AreFiles rule last files → AllFollow Follows last (all_of files)
  in_files last [] s = tt
  in_files last (file ∷ files) s = follow_both Follows last file (all_of files) (in_file last 0 file s.0.1) (in_files (last_or last file) files s.1)

-- ---- the parts of the rules

module _ (bounds : Bounds) where
  item_parts : (last : Option Item) (place : ℕ) (item : Item) → item_stands bounds last place item ≡ true → (follows bounds last item ≡ true) × (may_share last place item ≡ true) × (is_marked bounds last item ≡ true)
  unfolding item_stands
  item_parts last place item e =
      let a = and_parts (follows bounds last item && may_share last place item) (is_marked bounds last item) e in
      let b = and_parts (follows bounds last item) (may_share last place item) a.0 in
      (b.0, b.1, a.1)

  event_parts : (last : Option Event) (place : ℕ) (event : Event) → event_stands bounds last place event ≡ true → (nat_lt place 256 ≡ true) × (is_numbered bounds last event ≡ true) × (is_within bounds event.change ≡ true)
  unfolding event_stands
  event_parts last place event e =
      let a = and_parts (nat_lt place 256 && is_numbered bounds last event) (is_within bounds event.change) e in
      let b = and_parts (nat_lt place 256) (is_numbered bounds last event) a.0 in
      (b.0, b.1, a.1)

  marked : (last : Option Item) (place : ℕ) (item : Item) → item_stands bounds last place item ≡ true → IsMarked bounds last item
  marked last place item e =
      let p = item_parts last place item e in
      let m = and_parts (nat_le (least_mark bounds last) (mark_of item)) (nat_le (mark_of item) bounds.end) p.2 in
      (leb-true _ _ m.0, leb-true _ _ m.1)

  pub marks : (files : List (List Item)) → AreFiles (item_stands bounds) None files → AllFollow (IsMarked bounds) None (all_of files)
  marks files s = in_files (item_stands bounds) (IsMarked bounds) marked None files s

  numbered : (last : Option Event) (place : ℕ) (event : Event) → event_stands bounds last place event ≡ true → IsNumbered bounds last event
  numbered last place event e =
      let p = event_parts last place event e in
      let m = and_parts (nat_lt (number_before bounds last) event.id) (nat_le event.id bounds.end) p.1 in
      (ltb-true _ _ m.0, leb-true _ _ m.1)

  pub numbers : (files : List (List Event)) → AreFiles (event_stands bounds) None files → AllFollow (IsNumbered bounds) None (all_of files)
  numbers files s = in_files (event_stands bounds) (IsNumbered bounds) numbered None files s

  pub all_within : (files : List (List Event)) → AreFiles (event_stands bounds) None files → AllFollow (λ _ e. is_within bounds e.change ≡ true) None (all_of files)
  all_within files s = in_files (event_stands bounds) (λ _ e. is_within bounds e.change ≡ true) (λ last place e h. let p = event_parts last place e h in p.2) None files s

  -- ---- one file

  few_events : (last : Option Event) (place : ℕ) (events : List Event) → AllStand (event_stands bounds) last place events → place ≤ 256 → place + length events ≤ 256
  few_events last place [] s le = omega (arith, le)
  few_events last place (x ∷ xs) s le =
      let p = event_parts last place x s.0 in
      let lt : place < 256 = ltb-true _ _ p.0 in
      let others : suc place + length xs ≤ 256 = few_events (Some x) (suc place) xs s.1 (omega (arith, lt)) in
      omega (arith, others)

  pub event_count : (last : Option Event) (file : List Event) → IsFile (event_stands bounds) last file → IsEventCount file
  event_count last [] f = absurd (f.0 refl)
  event_count last (x ∷ xs) f = (omega arith, omega (arith, few_events last 0 (x ∷ xs) f.1 (omega arith)))

  shared : (last item : Item) (before : ℕ) → may_share (Some last) (suc before) item ≡ true → (is_part last ≡ true) × (is_part item ≡ true) × (suc before < 64)
  shared last item before e =
      let a = and_parts (is_part last && is_part item) (nat_lt (suc before) 64) e in
      let b = and_parts (is_part last) (is_part item) a.0 in
      (b.0, b.1, ltb-true _ _ a.1)

  alone : (x : Item) (xs : List Item) → is_part x ≡ false → AllStand (item_stands bounds) (Some x) 1 xs → xs ≡ []
  alone x [] not s = refl
  alone x (y ∷ ys) not s =
      let p = item_parts (Some x) 1 y s.0 in
      let h = shared x y 0 p.1 in
      absurd (false≢true (sym not ∙ h.0))

  first_by : (x : Item) (xs : List Item) → follows bounds None x ≡ true → AllStand (item_stands bounds) (Some x) 1 xs → IsDatabaseFile bounds (x ∷ xs)
  first_by (Db at born rec) xs e s =
      (at, rec, ap (λ (items : List Item). Db at born rec ∷ items) (alone (Db at born rec) xs refl s) ∙ ap (λ (n : ℕ). Db at n rec ∷ []) (eqb-true born bounds.born e))
  first_by (Table at table born rec) xs e s = absurd (false≢true e)
  first_by (Part at table born values rec) xs e s = absurd (false≢true e)

  pub first_file : (file : List Item) → IsFile (item_stands bounds) None file → IsDatabaseFile bounds file
  first_file [] f = absurd (f.0 refl)
  first_file (x ∷ xs) f = let p = item_parts None 0 x f.1.0 in first_by x xs p.0 f.1.1

  all_parts : (x : Item) (place : ℕ) (xs : List Item) → AllStand (item_stands bounds) (Some x) (suc place) xs → place < 64 → AllByRecursion (λ item. is_part item ≡ true) xs × (suc place + length xs ≤ 64)
  all_parts x place [] s lt = (tt, omega (arith, lt))
  all_parts x place (y ∷ ys) s lt =
      let p = item_parts (Some x) (suc place) y s.0 in
      let h = shared x y place p.1 in
      let others = all_parts y (suc place) ys s.1 h.2 in
      ((h.1, others.0), omega (arith, others.1))

  later_by : (last x : Item) (xs : List Item) → follows bounds (Some last) x ≡ true → AllStand (item_stands bounds) (Some x) 1 xs → IsTableFile (x ∷ xs) ⊎ IsPartFile (x ∷ xs)
  later_by last (Db at born rec) xs e s = absurd (false≢true e)
  later_by last (Table at table born rec) xs e s = inl (at, table, born, rec, ap (λ (items : List Item). Table at table born rec ∷ items) (alone (Table at table born rec) xs refl s))
  later_by last (Part at table born values rec) xs e s =
      let others = all_parts (Part at table born values rec) 0 xs s (omega arith) in
      inr (record { some = omega arith; few = omega (arith, others.1); parts = (refl, others.0) })

  pub later_file : (last : Item) (file : List Item) → IsFile (item_stands bounds) (Some last) file → IsTableFile file ⊎ IsPartFile file
  later_file last [] f = absurd (f.0 refl)
  later_file last (x ∷ xs) f = let p = item_parts (Some last) 0 x f.1.0 in later_by last x xs p.0 f.1.1

  -- ---- names and partitions

  abbrev Follows : Option Item → Item → Type 0
  Follows last item = follows bounds last item ≡ true

  name_of : Option Item → Option (List ℕ)
  name_of None = None
  name_of (Some (Db at born rec)) = None
  name_of (Some (Table at table born rec)) = Some table
  name_of (Some (Part at table born values rec)) = Some table

  name_rises : (last : Option Item) (at : ℕ) (name : List ℕ) (born : ℕ) (rec : _) → Follows last (Table at name born rec) → rises (slice_cmp nat_cmp) (name_of last) name ≡ true
  unfolding name_of
  name_rises None at name born rec e = absurd (false≢true e)
  name_rises (Some (Db a b r)) at name born rec e = refl
  name_rises (Some (Table a t b r)) at name born rec e = e
  name_rises (Some (Part a t b v r)) at name born rec e = e

  same_name : (table name : List ℕ) → bytes_eq table name ≡ true → table ≡ name
  same_name table name e = let d = bytes_eq-Decides table name in d.0 e

  name_stays : (last : Option Item) (at : ℕ) (name : List ℕ) (born : ℕ) (values : List (List ℕ)) (rec : _) → Follows last (Part at name born values rec) → name_of last ≡ Some name
  unfolding name_of
  name_stays None at name born values rec e = absurd (false≢true e)
  name_stays (Some (Db a b r)) at name born values rec e = absurd (false≢true e)
  name_stays (Some (Table a t b r)) at name born values rec e = let p = and_parts (bytes_eq t name) (b == born) e in ap (λ (n : List ℕ). Some n) (same_name t name p.0)
  name_stays (Some (Part a t b v r)) at name born values rec e =
      let q = and_parts (bytes_eq t name && b == born) (is_lt (slice_cmp (slice_cmp nat_cmp) v values)) e in
      let p = and_parts (bytes_eq t name) (b == born) q.0 in
      ap (λ (n : List ℕ). Some n) (same_name t name p.0)

  none_named : (last : Option Item) (at born : ℕ) (rec : _) → Follows last (Db at born rec) → name_of last ≡ None
  unfolding name_of
  none_named None at born rec e = refl
  none_named (Some x) at born rec e = absurd (false≢true e)

  names_rise : (last : Option Item) (items : List Item) → AllFollow Follows last items → NamesRise (name_of last) (table_names items)
  unfolding name_of
  names_rise last [] s = tt
  names_rise last (Db at born rec ∷ items) s = subst (λ (o : Option (List ℕ)). NamesRise o (table_names items)) (sym (none_named last at born rec s.0)) (names_rise (Some (Db at born rec)) items s.1)
  names_rise last (Table at name born rec ∷ items) s = (name_rises last at name born rec s.0, names_rise (Some (Table at name born rec)) items s.1)
  names_rise last (Part at name born values rec ∷ items) s =
      subst (λ (o : Option (List ℕ)). NamesRise o (table_names items)) (sym (name_stays last at name born values rec s.0)) (names_rise (Some (Part at name born values rec)) items s.1)

  in_order : (files : List (List Item)) → AreFiles (item_stands bounds) None files → AllFollow Follows None (all_of files)
  in_order files s = in_files (item_stands bounds) Follows (λ last place item e. let p = item_parts last place item e in p.0) None files s

  pub names : (files : List (List Item)) → AreFiles (item_stands bounds) None files → NamesRise None (table_names (all_of files))
  unfolding name_of
  names files s = names_rise None (all_of files) (in_order files s)

  walked : Option Item → Option Walked
  walked None = None
  walked (Some (Db at born rec)) = None
  walked (Some (Table at table born rec)) = Some ((table, born), None)
  walked (Some (Part at table born values rec)) = Some ((table, born), Some values)

  abbrev Goes : Option Walked → List ℕ → ℕ → List (List ℕ) → Type 0
  Goes table name born values = (before : Option (List (List ℕ))) × (table ≡ Some ((name, born), before)) × (rises (slice_cmp (slice_cmp nat_cmp)) before values ≡ true)

  part_goes : (last : Option Item) (at : ℕ) (name : List ℕ) (born : ℕ) (values : List (List ℕ)) (rec : _) → Follows last (Part at name born values rec) → Goes (walked last) name born values
  unfolding walked
  part_goes None at name born values rec e = absurd (false≢true e)
  part_goes (Some (Db a b r)) at name born values rec e = absurd (false≢true e)
  part_goes (Some (Table a t b r)) at name born values rec e =
      let p = and_parts (bytes_eq t name) (b == born) e in
      (None, ap (λ (n : List ℕ). Some ((n, b), None)) (same_name t name p.0) ∙ ap (λ (n : ℕ). Some ((name, n), None)) (eqb-true b born p.1), refl)
  part_goes (Some (Part a t b v r)) at name born values rec e =
      let q = and_parts (bytes_eq t name && b == born) (is_lt (slice_cmp (slice_cmp nat_cmp) v values)) e in
      let p = and_parts (bytes_eq t name) (b == born) q.0 in
      (Some v, ap (λ (n : List ℕ). Some ((n, b), Some v)) (same_name t name p.0) ∙ ap (λ (n : ℕ). Some ((name, n), Some v)) (eqb-true b born p.1), q.1)

  parts_stand : (last : Option Item) (items : List Item) → AllFollow Follows last items → PartsStand (walked last) items
  unfolding walked
  parts_stand last [] s = tt
  parts_stand last (Db at born rec ∷ items) s = parts_stand (Some (Db at born rec)) items s.1
  parts_stand last (Table at name born rec ∷ items) s = parts_stand (Some (Table at name born rec)) items s.1
  parts_stand last (Part at name born values rec ∷ items) s =
      let p = part_goes last at name born values rec s.0 in
      (p.0, p.1, p.2, parts_stand (Some (Part at name born values rec)) items s.1)

  pub parts : (files : List (List Item)) → AreFiles (item_stands bounds) None files → PartsStand None (all_of files)
  unfolding walked
  parts files s = parts_stand None (all_of files) (in_order files s)
