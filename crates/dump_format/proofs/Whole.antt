-- A dump whose items and events are read one after the other.
use Rattle.std.proofs.Common.{◌≡◌, subst, ap, ◌∙◌, inl, inr, ℕ, take, drop, List, Option}
use Rattle.cat_types.specs.declared.changes.Event.{Event}
use Rattle.cat_types.specs.declared.items.Item.{Item}
use Rattle.change_codec.specs.Records.{an_item, event, newest}
use Rattle.dump_files.specs.Events.{event_stands}
use Rattle.dump_files.specs.Items.{item_stands}
use Rattle.dump_files.specs.declared.bounds.Bounds.{Bounds}
use Rattle.dump_manifest.specs.declared.manifest.FileLine.{FileLine}
use Rattle.dump_manifest.specs.declared.manifest.Manifest.{Manifest}
use Rattle.hms_outside.specs.Told.{Goes, Same}
use Rattle.dump_format.specs.declared.harm.Harm.{Harm}
use Rattle.dump_format.specs.Files.{AreRead, IsFirstHarm}
use Rattle.dump_format.specs.Dumps.{HasEventsOf, HasItemsOf, IsDamaged, IsFileDamaged, IsHead, bounds_of, event_lines, item_count, item_lines}
use Rattle.dump_format.proofs.Rows.{harm_before, read_before}

abbrev Folded : Type 0
Folded = Option (List (List ℕ × List ℕ))

module _ (m : Manifest) (bounds : Bounds) (told : bounds ≡ bounds_of m) (lines : List FileLine) (listed : lines ≡ m.files) (count : ℕ) (counted : count ≡ item_count lines) where
  counted_so : count ≡ item_count m.files
  counted_so = counted ∙ ap (λ (ls : List FileLine). item_count ls) listed

  front_is : (front : List FileLine) → front ≡ take count lines → front ≡ item_lines m
  front_is front is = is ∙ ap (λ (n : ℕ). take n lines) counted_so ∙ ap (λ (ls : List FileLine). take (item_count m.files) ls) listed

  back_is : (back : List FileLine) → back ≡ drop count lines → back ≡ event_lines m
  back_is back is = is ∙ ap (λ (n : ℕ). drop n lines) counted_so ∙ ap (λ (ls : List FileLine). drop (item_count m.files) ls) listed

  pub items_read : (files : Folded) (dir : List ℕ) (front : List FileLine) (items : List Item) → front ≡ take count lines
      → AreRead files dir (item_stands bounds) (an_item newest) front items → HasItemsOf files dir m items
  items_read files dir front items is are =
      subst (λ (ls : List FileLine). AreRead files dir (item_stands (bounds_of m)) (an_item newest) ls items) (front_is front is)
      (subst (λ (b : Bounds). AreRead files dir (item_stands b) (an_item newest) front items) told are)

  pub events_read : (a b : Folded) (dir : List ℕ) (back : List FileLine) (events : List Event) → Goes Same a b → back ≡ drop count lines
      → AreRead b dir (event_stands bounds) (event newest) back events → HasEventsOf a dir m events
  events_read a b dir back events ab is are =
      subst (λ (ls : List FileLine). AreRead a dir (event_stands (bounds_of m)) (event newest) ls events) (back_is back is)
      (subst (λ (x : Bounds). AreRead a dir (event_stands x) (event newest) back events) told (read_before a b dir _ _ back events ab are))

  pub item_harmed : (files : Folded) (dir : List ℕ) (front : List FileLine) (name : List ℕ) (harm : Harm) → front ≡ take count lines
      → IsFirstHarm files dir (item_stands bounds) (an_item newest) front name harm → IsFileDamaged files dir m name harm
  item_harmed files dir front name harm is bad =
      inl (subst (λ (ls : List FileLine). IsFirstHarm files dir (item_stands (bounds_of m)) (an_item newest) ls name harm) (front_is front is)
      (subst (λ (b : Bounds). IsFirstHarm files dir (item_stands b) (an_item newest) front name harm) told bad))

  pub event_harmed : (a b : Folded) (dir : List ℕ) (back : List FileLine) (items : List Item) (name : List ℕ) (harm : Harm) → Goes Same a b → back ≡ drop count lines
      → HasItemsOf a dir m items → IsFirstHarm b dir (event_stands bounds) (event newest) back name harm → IsFileDamaged a dir m name harm
  event_harmed a b dir back items name harm ab is are bad =
      inr (
        items,
        are,
        subst (λ (ls : List FileLine). IsFirstHarm a dir (event_stands (bounds_of m)) (event newest) ls name harm) (back_is back is)
            (subst (λ (x : Bounds). IsFirstHarm a dir (event_stands x) (event newest) back name harm) told (harm_before a b dir _ _ back name harm ab bad)),
      )

-- what is found in a folder that stayed was there before
pub items_before : (a b : Folded) (dir : List ℕ) (m : Manifest) (items : List Item) → Goes Same a b → HasItemsOf b dir m items → HasItemsOf a dir m items
items_before a b dir m items ab are = read_before a b dir _ _ (item_lines m) items ab are

pub events_before : (a b : Folded) (dir : List ℕ) (m : Manifest) (events : List Event) → Goes Same a b → HasEventsOf b dir m events → HasEventsOf a dir m events
events_before a b dir m events ab are = read_before a b dir _ _ (event_lines m) events ab are

file_before : (a b : Folded) (dir : List ℕ) (m : Manifest) (name : List ℕ) (harm : Harm) → Goes Same a b → IsFileDamaged b dir m name harm → IsFileDamaged a dir m name harm
file_before a b dir m name harm ab (inl bad) = inl (harm_before a b dir _ _ (item_lines m) name harm ab bad)
file_before a b dir m name harm ab (inr (items, are, bad)) = inr (items, items_before a b dir m items ab are, harm_before a b dir _ _ (event_lines m) name harm ab bad)

-- a file that the manifest lists is damaged
pub file_damaged : (a b : Folded) (dir : List ℕ) (m : Manifest) (name : List ℕ) (harm : Harm) → Goes Same a b → IsHead a dir m → IsFileDamaged b dir m name harm → IsDamaged a dir name harm
file_damaged a b dir m name harm ab head bad = inr (m, head, file_before a b dir m name harm ab bad)
