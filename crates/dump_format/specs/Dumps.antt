-- A whole dump in its folder.
use Rattle.std.specs.Prelude.{◌≡◌, ◌==◌, ◌⊎◌, ℕ, suc, List, [], ◌∷◌, Bool, false, cond, codes, take, drop, Option, None, Some, Result, Ok, Err}
use Rattle.change_codec.specs.Records.{an_item, event, newest}
use Rattle.dump_files.specs.Events.{event_stands}
use Rattle.dump_files.specs.Items.{item_stands}
use Rattle.dump_files.specs.declared.bounds.Bounds.{Bounds}
use Rattle.dump_manifest.specs.Manifests.{Fits, manifest_code}
use Rattle.dump_manifest.specs.Reading.{IsReadAs, Stops, dir_of}
use Rattle.dump_manifest.specs.declared.manifest.FileLine.{FileLine}
use Rattle.dump_manifest.specs.declared.manifest.Manifest.{Manifest}
use Rattle.cat_types.specs.declared.changes.Event.{Event}
use Rattle.cat_types.specs.declared.items.Item.{Item}
use Rattle.dump_format.specs.Files.{AreRead, IsFirstHarm}
use Rattle.dump_format.specs.Harms.{IsFound, path}
use Rattle.dump_format.specs.declared.dump.Dump.{Dump}
use Rattle.dump_format.specs.declared.harm.Harm.{Harm}
use Rattle.dump_format.specs.declared.harm.Harm.TheVariants.{Absent, Length, Digest, Grammar}

-- the manifest's own name in the dump's folder
abbrev pub manifest_name : List ℕ
manifest_name = codes "manifest"

-- the folder's name is that of the manifest's dump, and the manifest stands in it as a manifest of this dump
pub record IsHead (files : Option (List (List ℕ × List ℕ))) (dir : List ℕ) (m : Manifest) : Type 0 where
  pub called : IsReadAs dir_of dir (Some (m.source, m.dump))
  pub fits : Fits m.source m.dump m
  pub found : IsFound files (path dir manifest_name) (Some (manifest_code m))

-- no dump's folder has this name, or the manifest is absent, or a line of it breaks a rule at this offset
abbrev pub IsHeadHarm : Option (List (List ℕ × List ℕ)) → List ℕ → Harm → Type 0
IsHeadHarm files dir Absent = IsReadAs dir_of dir None ⊎ IsFound files (path dir manifest_name) None
IsHeadHarm files dir Length = ⊥
IsHeadHarm files dir Digest = ⊥
IsHeadHarm files dir (Grammar at) =
    (source : List ℕ) × (dump : ℕ) × (text : List ℕ) × IsReadAs dir_of dir (Some (source, dump)) × IsFound files (path dir manifest_name) (Some text) × Stops source dump at text

-- the manifest is the damaged file
abbrev pub IsHeadDamaged : Option (List (List ℕ × List ℕ)) → List ℕ → List ℕ → Harm → Type 0
IsHeadDamaged files dir name harm = (name ≡ manifest_name) × IsHeadHarm files dir harm

-- a manifest that stands there, or its harm
abbrev pub IsHeadTaken : Option (List (List ℕ × List ℕ)) → List ℕ → Result Manifest Harm → Type 0
IsHeadTaken files dir (Ok m) = IsHead files dir m
IsHeadTaken files dir (Err harm) = IsHeadHarm files dir harm

-- a manifest that this text is, or its harm
abbrev pub IsHeadJudged : List ℕ → ℕ → List ℕ → Result Manifest Harm → Type 0
IsHeadJudged source dump text (Ok m) = (text ≡ manifest_code m) × Fits source dump m
IsHeadJudged source dump text (Err Absent) = ⊥
IsHeadJudged source dump text (Err Length) = ⊥
IsHeadJudged source dump text (Err Digest) = ⊥
IsHeadJudged source dump text (Err (Grammar at)) = Stops source dump at text

-- the name of a file of items begins with an `i`
abbrev pub begins_i : List ℕ → Bool
begins_i [] = false
begins_i (b ∷ bytes) = b == 105

-- how many lines of files of items stand in front
abbrev pub item_count : List FileLine → ℕ
item_count [] = 0
item_count (line ∷ lines) = cond (begins_i line.name) (suc (item_count lines)) 0

-- the lines of files of items stand first, and those of events after them
abbrev pub item_lines : Manifest → List FileLine
item_lines m = take (item_count m.files) m.files

abbrev pub event_lines : Manifest → List FileLine
event_lines m = drop (item_count m.files) m.files

-- what a manifest tells that items and events are judged against
abbrev pub bounds_of : Manifest → Bounds
bounds_of m = record { db = m.db; begin = m.begin; end = m.end; born = m.born }

-- these are the items of the files of items, and these the events of the files of events
abbrev pub HasItemsOf : Option (List (List ℕ × List ℕ)) → List ℕ → Manifest → List Item → Type 0
HasItemsOf files dir m items = AreRead files dir (item_stands (bounds_of m)) (an_item newest) (item_lines m) items

abbrev pub HasEventsOf : Option (List (List ℕ × List ℕ)) → List ℕ → Manifest → List Event → Type 0
HasEventsOf files dir m events = AreRead files dir (event_stands (bounds_of m)) (event newest) (event_lines m) events

-- the dump stands in the folder with this name: its manifest, the files of its items, and those of its events
pub record IsDump (files : Option (List (List ℕ × List ℕ))) (dir : List ℕ) (dump : Dump) : Type 0 where
  pub head : IsHead files dir dump.manifest
  pub items : HasItemsOf files dir dump.manifest dump.items
  pub events : HasEventsOf files dir dump.manifest dump.events

-- the first file of items that is not good has this name and harm; or all are good, and it is the first of events
abbrev pub IsFileDamaged : Option (List (List ℕ × List ℕ)) → List ℕ → Manifest → List ℕ → Harm → Type 0
IsFileDamaged files dir m name harm =
    IsFirstHarm files dir (item_stands (bounds_of m)) (an_item newest) (item_lines m) name harm
    ⊎ ((items : List Item) × HasItemsOf files dir m items × IsFirstHarm files dir (event_stands (bounds_of m)) (event newest) (event_lines m) name harm)

-- the first harm in the order of the checks: the manifest's, or of a file that the manifest tells
abbrev pub IsDamaged : Option (List (List ℕ × List ℕ)) → List ℕ → List ℕ → Harm → Type 0
IsDamaged files dir name harm = IsHeadDamaged files dir name harm ⊎ ((m : Manifest) × IsHead files dir m × IsFileDamaged files dir m name harm)
