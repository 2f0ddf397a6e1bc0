-- What a writer does that puts a file, or is told an answer.
use Rattle.std.proofs.Common.{◌≡◌, ℕ, Bool, true, false, List, [], ◌∷◌, ◌++◌, Option, Some, None, refl, sym, ◌∙◌, ap, inl, inr, arith}
use Rattle.std.specs.Prelude.{if◌then◌else◌}
use Rattle.std.specs.BTreeMap.{insert_entry}
use Rattle.std.specs.Cmp.Lexicographic.{slice_cmp}
use Rattle.std.specs.Ordering.{nat_cmp}
use Rattle.std.proofs.lemmas.List.{append-nil}
use Rattle.cat_types.specs.declared.changes.Event.{Event}
use Rattle.cat_types.specs.declared.items.Item.{Item}
use Rattle.cat_types.specs.declared.items.Item.TheVariants as item
use Rattle.cat_types.specs.declared.steps.Answer.TheVariants as answer
use Rattle.desk.specs.Walks.{Place, done, last_number, last_values}
use Rattle.desk.specs.Walks as walk
use Rattle.dump_manifest.specs.declared.manifest.FileLine.{FileLine}
use Rattle.dump_texts.specs.Texts.{at_path, events_text, items_text, line_of, name_at, path_in}
use Rattle.dump_texts.specs.declared.kinds.FileKind.{FileKind}
use Rattle.dump_texts.specs.declared.kinds.FileKind.TheVariants.{EventFile, ItemFile}
use Rattle.hms_outside.specs.Folders.{file}
use Rattle.hms_outside.specs.Told.{Goes}
use Rattle.repl_dump.specs.Files.{Files, Gained, HasPut, IsTold, OthersStay}
use Rattle.repl_dump.specs.Turns.{Arrives, Breaks, IsOwn, IsTable, place_of}
use Rattle.repl_dump.specs.declared.failure.Failure.{Failure}
use Rattle.repl_dump.specs.declared.place.Place.{Place as At}
use Rattle.repl_dump.specs.declared.writer.Writer.{Writer}
use Rattle.repl_dump.proofs.Putting.{gained_none, gained_one, put_others}

-- ---- one file

pub put_text : (dir : List ℕ) (entry : List ℕ × List ℕ) (path bytes : List ℕ) (before after : Option Files) → path ≡ path_in dir entry.0 → bytes ≡ entry.1
    → Goes (λ files later. later ≡ insert_entry (slice_cmp nat_cmp) files path bytes) before after → Goes (Gained (at_path dir entry ∷ [])) before after
put_text dir entry path bytes None after p d h = tt
put_text dir entry path bytes (Some f) None p d h = h
put_text dir entry path bytes (Some f) (Some g) p d h =
    gained_one f g (path_in dir entry.0) entry.1 (h ∙ (ap (λ n. insert_entry (slice_cmp nat_cmp) f n bytes) p ∙ ap (λ b. insert_entry (slice_cmp nat_cmp) f (path_in dir entry.0) b) d))

pub put_stays : (dir : List ℕ) (kind : FileKind) (place : ℕ) (path bytes : List ℕ) (before after : Option Files) → path ≡ path_in dir (name_at kind place)
    → Goes (λ files later. later ≡ insert_entry (slice_cmp nat_cmp) files path bytes) before after → Goes (OthersStay dir) before after
put_stays dir kind place path bytes None after p h = tt
put_stays dir kind place path bytes (Some f) None p h = h
put_stays dir kind place path bytes (Some f) (Some g) p h = λ other apart. ap (λ (files : Files). file files other) h ∙ put_others f path bytes other (λ q. apart kind place (q ∙ p))

pub same_line : (files new : List FileLine) (name bytes its all : List ℕ) → name ≡ its → bytes ≡ all → new ≡ files ++ line_of (name, bytes) ∷ [] → new ≡ files ++ line_of (its, all) ∷ []
same_line files new name bytes its all p d h = h ∙ (ap (λ n. files ++ line_of (n, bytes) ∷ []) p ∙ ap (λ b. files ++ line_of (its, b) ∷ []) d)

-- ---- answers

no_text : (before : Option Files) → Goes (Gained []) before before
no_text None = tt
no_text (Some files) = gained_none files files refl

pub told_table : (table : Item) (old new : Writer) (before after : Option Files) → HasPut ItemFile (items_text (table ∷ [])) old new before after → IsTold (answer.Table table) old new before after
told_table table old new before after h = record { dir_stays = h.dir_stays; end_is = h.end_stays; lines = h.lines; items = h.items; events = h.events; text = h.text }

pub told_no_table : (writer : Writer) (before : Option Files) → IsTold answer.NoTable writer writer before before
told_no_table writer before = record { dir_stays = refl; end_is = refl; lines = sym (append-nil writer.files); items = omega arith; events = omega arith; text = no_text before }

pub told_parts : (items : List Item) (more : Bool) (old new : Writer) (before after : Option Files) → (items ≡ [] → ⊥) → HasPut ItemFile (items_text items) old new before after → IsTold (answer.Parts items more) old new before after
told_parts [] more old new before after some h = absurd (some refl)
told_parts (x ∷ xs) more old new before after some h = record { dir_stays = h.dir_stays; end_is = h.end_stays; lines = h.lines; items = h.items; events = h.events; text = h.text }

pub told_no_parts : (items : List Item) (more : Bool) (writer : Writer) (before : Option Files) → items ≡ [] → IsTold (answer.Parts items more) writer writer before before
told_no_parts [] more writer before none = record { dir_stays = refl; end_is = refl; lines = sym (append-nil writer.files); items = omega arith; events = omega arith; text = no_text before }
told_no_parts (x ∷ xs) more writer before none = absurd cc

pub told_events : (events : List Event) (more : Bool) (old new : Writer) (before after : Option Files) → (events ≡ [] → ⊥) → HasPut EventFile (events_text events) old new before after → IsTold (answer.Events events more) old new before after
told_events [] more old new before after some h = absurd (some refl)
told_events (x ∷ xs) more old new before after some h = record { dir_stays = h.dir_stays; end_is = h.end_stays; lines = h.lines; items = h.items; events = h.events; text = h.text }

pub told_no_events : (events : List Event) (more : Bool) (writer : Writer) (before : Option Files) → events ≡ [] → IsTold (answer.Events events more) writer writer before before
told_no_events [] more writer before none = record { dir_stays = refl; end_is = refl; lines = sym (append-nil writer.files); items = omega arith; events = omega arith; text = no_text before }
told_no_events (x ∷ xs) more writer before none = absurd cc

pub told_sealed : (number : ℕ) (old : Writer) (before : Option Files)
    → IsTold (answer.Sealed number) old (record { dir = old.dir; items = old.items; events = old.events; end = number; files = old.files }) before before
told_sealed number old before = record { dir_stays = refl; end_is = refl; lines = sym (append-nil old.files); items = omega arith; events = omega arith; text = no_text before }

-- ---- what couldn't be written

pub breaks_table : (failed : Failure) (table : Item) (begin : ℕ) (after : Option (List ℕ)) → IsOwn failed → IsTable table → Breaks failed begin (walk.tables after) (answer.Table table)
breaks_table failed (item.Table at name born rec) begin after own is =
    inr (own, (walk.parts name born None, inl (record { at = at; table = name; born = born; rec = rec; is = refl; next = refl }), λ q. absurd cc))
breaks_table failed (item.Db at born rec) begin after own is = absurd is
breaks_table failed (item.Part at name born values rec) begin after own is = absurd is

pub breaks_parts : (failed : Failure) (table : List ℕ) (born : ℕ) (after : Option (List (List ℕ))) (items : List Item) (more : Bool) (begin : ℕ) → IsOwn failed
    → Breaks failed begin (walk.parts table born after) (answer.Parts items more)
breaks_parts failed table born after items true begin own = inr (own, (walk.parts table born (last_values after items), record { items = items; more = true; is = refl; next = refl }, λ q. absurd cc))
breaks_parts failed table born after items false begin own = inr (own, (walk.tables (Some table), record { items = items; more = false; is = refl; next = refl }, λ q. absurd cc))

pub breaks_events : (failed : Failure) (after : ℕ) (events : List Event) (more : Bool) (begin : ℕ) → IsOwn failed → Breaks failed begin (walk.events after) (answer.Events events more)
breaks_events failed after events true begin own = inr (own, (walk.events (last_number after events), record { found = events; more = true; is = refl; next = refl }, λ q. absurd cc))
breaks_events failed after events false begin own = inr (own, (walk.end, record { found = events; more = false; is = refl; next = refl }, λ q. absurd cc))

-- ---- what was written

pub arrives_parts : (table : List ℕ) (born : ℕ) (after : Option (List (List ℕ))) (items : List Item) (more : Bool) (begin : ℕ) (to : At) (old new : Writer) (before later : Option Files)
    → place_of to ≡ (if more then walk.parts table born (last_values after items) else walk.tables (Some table)) → IsTold (answer.Parts items more) old new before later
    → Arrives begin (walk.parts table born after) (answer.Parts items more) to old new before later
arrives_parts table born after items more begin to old new before later next told = record { moves = record { items = items; more = more; is = refl; next = next }; told = told }

pub arrives_events : (after : ℕ) (events : List Event) (more : Bool) (begin : ℕ) (to : At) (old new : Writer) (before later : Option Files)
    → place_of to ≡ (if more then walk.events (last_number after events) else walk.end) → IsTold (answer.Events events more) old new before later
    → Arrives begin (walk.events after) (answer.Events events more) to old new before later
arrives_events after events more begin to old new before later next told = record { moves = record { found = events; more = more; is = refl; next = next }; told = told }
