-- One folder tells one dump.
use Rattle.std.proofs.Common.{◌≡◌, rules, sym, subst, ap, ◌∙◌, refl, ℕ, List, [], ◌∷◌, ◌++◌, Option, Some}
use Rattle.cat_types.specs.declared.changes.Event.{Event}
use Rattle.cat_types.specs.declared.items.Item.{Item}
use Rattle.change_codec.specs.Forms.{Form, list_of}
use Rattle.change_codec.specs.Records.{an_item, event, newest}
use Rattle.change_codec.specs.Whole.{HasOneSpelling}
use Rattle.change_codec.proofs.Lawful.{events-lawful, items-lawful}
use Rattle.change_codec.proofs.Wholes.{one_spelling}
use Rattle.dump_files.specs.Files.{Rule}
use Rattle.dump_files.specs.Rows.{all_of}
use Rattle.dump_manifest.specs.Manifests.{Fits, manifest_code}
use Rattle.dump_manifest.specs.declared.manifest.FileLine.{FileLine}
use Rattle.dump_manifest.specs.declared.manifest.Manifest.{Manifest}
use Rattle.dump_manifest.proofs.Folders.{dirs_differ}
use Rattle.dump_manifest.proofs.Readings.{manifests_one}
use Rattle.dump_format.specs.declared.dump.Dump.{Dump}
use Rattle.dump_format.specs.Dumps.{HasEventsOf, HasItemsOf, IsHead}
use Rattle.dump_format.specs.Files.{AreRead, AreThere, IsThere}
use Rattle.dump_format.specs.Laws.{DumpsAreOne}

some_same : {A : Type 0} (a b : A) → Some a ≡ Some b → a ≡ b
some_same a b same = search rules

found_same : (a b : List ℕ) (found : Option (List ℕ)) → Some a ≡ found → Some b ≡ found → a ≡ b
found_same a b found one other = some_same a b (one ∙ sym other)

module _ {T : Type 0} (files : List (List ℕ × List ℕ)) (dir : List ℕ) (form : Form T) (one : HasOneSpelling (list_of form)) where
  there_once : (line : FileLine) (xs ys : List T) → IsThere (Some files) dir form line xs → IsThere (Some files) dir form line ys → xs ≡ ys
  there_once line xs ys a b =
      let bytes : a.bytes ≡ b.bytes = found_same a.bytes b.bytes _ a.found b.found in
      let codes : (list_of form).code xs ≡ (list_of form).code ys = sym a.spelled ∙ bytes ∙ b.spelled in
      (one xs ys [] [] a.coded b.coded (ap (λ (l : List ℕ). l ++ []) codes)).0

  are_once : (lines : List FileLine) (xs ys : List (List T)) → AreThere (Some files) dir form lines xs → AreThere (Some files) dir form lines ys → xs ≡ ys
  are_once [] [] [] a b = refl
  are_once [] [] (y ∷ ys) a b = absurd b
  are_once [] (x ∷ xs) ys a b = absurd a
  are_once (l ∷ lines) [] ys a b = absurd a
  are_once (l ∷ lines) (x ∷ xs) [] a b = absurd b
  are_once (l ∷ lines) (x ∷ xs) (y ∷ ys) a b =
      ap (λ (z : List T). z ∷ xs) (there_once l x y a.0 b.0) ∙ ap (λ (zs : List (List T)). y ∷ zs) (are_once lines xs ys a.1 b.1)

  read_once : (rule : Rule T) (lines : List FileLine) (xs ys : List T) → AreRead (Some files) dir rule form lines xs → AreRead (Some files) dir rule form lines ys → xs ≡ ys
  read_once rule lines xs ys a b = a.all ∙ ap (λ (c : List (List T)). all_of c) (are_once lines a.contents b.contents a.there b.there) ∙ sym b.all

fits_as : (source : List ℕ) (dump : ℕ) (m : Manifest) → m.source ≡ source → m.dump ≡ dump → Fits m.source m.dump m → Fits source dump m
fits_as source dump m s d f = record { its_source = s; its_dump = d; db = f.db; range = f.range; born = f.born; files = f.files; names = f.names }

head_once : (files : List (List ℕ × List ℕ)) (dir : List ℕ) (m n : Manifest) → IsHead (Some files) dir m → IsHead (Some files) dir n → m ≡ n
head_once files dir m n a b =
    let same = dirs_differ m.source n.source m.dump n.dump a.called.0.0 b.called.0.0 a.called.0.1 b.called.0.1 (sym a.called.1 ∙ b.called.1) in
    manifests_one m.source m.dump m n a.called.0.0 a.fits (fits_as m.source m.dump n (sym same.0) (sym same.1) b.fits)
    (found_same (manifest_code m) (manifest_code n) _ a.found b.found)

abbrev made : Manifest → List Item → List Event → Dump
made m items events = record { manifest = m; items = items; events = events }

pub dump_once : DumpsAreOne
dump_once files dir a b one other =
    let head : a.manifest ≡ b.manifest = head_once files dir a.manifest b.manifest one.head other.head in
    let items : a.items ≡ b.items = read_once files dir (an_item newest) (one_spelling _ (items-lawful newest)) _ _ a.items b.items one.items
    (subst (λ (m : Manifest). HasItemsOf (Some files) dir m b.items) (sym head) other.items) in
    let events : a.events ≡ b.events = read_once files dir (event newest) (one_spelling _ (events-lawful newest)) _ _ a.events b.events one.events
    (subst (λ (m : Manifest). HasEventsOf (Some files) dir m b.events) (sym head) other.events) in
    ap (λ (m : Manifest). made m a.items a.events) head ∙ ap (λ (xs : List Item). made b.manifest xs a.events) items ∙ ap (λ (xs : List Event). made b.manifest b.items xs) events
