-- A manifest that stands in its folder.
use Rattle.std.proofs.Common.{sym, subst, refl, ℕ, List, Option, None, Some, Result, Ok, Err, IfOk}
use Rattle.hms_outside.specs.Folders.{Gets}
use Rattle.hms_outside.specs.declared.outage.Outage.{Outage}
use Rattle.dump_manifest.specs.Manifests.{Fits}
use Rattle.dump_manifest.specs.Reading.{IsReadAs, dir_of}
use Rattle.dump_manifest.specs.declared.manifest.Manifest.{Manifest}
use Rattle.dump_format.specs.declared.harm.Harm.{Harm}
use Rattle.dump_format.specs.declared.harm.Harm.TheVariants.{Absent, Length, Digest, Grammar}
use Rattle.dump_format.specs.Harms.{IsFound, path}
use Rattle.dump_format.specs.Dumps.{IsHeadJudged, IsHeadTaken, manifest_name}

abbrev Folded : Type 0
Folded = Option (List (List ℕ × List ℕ))

-- what a folder answered is there
pub got : (a b : Folded) (name : List ℕ) (found : Option (List ℕ)) → Gets a b name (Ok found) → IsFound a name found
got None b name found gets = tt
got (Some x) None name found gets = absurd gets
got (Some x) (Some y) name found gets = gets.1

fits_itself : (source : List ℕ) (dump : ℕ) (m : Manifest) → Fits source dump m → Fits m.source m.dump m
fits_itself source dump m f = record { its_source = refl; its_dump = refl; db = f.db; range = f.range; born = f.born; files = f.files; names = f.names }

called_so : (dir source : List ℕ) (dump : ℕ) (m : Manifest) → Fits source dump m → IsReadAs dir_of dir (Some (source, dump)) → IsReadAs dir_of dir (Some (m.source, m.dump))
called_so dir source dump m f called =
    subst (λ (n : ℕ). IsReadAs dir_of dir (Some (m.source, n))) (sym f.its_dump)
    (subst (λ (s : List ℕ). IsReadAs dir_of dir (Some (s, dump))) (sym f.its_source) called)

head_taken : (files : Folded) (dir source : List ℕ) (dump : ℕ) (text : List ℕ) (head : Result Manifest Harm) → IsReadAs dir_of dir (Some (source, dump)) → IsFound files (path dir manifest_name) (Some text)
    → IsHeadJudged source dump text head → IsHeadTaken files dir head
head_taken files dir source dump text (Ok m) called found judged = record {
  called = called_so dir source dump m judged.1 called;
  fits = fits_itself source dump m judged.1;
  found = subst (λ (t : List ℕ). IsFound files (path dir manifest_name) (Some t)) judged.0 found;
}
head_taken files dir source dump text (Err Absent) called found judged = absurd judged
head_taken files dir source dump text (Err Length) called found judged = absurd judged
head_taken files dir source dump text (Err Digest) called found judged = absurd judged
head_taken files dir source dump text (Err (Grammar at)) called found judged = (source, dump, text, called, found, judged)

-- what was judged is what stands there
pub taken : (files : Folded) (dir source : List ℕ) (dump : ℕ) (text : List ℕ) (r : Result (Result Manifest Harm) Outage) → IsReadAs dir_of dir (Some (source, dump)) → IsFound files (path dir manifest_name) (Some text)
    → IfOk r (λ head. IsHeadJudged source dump text head) → IfOk r (λ head. IsHeadTaken files dir head)
taken files dir source dump text (Ok head) called found judged = head_taken files dir source dump text head called found judged
taken files dir source dump text (Err f) called found judged = judged
