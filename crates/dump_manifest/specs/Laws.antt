-- What holds of all manifests and of the names of folders.
use Rattle.std.specs.Prelude.{◌≡◌, ℕ, List}
use Rattle.dump_manifest.specs.declared.manifest.Manifest.{Manifest}
use Rattle.dump_manifest.specs.Manifests.{Fits, IsDigest, IsWord, dir_text, manifest_code}
use Rattle.dump_manifest.specs.Reading.{Stops}

-- a text is the manifest of one manifest at most
abbrev pub ManifestsDiffer : Type 0
ManifestsDiffer = (source : List ℕ) (dump : ℕ) (m m' : Manifest) → IsDigest 16 source → Fits source dump m → Fits source dump m'
    → manifest_code m ≡ manifest_code m' → m ≡ m'

-- nothing stops a manifest
abbrev pub ManifestsAreRead : Type 0
ManifestsAreRead = (source : List ℕ) (dump : ℕ) (m : Manifest) (at : ℕ) → IsDigest 16 source → Fits source dump m → Stops source dump at (manifest_code m) → ⊥

-- two dumps have folders of different names
abbrev pub DirsDiffer : Type 0
DirsDiffer = (source source' : List ℕ) (dump dump' : ℕ) → IsDigest 16 source → IsDigest 16 source' → IsWord dump → IsWord dump'
    → dir_text source dump ≡ dir_text source' dump' → (source ≡ source') × (dump ≡ dump')
