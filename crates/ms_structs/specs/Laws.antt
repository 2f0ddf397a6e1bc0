-- What a struct says, in plainer words than the fold over its fields.
use Rattle.std.specs.Prelude.{◌≡◌, ◌↔◌, ◌⊎◌, ℕ, ℤ, pos, List, Option, None, Some, ⊤, if◌then◌else◌}
use Rattle.std.specs.Cmp.Lexicographic.{slice_cmp}
use Rattle.std.specs.List.{AllByRecursion}
use Rattle.std.specs.List.Sorted.{IsStrictlySortedBy}
use Rattle.std.specs.Map.{keys_of, lookup}
use Rattle.std.specs.Ordering.{nat_cmp}
use Rattle.std.specs.Str.{IsUtf8, bytes_eq}
use Rattle.cat_values.specs.declared.records.DbRec.{DbRec}
use Rattle.ms_structs.specs.declared.got.Got.{Got}
use Rattle.ms_structs.specs.declared.got.Got.TheVariants.{BadText, Is}
use Rattle.ms_structs.specs.Written.{database_fields}
use Rattle.thrift_binary.specs.Codes.{map_code, text_code}
use Rattle.thrift_binary.specs.Tree.{Wire, Bytes, Entries, NoEntries, Entry, Fields, Pairs, Struct}
use Rattle.ms_structs.specs.Slots.{only, said}
use Rattle.ms_structs.specs.Values.{params_of, text_of}
use Rattle.ms_structs.specs.Database.{database_made, database_of, database_whole}

-- a database is made of what the last field with each known id says, of those that say something
abbrev pub DatabaseIsSaid : Type 0
DatabaseIsSaid = (v : Fields) → database_made v ≡ database_whole (record {
  name = said (pos 1) text_code text_of v;
  description = said (pos 2) text_code text_of v;
  location = said (pos 3) text_code text_of v;
  params = said (pos 4) map_code params_of v;
  owner = said (pos 6) text_code text_of v;
})

-- structs that have the same fields under each id, whatever stands between them, say the same
abbrev pub OrderIsFree : {A : Type 0} → (Wire → Got A) → Type 0
OrderIsFree means = (v v' : Fields) → ((key : ℤ) → only key v ≡ only key v') → means (Struct v) ≡ means (Struct v')

-- a text in UTF-8, if any
abbrev pub IsTextOrNone : Option (List ℕ) → Type 0
IsTextOrNone None = ⊤
IsTextOrNone (Some text) = IsUtf8 text

-- pairs of texts in UTF-8
abbrev pub ArePairs : List (List ℕ × List ℕ) → Type 0
ArePairs = AllByRecursion (λ pair. IsUtf8 pair.0 × IsUtf8 pair.1)

-- what holds of every record in memory: its texts are UTF-8, and its parameters stand in rising order of their keys
pub record IsKept (rec : DbRec) : Type 0 where
  pub description : IsTextOrNone rec.description
  pub location : IsTextOrNone rec.location
  pub owner : IsTextOrNone rec.owner
  pub params : ArePairs rec.params
  pub sorted : IsStrictlySortedBy (slice_cmp nat_cmp) (keys_of rec.params)

-- a database that is written reads back as it was
abbrev pub WrittenIsRead : Type 0
WrittenIsRead = (name : List ℕ) (rec : DbRec) → IsUtf8 name → IsKept rec → database_of (Struct (database_fields name rec)) ≡ Is (record { name = Some name; rec = rec })

-- a text on the wire, in UTF-8 or not
abbrev pub IsTextBytes : Wire → Type 0
IsTextBytes (Bytes text) = ⊤
IsTextBytes w = ⊥

-- pairs of texts on the wire
abbrev pub AreTextBytes : Entries → Type 0
AreTextBytes NoEntries = ⊤
AreTextBytes (Entry key value ps) = IsTextBytes key × IsTextBytes value × AreTextBytes ps

-- the text of the last pair with this key, or else this one
abbrev pub last_text : List ℕ → Option (List ℕ) → Entries → Option (List ℕ)
last_text key before NoEntries = before
last_text key before (Entry (Bytes k) (Bytes text) ps) = last_text key (if bytes_eq key k then Some text else before) ps
last_text key before (Entry k w ps) = last_text key before ps

-- of the pairs of a map from texts to texts the last one with a key counts
abbrev pub LastPairCounts : Type 0
LastPairCounts = (ps : Entries) (params : List (List ℕ × List ℕ)) (key : List ℕ) → AreTextBytes ps → params_of (Pairs text_code text_code ps) ≡ Is params → lookup (bytes_eq key) params ≡ last_text key None ps

-- some key isn't UTF-8
abbrev pub HasBadKey : Entries → Type 0
HasBadKey NoEntries = ⊥
HasBadKey (Entry (Bytes key) w ps) = (IsUtf8 key → ⊥) ⊎ HasBadKey ps
HasBadKey (Entry k w ps) = HasBadKey ps

-- the last value of some key isn't UTF-8
abbrev pub HasBadValue : Entries → Type 0
HasBadValue ps = (key text : List ℕ) × (last_text key None ps ≡ Some text) × (IsUtf8 text → ⊥)

-- a map from texts to texts is a bad text exactly where some key isn't UTF-8, or the last value of some key isn't
abbrev pub BadMapsAreTold : Type 0
BadMapsAreTold = (ps : Entries) → AreTextBytes ps → (params_of (Pairs text_code text_code ps) ≡ BadText) ↔ (HasBadKey ps ⊎ HasBadValue ps)
