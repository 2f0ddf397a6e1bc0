-- The laws on replayed events.
use Rattle.std.specs.Prelude.{◌≡◌, ℕ, ◌<◌, ◌≤◌, Bool, true, List, [], ◌++◌, Some, filter}
use Rattle.std.specs.List.{AllByRecursion}
use Rattle.cat_types.specs.declared.changes.Change.{Change}
use Rattle.cat_types.specs.declared.changes.Event.{Event}
use Rattle.cat_types.specs.declared.changes.Op.{Op}
use Rattle.replicas.specs.Objects.{Name, Objects, Replica, SameMarks, SameObjects, Values}
use Rattle.cat_values.specs.declared.records.PartRec.{PartRec}
use Rattle.replicas.specs.Keeping.{IsRooted, KeepsNewer, MarksGrow, MarksTell, SamePart}
use Rattle.replicas.specs.Life.{HasDb, Life, ops_of, AreNumbered, is_of, is_above}
use Rattle.replicas.specs.Source.{AllApart, Source, NoMoves}
use Rattle.replicas.specs.Stands.{StandsEvents, StandsLive, ReplaysAll, ReplaysEvents, Quiet, AreEvents, reached}

-- what is asked of an operation alone, whatever stands: names, columns and values by their rules
abbrev pub Passes : (Op → Bool) → Op → Type 0
Passes test op = test op ≡ true

-- the next event of the database keeps what a half-loaded replica stands for
abbrev pub EventKeeps : Type 0
EventKeeps = (test : Op → Bool) (after : ℕ → Objects) (ops : ℕ → List Op) (made newest begin at n end : ℕ) (r r' : Replica)
    → Source (Passes test) after ops made newest → NoMoves ops begin end → made ≤ begin → end ≤ newest → at < n → n ≤ end → ((k : ℕ) → at < k → k < n → ops k ≡ [])
    → ReplaysAll (Passes test) n (ops n) r r' → StandsEvents after begin at end r → StandsEvents after begin n end r'

-- and what a live one stands for, moves among its operations
abbrev pub LiveEventKeeps : Type 0
LiveEventKeeps = (test : Op → Bool) (after : ℕ → Objects) (ops : ℕ → List Op) (made newest at n : ℕ) (r r' : Replica)
    → Source (Passes test) after ops made newest → made ≤ at → at < n → n ≤ newest → ((k : ℕ) → at < k → k < n → ops k ≡ [])
    → ReplaysAll (Passes test) n (ops n) r r' → StandsLive after at r → StandsLive after n r'

-- behind its last event a half-loaded replica is live at the end
abbrev pub EventsThenLive : Type 0
EventsThenLive = (test : Op → Bool) (after : ℕ → Objects) (ops : ℕ → List Op) (made newest begin at end : ℕ) (r : Replica)
    → Source (Passes test) after ops made newest → made ≤ begin → end ≤ newest → Quiet ops at end → StandsEvents after begin at end r → StandsLive after end r

-- all events of a bootstrap folder that are left, and the last step
abbrev pub FolderGoesLive : Type 0
FolderGoesLive = (test : Op → Bool) (after : ℕ → Objects) (ops : ℕ → List Op) (made newest begin at end : ℕ) (events : List Event) (r r' : Replica)
    → Source (Passes test) after ops made newest → NoMoves ops begin end → made ≤ begin → end ≤ newest → AreEvents ops at end events
    → ReplaysEvents (Passes test) events r r' → StandsEvents after begin at end r → StandsLive after end r'

-- all events of a folder above a live replica's position, and the last step
abbrev pub FolderStaysLive : Type 0
FolderStaysLive = (test : Op → Bool) (after : ℕ → Objects) (ops : ℕ → List Op) (made newest at end : ℕ) (events : List Event) (r r' : Replica)
    → Source (Passes test) after ops made newest → made ≤ at → at ≤ end → end ≤ newest → AreEvents ops at end events
    → ReplaysEvents (Passes test) events r r' → StandsLive after at r → StandsLive after end r'

-- behind any of its events a load may stop; what is left of the folder are its events above the position
abbrev pub FolderMayStop : Type 0
FolderMayStop = (test : Op → Bool) (after : ℕ → Objects) (ops : ℕ → List Op) (made newest begin at end : ℕ) (events rest : List Event) (r r' : Replica)
    → Source (Passes test) after ops made newest → NoMoves ops begin end → made ≤ begin → end ≤ newest → AreEvents ops at end (events ++ rest)
    → ReplaysEvents (Passes test) events r r' → StandsEvents after begin at end r
    → StandsEvents after begin (reached at events) end r' × AreEvents ops (reached at events) end rest × (filter (is_above (reached at events)) (events ++ rest) ≡ rest)

-- and so may a load into a live replica
abbrev pub LiveFolderMayStop : Type 0
LiveFolderMayStop = (test : Op → Bool) (after : ℕ → Objects) (ops : ℕ → List Op) (made newest at end : ℕ) (events rest : List Event) (r r' : Replica)
    → Source (Passes test) after ops made newest → made ≤ at → end ≤ newest → AreEvents ops at end (events ++ rest)
    → ReplaysEvents (Passes test) events r r' → StandsLive after at r
    → StandsLive after (reached at events) r' × AreEvents ops (reached at events) end rest × (filter (is_above (reached at events)) (events ++ rest) ≡ rest)

-- ---- over the source's events as they came, numbered from its base

-- from the event that made it on, a database with a born is a source, whose operations are those of its events
abbrev pub LivesAreSources : Type 0
LivesAreSources = (test : Op → Bool) (w : Name) (seen : ℕ → Objects) (changes : ℕ → Change) (base newest b end : ℕ)
    → Life (Passes test) w seen changes base newest → base ≤ end → end ≤ newest → HasDb b (seen end) → Source (Passes test) seen (ops_of w b changes) b end

-- a bootstrap folder whose items stand, and whose database has one born at its begin and its end
abbrev pub BootstrapsGoLive : Type 0
BootstrapsGoLive = (test : Op → Bool) (w : Name) (seen : ℕ → Objects) (changes : ℕ → Change) (base newest b begin at end : ℕ) (events : List Event) (r r' : Replica)
    → Life (Passes test) w seen changes base newest → base ≤ begin → end ≤ newest → HasDb b (seen begin) → HasDb b (seen end)
    → NoMoves (ops_of w b changes) begin end → AreNumbered changes begin end events
    → ReplaysEvents (Passes test) (filter (is_above at) (filter (is_of w b) events)) r r' → StandsEvents seen begin at end r → StandsLive seen end r'

-- an incremental folder that begins at or below a live replica's position, and doesn't end below it
abbrev pub IncrementsStayLive : Type 0
IncrementsStayLive = (test : Op → Bool) (w : Name) (seen : ℕ → Objects) (changes : ℕ → Change) (base newest b begin at end : ℕ) (events : List Event) (r r' : Replica)
    → Life (Passes test) w seen changes base newest → base ≤ begin → begin ≤ at → at ≤ end → end ≤ newest → HasDb b (seen begin) → HasDb b (seen end)
    → AreNumbered changes begin end events
    → ReplaysEvents (Passes test) (filter (is_above at) (filter (is_of w b) events)) r r' → StandsLive seen at r → StandsLive seen end r'

-- ---- marks

-- events with numbers up to k leave all that has a mark of k or above
abbrev pub ReplayNeverGoesBack : Type 0
ReplayNeverGoesBack = (test : Op → Bool) (k : ℕ) (events : List Event) (r r' : Replica) → AllByRecursion (λ (e : Event). e.id ≤ k) events → ReplaysEvents (Passes test) events r r' → KeepsNewer k r r'

-- an event whose operations are apart, replayed again at once, has no effect
abbrev pub RepeatedReplaysDoNothing : Type 0
RepeatedReplaysDoNothing = (test : Op → Bool) (e : ℕ) (ops : List Op) (r q q' : Replica) → AllApart ops → ReplaysAll (Passes test) e ops r q → ReplaysAll (Passes test) e ops q q' → SameObjects q.objects q'.objects × SameMarks q.marks q'.marks

-- where each partition stands under a table, no mark falls by an event whose operations are apart, and each partition still stands under a table
abbrev pub MarksNeverFall : Type 0
MarksNeverFall = (test : Op → Bool) (e : ℕ) (ops : List Op) (r r' : Replica) → AllApart ops → IsRooted r.objects → ReplaysAll (Passes test) e ops r r' → MarksGrow r r' × IsRooted r'.objects

-- and each partition of a replica that stands, half-loaded or live, stands under a table
abbrev pub StandingIsRooted : Type 0
StandingIsRooted = (test : Op → Bool) (after : ℕ → Objects) (ops : ℕ → List Op) (made newest begin at end : ℕ) (r : Replica) → Source (Passes test) after ops made newest → made ≤ at → at ≤ newest
    → (StandsEvents after begin at end r → IsRooted r.objects) × (StandsLive after at r → IsRooted r.objects)

-- behind event e what isn't as it was has the mark e
abbrev pub MarksTellChanges : Type 0
MarksTellChanges = (test : Op → Bool) (e : ℕ) (ops : List Op) (r r' : Replica) → ReplaysAll (Passes test) e ops r r' → MarksTell e r r'

-- the next event leaves each partition of a half-loaded replica that has its number for a mark or a greater one, whatever its table's mark
abbrev pub NewerPartsStay : Type 0
NewerPartsStay = (test : Op → Bool) (after : ℕ → Objects) (ops : ℕ → List Op) (made newest begin at n end : ℕ) (r r' : Replica)
    → Source (Passes test) after ops made newest → NoMoves ops begin end → made ≤ begin → end ≤ newest → at < n → n ≤ end → ((k : ℕ) → at < k → k < n → ops k ≡ [])
    → ReplaysAll (Passes test) n (ops n) r r' → StandsEvents after begin at end r
    → (m : Name) (w : Values) (p : PartRec) → r.objects.par m w ≡ Some p → n ≤ r.marks.par m w → SamePart m w r r'
