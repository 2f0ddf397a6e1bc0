-- The catalogues and the changes of a source's history, by number.
use Rattle.std.specs.Prelude.{zero, suc, ◌≡◌, ◌⊎◌, ℕ, ◌+◌, ◌<◌, ◌≤◌, true, List, [], ◌∷◌, Option, Some, None}
use Rattle.cat_objects.specs.Catalogue.{Catalogue}
use Rattle.cat_objects.specs.Changes.{done, done_op, takes_change}
use Rattle.cat_objects.specs.Lawful.{finds, is_lawful}
use Rattle.cat_types.specs.declared.changes.Change.{Change}
use Rattle.cat_types.specs.declared.changes.Event.{Event}
use Rattle.cat_types.specs.declared.changes.EventKind.TheVariants as kind
use Rattle.cat_types.specs.declared.changes.Op.{Op}
use Rattle.cat_types.specs.declared.changes.Op.TheVariants.{DropDb, DropPart, DropTable, MovePart, MoveTable, PutDb, PutPart, PutTable}
use Rattle.replicas.specs.Catalogues.{IsInOrder, objects_of}
use Rattle.replicas.specs.Life.{HasDb}
use Rattle.replicas.specs.Objects.{Name, Values, Objects}
use Rattle.replicas.specs.Source.{AllApart, Each, MakesNew}

-- where operations of event e, each after those before it, put a table at a name that has none, its born is e
abbrev pub BornsAreNew : ℕ → Name → ℕ → Catalogue → List Op → Type 0
BornsAreNew e d born cat [] = Unit {0}
BornsAreNew e d born cat (op ∷ ops) = MakesNew e op (objects_of d cat) × BornsAreNew e d born (done_op d born cat op) ops

-- each database has the base for its born and no tables, and names rise
pub record IsNew (base : ℕ) (cat : Catalogue) : Type 0 where
  pub databases : (w : Name) → ((objects_of w cat).db ≡ None) ⊎ HasDb base (objects_of w cat)
  pub no_tables : (w n : Name) → (objects_of w cat).tab n ≡ None
  pub order : IsInOrder cat

-- from a new catalogue at the base on, each next one is made by the change with its number, which the catalogue before it takes as that event; what it makes has a new born, and its operations are apart
pub record AreChanges (cats : ℕ → Catalogue) (changes : ℕ → Change) (base newest : ℕ) : Type 0 where
  pub start : IsNew base (cats base)
  pub next : (e : ℕ) → base ≤ e → e < newest → cats (e + 1) ≡ done (changes (e + 1)) (cats e)
  pub taken : (e : ℕ) → base ≤ e → e < newest → takes_change (cats e) (e + 1) (changes (e + 1)) ≡ true
  pub news : (e : ℕ) → base ≤ e → e < newest → BornsAreNew (e + 1) (changes (e + 1)).db (changes (e + 1)).db_born (cats e) (changes (e + 1)).ops
  pub apart : (e : ℕ) → base ≤ e → e < newest → AllApart (changes (e + 1)).ops

-- operations are lawful and find what they drop, move or stand under, each after those before it
abbrev pub AreLawful : Name → ℕ → Catalogue → List Op → Type 0
AreLawful d born cat [] = Unit {0}
AreLawful d born cat (op ∷ ops) = (is_lawful cat d op ≡ true) × (finds cat d op ≡ true) × AreLawful d born (done_op d born cat op) ops

-- the objects of the database w after each number
abbrev pub source_of : Name → (ℕ → Catalogue) → ℕ → Objects
source_of w cats k = objects_of w (cats k)

-- the values of the partition that an operation puts
abbrev pub values_put : Op → Option Values
values_put (PutDb rec) = None
values_put DropDb = None
values_put (PutTable n b rec) = None
values_put (DropTable n b) = None
values_put (MoveTable n b to rec) = None
values_put (PutPart n b v rec) = Some v
values_put (DropPart n b v) = None
values_put (MovePart n b v to rec) = None

-- two operations don't put partitions with the same values
abbrev pub OtherValues : Op → Op → Type 0
OtherValues op later = (v : Values) → values_put op ≡ Some v → values_put later ≡ Some v → ⊥

-- no values are put twice
abbrev pub ValuesDiffer : List Op → Type 0
ValuesDiffer [] = Unit {0}
ValuesDiffer (op ∷ ops) = Each (OtherValues op) ops × ValuesDiffer ops

-- ---- events in a list

-- the catalogue after the first k of these events
abbrev pub after_first : ℕ → Catalogue → List Event → Catalogue
after_first zero cat events = cat
after_first (suc k) cat [] = cat
after_first (suc k) cat (event ∷ events) = after_first k (done event.change cat) events

-- a change that changes nothing, which stands where there is no event
abbrev pub no_change : Change
no_change = record { kind = kind.AlterDatabase; db = []; db_born = 0; ops = [] }

-- the change of the event at this place, the first at 0
abbrev pub change_at : ℕ → List Event → Change
change_at i [] = no_change
change_at zero (event ∷ events) = event.change
change_at (suc i) (event ∷ events) = change_at i events

-- an event has the next number, and the catalogue before it takes its change as that event; what it makes has a new born, and its operations are apart
pub record IsDue (at : ℕ) (cat : Catalogue) (event : Event) : Type 0 where
  pub number : event.id ≡ at + 1
  pub taken : takes_change cat (at + 1) event.change ≡ true
  pub news : BornsAreNew (at + 1) event.change.db event.change.db_born cat event.change.ops
  pub apart : AllApart event.change.ops

-- each event is due on what those before it make
abbrev pub AllDue : ℕ → Catalogue → List Event → Type 0
AllDue at cat [] = Unit {0}
AllDue at cat (event ∷ events) = IsDue at cat event × AllDue (at + 1) (done event.change cat) events
