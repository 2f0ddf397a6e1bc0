-- The laws over the catalogues of a source and of a replica's store.
use Rattle.std.specs.Prelude.{◌≡◌, ◌||◌, ℕ, ◌+◌, ◌-◌, ◌++◌, length, ◌<◌, ◌≤◌, true, List, [], ◌∷◌, Some, filter}
use Rattle.std.specs.Cmp.Lexicographic.{slice_cmp}
use Rattle.std.specs.List.{AllByRecursion}
use Rattle.std.specs.List.Sorted.{IsStrictlySortedBy}
use Rattle.std.specs.Map.{keys_of}
use Rattle.std.specs.Ordering.{nat_cmp}
use Rattle.cat_objects.specs.Catalogue.{Catalogue, database, new_catalogue}
use Rattle.cat_objects.specs.Changes.{are_puts, done_op, fits_op, is_any, is_one}
use Rattle.cat_objects.specs.declared.held.HeldDb.{HeldDb}
use Rattle.cat_objects.specs.declared.held.HeldTable.{HeldTable}
use Rattle.cat_types.specs.declared.changes.Change.{Change}
use Rattle.cat_types.specs.declared.changes.Event.{Event}
use Rattle.cat_types.specs.declared.changes.Op.{Op}
use Rattle.cat_types.specs.declared.changes.Op.TheVariants.{DropDb}
use Rattle.cat_values.specs.Names.{is_object_name}
use Rattle.replicas.specs.Catalogues.{IsInOrder, is_sound, objects_of}
use Rattle.replicas.specs.Histories.{AllDue, AreChanges, AreLawful, IsDue, IsNew, ValuesDiffer, after_first, change_at, source_of}
use Rattle.replicas.specs.Laws.{Passes}
use Rattle.replicas.specs.Life.{AreNumbered, HasDb, Life, is_above, is_of, ops_of}
use Rattle.replicas.specs.Objects.{Name, Has, Table}
use Rattle.replicas.specs.Operations.{Done, Fits}
use Rattle.replicas.specs.Replay.{Acts}
use Rattle.replicas.specs.Source.{AllApart, Each, IsNoMove, NoMoves}
use Rattle.replicas.specs.Stands.{Quiet, ReplaysEvents, StandsEvents, StandsLive}
use Rattle.replicas.specs.Stores.{Redoes, RedoesAll, RedoesEvents, Store, TakesEffect, replayed, replica_of}

-- ---- one operation

-- on a replica that is there an operation acts exactly where it takes effect, but for a drop of the database
abbrev pub ActsWhereItTakesEffect : Type 0
ActsWhereItTakesEffect = (w : Name) (e : ℕ) (op : Op) (s : Store) → Has (objects_of w s.catalogue).db → (op ≡ DropDb → ⊥) → (Acts (Passes is_sound) e op (replica_of w s) → TakesEffect w e op s) × (TakesEffect w e op s → Acts (Passes is_sound) e op (replica_of w s))

-- a drop of the database never acts
abbrev pub DropsNeverAct : Type 0
DropsNeverAct = (w : Name) (e : ℕ) (s : Store) → Acts (Passes is_sound) e DropDb (replica_of w s) → ⊥

-- an operation that the catalogue can take is sound and fits its objects, where its tables have object names
abbrev pub FittingActs : Type 0
FittingActs = (cat : Catalogue) (w : Name) (op : Op) → Has (objects_of w cat).db → ((n : Name) (x : Table) → (objects_of w cat).tab n ≡ Some x → is_object_name n ≡ true) → fits_op cat w op ≡ true → Passes is_sound op × Fits op (objects_of w cat)

-- an operation that fits is done on a catalogue as it is on objects
abbrev pub DoneOnCatalogues : Type 0
DoneOnCatalogues = (w : Name) (born : ℕ) (op : Op) (cat : Catalogue) → IsInOrder cat → Has (objects_of w cat).db → Fits op (objects_of w cat) → Done op (objects_of w cat) (objects_of w (done_op w born cat op)) × IsInOrder (done_op w born cat op)

-- what is replayed by the function is replayed
abbrev pub ReplaysAreDone : Type 0
ReplaysAreDone = (w : Name) (born e : ℕ) (op : Op) (s : Store) → Redoes w born e op s (replayed w born e op s)

-- ---- what a history gives

-- the changes of a history are a life of each database
abbrev pub ChangesAreLives : Type 0
ChangesAreLives = (w : Name) (cats : ℕ → Catalogue) (changes : ℕ → Change) (base newest : ℕ) → AreChanges cats changes base newest → Life (Passes is_sound) w (source_of w cats) changes base newest

-- events each of which is due, from a new catalogue on, are a history by their numbers
abbrev pub DueEventsAreChanges : Type 0
DueEventsAreChanges = (base : ℕ) (cat : Catalogue) (events : List Event) → IsNew base cat → AllDue base cat events → AreChanges (λ k. after_first (k - base) cat events) (λ k. change_at (k - (base + 1)) events) base (base + length events)

-- an event that is due behind them is due with them
abbrev pub DueEventsGrow : Type 0
DueEventsGrow = (at : ℕ) (cat : Catalogue) (events : List Event) (event : Event) → AllDue at cat events → IsDue (at + length events) (after_first (length events) cat events) event → AllDue at cat (events ++ event ∷ [])

-- and each range of them is numbered
abbrev pub DueEventsAreNumbered : Type 0
DueEventsAreNumbered = (base : ℕ) (cat : Catalogue) (before range rest : List Event) → AllDue base cat (before ++ (range ++ rest))
    → AreNumbered (λ k. change_at (k - (base + 1)) (before ++ (range ++ rest))) (base + length before) (base + length before + length range) range

-- where no change of the database between two numbers moves anything, no event of it under a born does
abbrev pub UnmovedRanges : Type 0
UnmovedRanges = (w : Name) (b : ℕ) (changes : ℕ → Change) (begin end : ℕ) → ((e : ℕ) → begin < e → e ≤ end → (changes e).db ≡ w → Each IsNoMove (changes e).ops) → NoMoves (ops_of w b changes) begin end

-- each operation of a history is lawful, and finds what it needs, in the catalogue with the operations before it
abbrev pub HistoriesAreLawful : Type 0
HistoriesAreLawful = (cats : ℕ → Catalogue) (changes : ℕ → Change) (base newest e : ℕ) → AreChanges cats changes base newest → base ≤ e → e < newest → AreLawful (changes (e + 1)).db (changes (e + 1)).db_born (cats e) (changes (e + 1)).ops

-- names rise after each number of a history
abbrev pub HistoriesStayInOrder : Type 0
HistoriesStayInOrder = (cats : ℕ → Catalogue) (changes : ℕ → Change) (base newest e : ℕ) → AreChanges cats changes base newest → base ≤ e → e ≤ newest → IsInOrder (cats e)

-- a new store is new at 0
abbrev pub NewStoresAreNew : Type 0
NewStoresAreNew = IsNew 0 new_catalogue

-- one operation is apart, and so are puts of partitions under one table none of whose values are put twice
abbrev pub CallsAreApart : Type 0
CallsAreApart = (ops : List Op) → (is_one is_any ops || are_puts ops) ≡ true → ValuesDiffer ops → AllApart ops

-- databases, the tables of each and the partitions of each of these that rise entry by entry are in order
abbrev pub RisingIsInOrder : Type 0
RisingIsInOrder = (cat : Catalogue) → IsStrictlySortedBy (slice_cmp nat_cmp) (keys_of cat.databases)
    → AllByRecursion (λ (d : List ℕ × HeldDb). IsStrictlySortedBy (slice_cmp nat_cmp) (keys_of d.1.tables)) cat.databases
    → AllByRecursion (λ (d : List ℕ × HeldDb). AllByRecursion (λ (t : List ℕ × HeldTable). IsStrictlySortedBy (slice_cmp (slice_cmp nat_cmp)) (keys_of t.1.parts)) d.1.tables) cat.databases → IsInOrder cat

-- ---- loads

-- what is replayed in a store is replayed on its replica, and names still rise
abbrev pub StoresReplay : Type 0
StoresReplay = (w : Name) (born : ℕ) (events : List Event) (s t : Store) → IsInOrder s.catalogue → Has (objects_of w s.catalogue).db → RedoesEvents w born events s t → ReplaysEvents (Passes is_sound) events (replica_of w s) (replica_of w t) × IsInOrder t.catalogue

-- the next event of the database keeps what a half-loaded replica stands for
abbrev pub StoreEventKeeps : Type 0
StoreEventKeeps = (w target : Name) (cats : ℕ → Catalogue) (changes : ℕ → Change) (base newest b begin at n end born : ℕ) (s t : Store)
    → AreChanges cats changes base newest → base ≤ begin → end ≤ newest → HasDb b (source_of w cats begin) → HasDb b (source_of w cats end) → NoMoves (ops_of w b changes) begin end
    → at < n → n ≤ end → ((k : ℕ) → at < k → k < n → ops_of w b changes k ≡ [])
    → IsInOrder s.catalogue → RedoesAll target born n (ops_of w b changes n) s t
    → StandsEvents (source_of w cats) begin at end (replica_of target s) → StandsEvents (source_of w cats) begin n end (replica_of target t) × IsInOrder t.catalogue

-- and what a live one stands for, moves among its operations
abbrev pub StoreLiveEventKeeps : Type 0
StoreLiveEventKeeps = (w target : Name) (cats : ℕ → Catalogue) (changes : ℕ → Change) (base newest b at n born : ℕ) (s t : Store)
    → AreChanges cats changes base newest → base ≤ at → n ≤ newest → HasDb b (source_of w cats at) → HasDb b (source_of w cats n)
    → at < n → ((k : ℕ) → at < k → k < n → ops_of w b changes k ≡ [])
    → IsInOrder s.catalogue → RedoesAll target born n (ops_of w b changes n) s t
    → StandsLive (source_of w cats) at (replica_of target s) → StandsLive (source_of w cats) n (replica_of target t) × IsInOrder t.catalogue

-- behind the last event a half-loaded replica is live at the end
abbrev pub StoreEventsThenLive : Type 0
StoreEventsThenLive = (w target : Name) (cats : ℕ → Catalogue) (changes : ℕ → Change) (base newest b begin at end : ℕ) (s : Store)
    → AreChanges cats changes base newest → base ≤ begin → end ≤ newest → HasDb b (source_of w cats begin) → HasDb b (source_of w cats end) → Quiet (ops_of w b changes) at end
    → StandsEvents (source_of w cats) begin at end (replica_of target s) → StandsLive (source_of w cats) end (replica_of target s)

-- what is left of a bootstrap folder leads a replica that has its items to live at the folder's end
abbrev pub StoresGoLive : Type 0
StoresGoLive = (w target : Name) (cats : ℕ → Catalogue) (changes : ℕ → Change) (base newest b begin at end born : ℕ) (events : List Event) (s t : Store)
    → AreChanges cats changes base newest → base ≤ begin → end ≤ newest → HasDb b (source_of w cats begin) → HasDb b (source_of w cats end)
    → NoMoves (ops_of w b changes) begin end → AreNumbered changes begin end events
    → IsInOrder s.catalogue → RedoesEvents target born (filter (is_above at) (filter (is_of w b) events)) s t
    → StandsEvents (source_of w cats) begin at end (replica_of target s) → StandsLive (source_of w cats) end (replica_of target t) × IsInOrder t.catalogue

-- an incremental folder that begins at a live replica's position or below it, and doesn't end below it, leads it to the folder's end
abbrev pub StoresStayLive : Type 0
StoresStayLive = (w target : Name) (cats : ℕ → Catalogue) (changes : ℕ → Change) (base newest b begin at end born : ℕ) (events : List Event) (s t : Store)
    → AreChanges cats changes base newest → base ≤ begin → begin ≤ at → at ≤ end → end ≤ newest → HasDb b (source_of w cats begin) → HasDb b (source_of w cats end)
    → AreNumbered changes begin end events
    → IsInOrder s.catalogue → RedoesEvents target born (filter (is_above at) (filter (is_of w b) events)) s t
    → StandsLive (source_of w cats) at (replica_of target s) → StandsLive (source_of w cats) end (replica_of target t) × IsInOrder t.catalogue

-- a live replica is its source's database, with its born, its tables and their partitions
abbrev pub LiveReplicasAreEqual : Type 0
LiveReplicasAreEqual = (w target : Name) (cats : ℕ → Catalogue) (changes : ℕ → Change) (base newest at : ℕ) (s : Store)
    → AreChanges cats changes base newest → base ≤ at → at ≤ newest → IsInOrder s.catalogue → StandsLive (source_of w cats) at (replica_of target s) → database s.catalogue target ≡ database (cats at) w
