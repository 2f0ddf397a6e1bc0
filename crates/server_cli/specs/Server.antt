-- What the top call of a server does.
use Rattle.std.specs.Prelude.{◌≡◌, ◌⊎◌, ◌<◌, ◌≤◌, ◌==◌, ◌%◌, ◌^◌, ℕ, List, [], ◌∷◌, length, map, Option, IfSome, if◌then◌else◌}
use Rattle.desk.specs.Adds.{own}
use Rattle.desk.specs.History.{Entry, Legal, NoneAbove, Point, Start, point_after, point_of, took}
use Rattle.engine.specs.Keeping.{Kept, KeptSince}
use Rattle.engine.specs.Opening.{Opens}
use Rattle.engine.specs.Stores.{fault_number}
use Rattle.hms_outside.specs.Causes.{Rose}
use Rattle.hms_outside.specs.Disks.{Lies}
use Rattle.ms_cli.specs.Keeping.{Disk, GoesOn, IsKept, RefusesBytes, StaysKept, seen}
use Rattle.ms_cli.specs.Telling.{refusal_status}
use Rattle.ms_journal.specs.Faults.{IsOpeningFault, IsOutage}
use Rattle.ms_journal.specs.declared.fault.OpenFault.{OpenFault}
use Rattle.ms_journal.specs.declared.fault.OpenFault.TheVariants as opening
use Rattle.ms_server.specs.Crews.{AllDid}
use Rattle.ms_server.specs.Visits.{Around}
use Rattle.ms_server.specs.declared.done.Done.{Done}
use Rattle.ms_server.specs.declared.post.Post.{Post}
use Rattle.server_cli.specs.Words.{Asks}
use Rattle.server_cli.specs.declared.server_end.ServerEnd.{ServerEnd}
use Rattle.server_cli.specs.declared.words.Serving.{Serving}

-- ---- what a server is given, and what it gives back

-- a listener, a folder and a clock for each worker, in their order
pub record Given (L F K : Type 0) : Type 0 where
  pub listeners : List L
  pub folders : List F
  pub clocks : List K

-- the status, each worker's own end, the number of all steps and of each worker's, and the listeners and folders
pub record Back (L F : Type 0) : Type 0 where
  pub status : ℕ
  pub ends : List ℕ
  pub steps : ℕ
  pub calls : List ℕ
  pub listeners : List L
  pub folders : List F

-- the two disks of a store
pub record Disks : Type 0 where
  pub a : Disk
  pub b : Disk

-- the fault number of the two disks
abbrev pub fault_of : Disks → ℕ
fault_of disks = fault_number disks.a.faults disks.b.faults

-- two disks as they are seen by what they tell
abbrev pub both_seen : {D : Type 0} → (D → Option Lies) → (D → List Lies) → (D → ℕ) → D → D → Disks
both_seen lies past faults a b = record { a = seen lies past faults a; b = seen lies past faults b }

-- what came back, without the disks
abbrev pub back_of : {L D F : Type 0} → ServerEnd L D F → Back L F
back_of e = record { status = e.status; ends = e.ends.items; steps = e.steps; calls = e.calls.items; listeners = e.listeners.items; folders = e.folders.items }

-- the workers' posts: each has the listener, the folder and the clock of its place
abbrev pub posts_of : {L F K : Type 0} → List L → List F → List K → List (Post L F K)
posts_of [] fs ks = []
posts_of (l ∷ ls) [] ks = []
posts_of (l ∷ ls) (f ∷ fs) [] = []
posts_of (l ∷ ls) (f ∷ fs) (k ∷ ks) = record { listener = l; folder = f; clock = k } ∷ posts_of ls fs ks

-- these are the posts of workers that are given this, one of each for each worker
pub record ArePosts {L F K : Type 0} (given : Given L F K) (posts : List (Post L F K)) : Type 0 where
  pub folders : length given.folders ≡ length given.listeners
  pub clocks : length given.clocks ≡ length given.listeners
  pub are : posts ≡ posts_of given.listeners given.folders given.clocks

-- the first of these ends that isn't 0, or 0 where all are
abbrev pub first_fault : List ℕ → ℕ
first_fault [] = 0
first_fault (e ∷ es) = if e == 0 then first_fault es else e

-- ---- the store

-- A store that began here was closed: these entries are all that it went through, and are legal; no fault number in them is above that of the disks; a crash at any moment since its opening leaves what is kept for the entries up to then, and what a read gives now is kept for them all.
pub record Closed (start : Start) (log : List Entry) (new : Disks) : Type 0 where
  pub legal : Legal start log
  pub none_above : NoneAbove (fault_of new) log
  pub since : KeptSince (point_of start) log start.past new.a.past new.a.lies
  pub held : IfSome new.a.lies (λ d. Kept (point_after (point_of start) (map took log)) d.held)

-- The store wasn't opened, for this cause: the bytes show it, or disk A counted a fault, or memory was refused; one that was kept for a history is refused by an outage alone, and stays kept; disk B is as it was.
pub record Unopened (fault : OpenFault) (old new : Disks) : Type 0 where
  pub kind : IsOpeningFault fault
  pub bytes : IfSome old.a.lies (λ d. RefusesBytes fault d.held)
  pub cause : fault ≡ opening.DiskFault → Rose old.a.faults new.a.faults
  pub outage : (p : Point) → IsKept p old.a.lies → IsOutage fault
  pub kept : (p : Point) → IsKept p old.a.lies → StaysKept p old.a new.a
  pub disk_b_stays : new.b ≡ old.b

-- ---- the workers

-- no worker began: no ends and no steps are told, and listeners and folders came back as they were
pub record Idle {L F K : Type 0} (given : Given L F K) (back : Back L F) : Type 0 where
  pub no_ends : back.ends ≡ []
  pub no_steps : back.steps ≡ 0
  pub no_calls : back.calls ≡ []
  pub listeners_stay : back.listeners ≡ given.listeners
  pub folders_stay : back.folders ≡ given.folders

-- Workers ran, with the caller numbers from 1 on: each did what a worker does, whose entries in this history are those of the sessions that it served; nobody else has an entry; each worker's end, number of steps, listener and folder came back in its place; and the status is the first end that isn't 0.
pub record Manned {L F K : Type 0} (ar : Post L F K → Around) (sessions : Option ℕ) (log : List Entry) (given : Given L F K) (back : Back L F) : Type 0 where
  pub done : List (Done L F K)
  pub did : AllDid ar sessions log 1 (posts_of given.listeners given.folders given.clocks) done
  pub nobody : (caller : ℕ) → (caller ≡ 0) ⊎ (length given.listeners < caller) → own caller log ≡ []
  pub ends_are : back.ends ≡ map (λ d. d.status) done
  pub calls_are : back.calls ≡ map (λ d. d.calls) done
  pub listeners_are : back.listeners ≡ map (λ d. d.post.listener) done
  pub folders_are : back.folders ≡ map (λ d. d.post.folder) done
  pub status_is : back.status ≡ first_fault back.ends

-- memory for the lock or for the workers was refused: no worker began, and the store has no entry
pub record Unmanned {L F K : Type 0} (log : List Entry) (given : Given L F K) (back : Back L F) : Type 0 where
  pub none : log ≡ []
  pub idle : Idle given back
  pub status_is : back.status ≡ 10

-- ---- the whole

-- a store that began here was served, and closed behind one history, whose length is the number of steps
pub record Served {L F K : Type 0} (ar : Post L F K → Around) (sessions : Option ℕ) (start : Start) (given : Given L F K) (back : Back L F) (new : Disks) : Type 0 where
  pub log : List Entry
  pub closed : Closed start log new
  pub steps : back.steps ≡ length log % 2 ^ 64
  pub workers : Manned ar sessions log given back ⊎ Unmanned log given back

-- The store was opened and served: it began with what disk A opened to, and with a fault number at least that of the disks before; a disk that was kept for a history goes on so.
pub record Opened {L F K : Type 0} (ar : Post L F K → Around) (sessions : Option ℕ) (given : Given L F K) (back : Back L F) (old new : Disks) : Type 0 where
  pub start : Start
  pub opens : IfSome old.a.lies (λ d. Opens d.held start.state)
  pub later : fault_of old ≤ start.fault
  pub served : Served ar sessions start given back new
  pub kept : (p : Point) → IsKept p old.a.lies → GoesOn p start served.log old.a new.a

-- there is no store, for this cause, which the status tells, and no worker began
pub record NoStore {L F K : Type 0} (given : Given L F K) (back : Back L F) (old new : Disks) : Type 0 where
  pub fault : OpenFault
  pub unopened : Unopened fault old new
  pub idle : Idle given back
  pub status_is : back.status ≡ refusal_status fault

-- the words ask nothing, and nothing was used
pub record Refused {L F K : Type 0} (words : List (List ℕ)) (given : Given L F K) (back : Back L F) (old new : Disks) : Type 0 where
  pub nothing : (asked : Serving) → Asks words asked → ⊥
  pub idle : Idle given back
  pub disks_stay : new ≡ old
  pub status_is : back.status ≡ 2

-- what a server did for its words
abbrev pub Serves : {L F K : Type 0} → (Post L F K → Around) → List (List ℕ) → Given L F K → Back L F → Disks → Disks → Type 0
Serves ar words given back old new =
    Refused words given back old new ⊎ ((asked : Serving) × Asks words asked × (Opened ar asked.sessions given back old new ⊎ NoStore given back old new))

-- ---- its answers and their causes

-- a worker's end, or the status that is one: 0, 10 or 12
abbrev pub IsEnd : ℕ → Type 0
IsEnd end = (end ≡ 0) ⊎ ((end ≡ 10) ⊎ (end ≡ 12))

-- there is no end, or one for each worker: 0, 10, or, where the listener in its place counted a fault, 12
abbrev pub EachEnd : {L : Type 0} → (L → ℕ) → List ℕ → List L → List L → Type 0
EachEnd faults [] old new = Unit {0}
EachEnd faults (e ∷ es) [] new = ⊥
EachEnd faults (e ∷ es) (l ∷ ls) [] = ⊥
EachEnd faults (e ∷ es) (l ∷ ls) (m ∷ ms) = IsEnd e × (e ≡ 12 → Rose (faults l) (faults m)) × EachEnd faults es ls ms

-- one of the listeners counted a fault
abbrev pub OneRose : {L : Type 0} → (L → ℕ) → List L → List L → Type 0
OneRose faults [] new = ⊥
OneRose faults (l ∷ ls) [] = ⊥
OneRose faults (l ∷ ls) (m ∷ ms) = Rose (faults l) (faults m) ⊎ OneRose faults ls ms
