-- The connections that a worker serves, one after the other.
use Rattle.std.specs.Prelude.{◌≡◌, ◌⊎◌, ◌<◌, ◌≤◌, ◌↔◌, ℕ, List, [], ◌∷◌, length, Option, Some, IfSome, Result, MatchResult}
use Rattle.std.specs.List.{flat_map}
use Rattle.desk.specs.History.{Entry}
use Rattle.hms_listeners.specs.Listening.{Appended, HandsOut, HoldsNothing, Returned, as_returned}
use Rattle.hms_outside.specs.Causes.{Rose}
use Rattle.hms_outside.specs.Told.{Goes}
use Rattle.hms_outside.specs.declared.outage.Outage.{Outage}
use Rattle.hms_outside.specs.declared.outage.Outage.TheVariants.{Failed}
use Rattle.ms_server.specs.declared.post.Post.{Post}
use Rattle.ms_session.specs.Session.{Met, Session}
use Rattle.ms_session.specs.Turns.{Files, Shelf, shelf_of}
use Rattle.ms_session.specs.declared.end.End.{End}
use Rattle.ms_session.specs.declared.end.End.TheVariants.{ReadFault, WriteFault}

-- what a worker meets outside, as far as it is known: the inputs of the connections to come, those that were handed back, how often its listener has failed, the moments of its clock, and what is told of its folder
pub record Around : Type 0 where
  pub inputs : Option (List (List ℕ))
  pub returned : Option (List Returned)
  pub faults : ℕ
  pub clock : Option (List ℕ)
  pub shelf : Shelf

-- what is around a worker's post, by what its listener, its folder and its clock tell
abbrev pub around : {L F K : Type 0} → (L → Option (List (List ℕ))) → (L → Option (List Returned)) → (L → ℕ) → (F → Option Files) → (F → ℕ) → (K → Option (List ℕ)) → Post L F K → Around
around inputs returned faults files folder_faults moments post = record { inputs = inputs post.listener; returned = returned post.listener; faults = faults post.listener; clock = moments post.clock; shelf = shelf_of (files post.folder) (folder_faults post.folder) }

-- one connection: what its session met at its beginning and at its end, its entries and its end, how often its source and its sink had failed when it was handed back, and what the worker met behind it
pub record Visit : Type 0 where
  pub before : Met
  pub after : Met
  pub entries : List Entry
  pub ended : End
  pub source_faults : ℕ
  pub sink_faults : ℕ
  pub behind : Around

-- The connection had the first input that was left, and its sink held nothing; its session was served at the worker's clock and folder; and it was handed back with what its sink held. Its session ended by a fault of its source or of its sink only where that had counted one.
pub record IsVisit (v : Visit) (old : Around) : Type 0 where
  pub input : HandsOut old.inputs v.behind.inputs v.before.left
  pub empty : HoldsNothing v.before.held
  pub clock : v.before.clock ≡ old.clock
  pub shelf : v.before.shelf ≡ old.shelf
  pub session : Session v.before v.after v.entries v.ended
  pub back : Goes (Appended (as_returned v.after.held v.source_faults v.sink_faults)) old.returned v.behind.returned
  pub clock_behind : v.behind.clock ≡ v.after.clock
  pub shelf_behind : v.behind.shelf ≡ v.after.shelf
  pub faults : v.behind.faults ≡ old.faults
  pub read : v.ended ≡ ReadFault → 0 < v.source_faults
  pub write : v.ended ≡ WriteFault → 0 < v.sink_faults

-- connections were served one after the other, the first from here and the last to there
abbrev pub Chain : List Visit → Around → Around → Type 0
Chain [] old new = new ≡ old
Chain (v ∷ vs) old new = IsVisit v old × Chain vs v.behind new

-- so many connections were served, and these are the worker's entries for them, in order
pub record ServedSome (count : ℕ) (old new : Around) (entries : List Entry) : Type 0 where
  pub visits : List Visit
  pub counted : length visits ≡ count
  pub chain : Chain visits old new
  pub own : entries ≡ flat_map (λ v. v.entries) visits

-- no connection was handed out, for this cause: the worker has no entries, and all stays but the listener's count of faults
pub record Refused (fault : Outage) (old new : Around) : Type 0 where
  pub inputs : new.inputs ≡ old.inputs
  pub returned : new.returned ≡ old.returned
  pub clock : new.clock ≡ old.clock
  pub shelf : new.shelf ≡ old.shelf
  pub later : old.faults ≤ new.faults
  pub cause : fault ≡ Failed → Rose old.faults new.faults

-- a connection was served, or none was handed out
abbrev pub Visits : {T : Type 0} → Around → Around → Result T Outage → List Entry → Type 0
Visits old new result entries = MatchResult result
    (λ _. (v : Visit) × IsVisit v old × (v.behind ≡ new) × (entries ≡ v.entries))
    (λ fault. Refused fault old new × (entries ≡ []))

-- fewer connections than these were served, up to one that wasn't handed out, for this cause
pub record StoppedBefore (limit : ℕ) (fault : Outage) (old new : Around) (entries : List Entry) : Type 0 where
  pub count : ℕ
  pub last : Around
  pub few : count < limit
  pub served : ServedSome count old last entries
  pub refused : Refused fault last new

-- as many connections as these were served, or fewer
abbrev pub VisitsMany : {T : Type 0} → ℕ → Around → Around → Result T Outage → List Entry → Type 0
VisitsMany limit old new result entries = MatchResult result
    (λ _. ServedSome limit old new entries)
    (λ fault. StoppedBefore limit fault old new entries)

-- A worker that was to serve so many connections, or all that come, served some, one after the other, and ended so: with 0 where it served as many as it was to, with 12 where its listener refused the next one and had counted a fault, and else with 10.
pub record Worked (sessions : Option ℕ) (old new : Around) (status : ℕ) (entries : List Entry) : Type 0 where
  pub count : ℕ
  pub last : Around
  pub served : ServedSome count old last entries
  pub done : (status ≡ 0) ↔ (sessions ≡ Some count)
  pub few : IfSome sessions (λ limit. count ≤ limit)
  pub kind : (status ≡ 0) ⊎ ((status ≡ 10) ⊎ (status ≡ 12))
  pub fault : status ≡ 12 → Rose old.faults new.faults
  pub inputs : new.inputs ≡ last.inputs
  pub returned : new.returned ≡ last.returned
  pub clock : new.clock ≡ last.clock
  pub shelf : new.shelf ≡ last.shelf
