-- What contracts see of the log of events.
use Rattle.std.specs.Prelude.{◌≡◌, ◌==◌, ℕ, ◌+◌, nat_le, nat_lt, Bool, ◌&&◌, List, [], ◌∷◌, length, Option}
use Rattle.std.specs.BTreeMap.{is_at}
use Rattle.std.specs.Cmp.Lexicographic.{slice_cmp}
use Rattle.std.specs.List.{filter, find}
use Rattle.std.specs.Ordering.{nat_cmp}
use Rattle.cat_types.specs.declared.changes.Event.{Event}

-- the first kept number, the kept events, and how many pushes have their memory already
pub record Kept : Type 0 where
  pub first : ℕ
  pub events : List Event
  pub spare : ℕ

-- the events are numbered one after the other, from this number on
abbrev pub AreNumbered : ℕ → List Event → Type 0
AreNumbered first [] = Unit {0}
AreNumbered first (e ∷ es) = (e.id ≡ first) × AreNumbered (first + 1) es

-- the number behind the last kept event, or the first kept number where none is kept
abbrev pub next_number : Kept → ℕ
next_number log = log.first + length log.events

-- the events with a number above this one, in order
abbrev pub events_above : ℕ → List Event → List Event
events_above id events = filter (λ e. nat_lt id e.id) events

-- the event with this number
abbrev pub event_with : ℕ → List Event → Option Event
event_with id events = find (λ e. e.id == id) events

-- whether an event changes the database with this name and born
abbrev pub is_of : List ℕ → ℕ → Event → Bool
is_of db born event = is_at (slice_cmp nat_cmp db) event.change.db && (event.change.db_born == born)

-- whether it does, and its number is above `after` and at most `end`
abbrev pub is_between : List ℕ → ℕ → ℕ → ℕ → Event → Bool
is_between db born after end event = is_of db born event && (nat_lt after event.id && nat_le event.id end)

-- the events that change the database with this name and born, with numbers above `after` and at most `end`, in order
abbrev pub events_between : List ℕ → ℕ → ℕ → ℕ → List Event → List Event
events_between db born after end events = filter (is_between db born after end) events
