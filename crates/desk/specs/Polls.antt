-- What a poll is answered.
use Rattle.std.specs.Prelude.{ℕ, min, ℤ, pos, nat_abs, int_lt, List, take, Option, None, Some, if◌then◌else◌}
use Rattle.std.specs.List.{filter}
use Rattle.cat_types.specs.declared.changes.Event.{Event}
use Rattle.cat_types.specs.declared.replies.Reply.{Reply}
use Rattle.cat_types.specs.declared.replies.Reply.TheVariants.{Big, Events}
use Rattle.catalogue.specs.declared.poll.Poll.{Poll}
use Rattle.catalogue.specs.declared.poll.Poll.TheVariants.{After, Newest}

-- how many events a poll asks for at most: as many as it says, where it says a number above 0, and a million in any case
abbrev pub event_limit : Option ℤ → ℕ
event_limit None = 1000000
event_limit (Some max) = if int_lt (pos 0) max then min (nat_abs max) 1000000 else 1000000

-- the events with a number above this one, in order
abbrev pub events_beyond : ℤ → List Event → List Event
events_beyond last events = filter (λ e. int_lt last (pos e.id)) events

-- the reply to a poll over these kept events and this newest number: the first events of those that it asks for, or the newest number, cut to the greatest i64
abbrev pub poll_reply : List Event → ℕ → Poll → Reply
poll_reply events newest (After last max) = Events (take (event_limit max) (events_beyond last events))
poll_reply events newest Newest = Big (pos (min newest 9223372036854775807))
