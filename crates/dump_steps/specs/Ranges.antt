-- Which events a dump is asked for, and for what it is refused.
use Rattle.std.specs.Prelude.{ℕ, ◌+◌, ◌-◌, ◌^◌, ◌==◌, nat_lt, min, ℤ, pos, nat_abs, int_lt, Bool, false, ◌||◌, ◌&&◌, Option, None, Some, is_some, if◌then◌else◌}
use Rattle.cat_objects.specs.declared.held.HeldDb.{HeldDb}
use Rattle.cat_types.specs.declared.steps.DumpRefusal.{DumpRefusal}
use Rattle.cat_types.specs.declared.steps.DumpRefusal.TheVariants.{BadRange, DatabaseGone, MissingEvents, NoSuchDb, UsedUp}
pub use Rattle.dump_steps.specs.declared.ranges.Asked.{Asked}

-- whether the last number lies below the one that the range begins after
abbrev pub is_bad_to : ℤ → Option ℤ → Bool
is_bad_to from None = false
is_bad_to from (Some to) = int_lt to from

-- whether no number at all may be asked for
abbrev pub is_bad_limit : Option ℤ → Bool
is_bad_limit None = false
is_bad_limit (Some limit) = int_lt limit (pos 1)

-- whether no range begins after this number: it is negative, or above the newest event
abbrev pub is_bad_from : ℕ → ℤ → Bool
is_bad_from newest from = int_lt from (pos 0) || int_lt (pos newest) from

-- whether a range can't be asked for: it has an end or a limit without a begin; or its begin is negative or above the newest event; or its end lies below its begin; or its limit is below 1
abbrev pub is_bad_range : ℕ → Option ℤ → Option ℤ → Option ℤ → Bool
is_bad_range newest None to limit = is_some to || is_some limit
is_bad_range newest (Some from) to limit = is_bad_from newest from || (is_bad_to from to || is_bad_limit limit)

-- whether events are asked for that lie before the database was made
abbrev pub is_too_early : ℕ → Option ℤ → Bool
is_too_early born None = false
is_too_early born (Some from) = nat_lt (nat_abs from) born

-- whether events are asked for that aren't kept any more
abbrev pub is_missing : ℕ → ℕ → Option ℤ → Bool
is_missing first newest None = false
is_missing first newest (Some from) = nat_lt (nat_abs from + 1) first && nat_lt (nat_abs from) newest

-- whether the numbers of dumps are used up
abbrev pub is_used_up : ℕ → Bool
is_used_up last = last == 2 ^ 64 - 1

-- for what a dump of a database that is there is refused, by the first rule that it breaks
abbrev pub range_refusal : ℕ → ℕ → ℕ → ℕ → Asked → Option DumpRefusal
range_refusal born first newest last asked =
    if is_bad_range newest asked.from asked.to asked.limit then Some BadRange
    else if is_too_early born asked.from then Some (DatabaseGone born)
    else if is_missing first newest asked.from then Some (MissingEvents first)
    else if is_used_up last then Some UsedUp
    else None

-- for what a dump is refused, where the kept events begin with `first`, the newest is `newest`, and the last dump has the number `last`; no database is a replica so far
abbrev pub begin_refusal : Option HeldDb → ℕ → ℕ → ℕ → Asked → Option DumpRefusal
begin_refusal None first newest last asked = Some NoSuchDb
begin_refusal (Some held) first newest last asked = range_refusal held.born first newest last asked

-- the event after which a dump's events begin: the one that was asked for, or the newest one
abbrev pub begin_of : ℕ → Option ℤ → ℕ
begin_of newest None = newest
begin_of newest (Some from) = nat_abs from

-- the last event that a range may have: the one that was asked for, and never above the newest
abbrev pub upto_of : ℕ → Option ℤ → ℕ
upto_of newest None = newest
upto_of newest (Some to) = min (nat_abs to) newest

-- the last number of a range that begins after this one and has so many numbers at most
abbrev pub limited : ℕ → ℕ → Option ℤ → ℕ
limited from upto None = upto
limited from upto (Some limit) = min upto (from + nat_abs limit)

-- the event up to which a dump's events go; a dump of a whole database gets its own when it is sealed, and has its begin till then
abbrev pub end_of : ℕ → Asked → ℕ
end_of newest asked = end_after newest asked.from asked.to asked.limit
  where
    end_after : ℕ → Option ℤ → Option ℤ → Option ℤ → ℕ
    end_after newest None to limit = newest
    end_after newest (Some from) to limit = limited (nat_abs from) (upto_of newest to) limit
