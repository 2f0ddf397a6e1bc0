-- The tests that replay makes, by look-ups: what code computes, and `Acts` says.
use Rattle.std.specs.Prelude.{ℕ, Bool, true, false, ◌&&◌, ◌==◌, nat_lt, nat_le, length, Option, Some, None, is_some, is_none}
use Rattle.cat_types.specs.declared.changes.Op.{Op}
use Rattle.cat_types.specs.declared.changes.Op.TheVariants.{DropDb, DropPart, DropTable, MovePart, MoveTable, PutDb, PutPart, PutTable}
use Rattle.replicas.specs.Objects.{Table, Objects, Replica}

-- whether a table is there with that born
abbrev pub has_born : ℕ → Option Table → Bool
has_born b None = false
has_born b (Some t) = t.0 == b

-- whether a table that may be there has that born and that many keys
abbrev pub fits_over : ℕ → ℕ → Option Table → Bool
fits_over b keys None = true
fits_over b keys (Some t) = (t.0 == b) && (length t.1.keys == keys)

-- whether a table is there with that born and that many keys, at least one
abbrev pub takes : ℕ → ℕ → Option Table → Bool
takes b count None = false
takes b count (Some t) = (t.0 == b) && ((length t.1.keys == count) && nat_le 1 count)

-- whether an operation fits objects
abbrev pub fits : Op → Objects → Bool
fits (PutDb rec) s = is_some s.db
fits DropDb s = false
fits (PutTable n b rec) s = fits_over b (length rec.keys) (s.tab n)
fits (DropTable n b) s = has_born b (s.tab n)
fits (MoveTable n b to rec) s = has_born b (s.tab n) && (fits_over b (length rec.keys) (s.tab n) && is_none (s.tab to))
fits (PutPart n b v rec) s = takes b (length v) (s.tab n)
fits (DropPart n b v) s = has_born b (s.tab n) && is_some (s.par n v)
fits (MovePart n b v to rec) s = takes b (length to) (s.tab n) && (is_some (s.par n v) && is_none (s.par n to))

-- whether something is absent, or a test holds
abbrev pub absent_or : {A : Type 0} → Option A → Bool → Bool
absent_or None low = true
absent_or (Some x) low = low

-- whether what an operation changes is absent, where it may be, or has a mark below e
abbrev pub below : ℕ → Op → Replica → Bool
below e (PutDb rec) r = nat_lt r.marks.db e
below e DropDb r = false
below e (PutTable n b rec) r = absent_or (r.objects.tab n) (nat_lt (r.marks.tab n) e)
below e (DropTable n b) r = nat_lt (r.marks.tab n) e
below e (MoveTable n b to rec) r = nat_lt (r.marks.tab n) e
below e (PutPart n b v rec) r = absent_or (r.objects.par n v) (nat_lt (r.marks.par n v) e)
below e (DropPart n b v) r = nat_lt (r.marks.par n v) e
below e (MovePart n b v to rec) r = nat_lt (r.marks.par n v) e

-- whether an operation of event e acts on a replica
abbrev pub acts : (Op → Bool) → ℕ → Op → Replica → Bool
acts test e op r = test op && (fits op r.objects && below e op r)
