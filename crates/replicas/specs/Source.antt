-- What is known of one database of the source, from the event that made it on.
use Rattle.std.specs.Prelude.{◌≡◌, ℕ, ◌+◌, ◌<◌, ◌≤◌, List, [], ◌∷◌, None}
use Rattle.cat_types.specs.declared.changes.Op.{Op}
use Rattle.cat_types.specs.declared.changes.Op.TheVariants.{DropDb, DropPart, DropTable, MovePart, MoveTable, PutDb, PutPart, PutTable}
use Rattle.replicas.specs.Objects.{Name, Values, Objects, SameObjects}
use Rattle.replicas.specs.Operations.{touches_db, touches_tab, touches_par, Fits, Done}

-- a property of each operation of a list
abbrev pub Each : (Op → Type 0) → List Op → Type 0
Each P [] = Unit {0}
Each P (op ∷ ops) = P op × Each P ops

-- a table that is made has the event's number for its born
abbrev pub MakesNew : ℕ → Op → Objects → Type 0
MakesNew e (PutDb rec) s = Unit {0}
MakesNew e DropDb s = Unit {0}
MakesNew e (PutTable n b rec) s = s.tab n ≡ None → b ≡ e
MakesNew e (DropTable n b) s = Unit {0}
MakesNew e (MoveTable n b to rec) s = Unit {0}
MakesNew e (PutPart n b v rec) s = Unit {0}
MakesNew e (DropPart n b v) s = Unit {0}
MakesNew e (MovePart n b v to rec) s = Unit {0}

-- one operation of event e in the source
pub record Step (e : ℕ) (op : Op) (s t : Objects) : Type 0 where
  pub fits : Fits op s
  pub new : MakesNew e op s
  pub done : Done op s t

-- the operations of event e lead from one state to another; without operations nothing changes
abbrev pub Steps : ℕ → List Op → Objects → Objects → Type 0
Steps e [] s u = SameObjects s u
Steps e (op ∷ ops) s u = (t : Objects) × Step e op s t × Steps e ops t u

-- a later operation of an event touches nothing that an earlier one touched, nor the table that it stood under
pub record IsApart (op later : Op) : Type 0 where
  pub db : touches_db op → touches_db later → ⊥
  pub tabs : (m : Name) → touches_tab op m → touches_tab later m → ⊥
  pub parts : (m : Name) (w : Values) → touches_par op m w → touches_par later m w → ⊥
  pub under : (m : Name) (w : Values) → touches_par op m w → touches_tab later m → ⊥

-- each operation is apart from all later ones
abbrev pub AllApart : List Op → Type 0
AllApart [] = Unit {0}
AllApart (op ∷ ops) = Each (IsApart op) ops × AllApart ops

-- the source's objects of one database after each number, and the operations of each event, none where an event is of another database
pub record Source (Sound : Op → Type 0) (after : ℕ → Objects) (ops : ℕ → List Op) (made newest : ℕ) : Type 0 where
  pub no_tables : (n : Name) → (after made).tab n ≡ None
  pub no_parts : (n : Name) (w : Values) → (after made).par n w ≡ None
  pub steps : (e : ℕ) → made ≤ e → e < newest → Steps (e + 1) (ops (e + 1)) (after e) (after (e + 1))
  pub apart : (e : ℕ) → made < e → e ≤ newest → AllApart (ops e)
  pub sound : (e : ℕ) → made < e → e ≤ newest → Each Sound (ops e)

-- an operation that moves nothing
abbrev pub IsNoMove : Op → Type 0
IsNoMove (PutDb rec) = Unit {0}
IsNoMove DropDb = Unit {0}
IsNoMove (PutTable n b rec) = Unit {0}
IsNoMove (DropTable n b) = Unit {0}
IsNoMove (MoveTable n b to rec) = ⊥
IsNoMove (PutPart n b v rec) = Unit {0}
IsNoMove (DropPart n b v) = Unit {0}
IsNoMove (MovePart n b v to rec) = ⊥

-- no event between two numbers moves anything, since renames are refused while a bootstrap dump is open
abbrev pub NoMoves : (ℕ → List Op) → ℕ → ℕ → Type 0
NoMoves ops begin end = (e : ℕ) → begin < e → e ≤ end → Each IsNoMove (ops e)
