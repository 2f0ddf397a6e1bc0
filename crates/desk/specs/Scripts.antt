-- Turns of others by a script.
use Rattle.std.specs.Prelude.{◌≡◌, List, [], ◌∷◌, map}
use Rattle.std.specs.declared.alloc.Global.{Global}
use Rattle.std.specs.declared.collections.VecDeque.{VecDeque}
use Rattle.desk.specs.History.{Entry}
use Rattle.desk.specs.declared.foreign.Foreign.{Foreign}

-- the entry is a foreign turn's
abbrev pub IsAskedBy : Foreign → Entry → Type 0
IsAskedBy turn e = (e.0.caller ≡ turn.caller) × (e.0.step ≡ turn.step)

-- the entries are those of foreign turns, one each and in their order
abbrev pub AskedBy : List Foreign → List Entry → Type 0
AskedBy [] [] = Unit {0}
AskedBy [] (e ∷ es) = ⊥
AskedBy (t ∷ ts) [] = ⊥
AskedBy (t ∷ ts) (e ∷ es) = IsAskedBy t e × AskedBy ts es

-- the lists of a script
abbrev pub lists_of : VecDeque (VecDeque Foreign Global) Global → List (List Foreign)
lists_of script = map (λ list. list.items) script.items

-- the list that comes before the next own step; behind the last one none
abbrev pub next_list : List (List Foreign) → List Foreign
next_list [] = []
next_list (list ∷ lists) = list
