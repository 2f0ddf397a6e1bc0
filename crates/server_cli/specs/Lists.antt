-- Lists by worker.
use Rattle.std.specs.Prelude.{◌≡◌, ◌≤◌, ◌+◌, ℕ, [], ◌∷◌, ◌++◌, vec_len, vec_capacity}
use Rattle.std.specs.declared.vec.Vec.{Vec}
use Rattle.std.specs.declared.alloc.Global.{Global}
use Rattle.server_cli.specs.declared.lists.Lists.{Lists}

-- lists without elements, with room for so many
pub record HasRoom {L F : Type 0} (count : ℕ) (lists : Lists L F) : Type 0 where
  pub no_ends : lists.ends.items ≡ []
  pub no_calls : lists.calls.items ≡ []
  pub no_listeners : lists.listeners.items ≡ []
  pub no_folders : lists.folders.items ≡ []
  pub ends : count ≤ vec_capacity lists.ends
  pub calls : count ≤ vec_capacity lists.calls
  pub listeners : count ≤ vec_capacity lists.listeners
  pub folders : count ≤ vec_capacity lists.folders

-- an element was added at the end of a list, which had room for it
pub record IsPushed {X : Type 0} (x : X) (old new : Vec X Global) : Type 0 where
  pub items : new.items ≡ old.items ++ x ∷ []
  pub len : vec_len new ≡ vec_len old + 1
  pub capacity : vec_capacity new ≡ vec_capacity old
