-- What contracts see of an engine.
use Rattle.std.specs.Prelude.{ℕ, ◌+◌, ◌-◌, ◌^◌, min, List, map}
use Rattle.desk.specs.History.{Entry, Point, Start, point_after, point_of, took}

-- the fault number of a store: its disks' counts of faults together, at most the last value of u64
abbrev pub fault_number : ℕ → ℕ → ℕ
fault_number a b = min (a + b) (2 ^ 64 - 1)

-- an engine's two disks, the start of its history with what disk A had gone through by then, and the history so far
pub record Stored (D : Type 0) : Type 0 where
  pub disk_a : D
  pub disk_b : D
  pub start : Start
  pub history : List Entry

-- its fault number now
abbrev pub fault_of : {D : Type 0} → (D → ℕ) → Stored D → ℕ
fault_of faults e = fault_number (faults e.disk_a) (faults e.disk_b)

-- where its history stands
abbrev pub point_at : {D : Type 0} → Stored D → Point
point_at e = point_after (point_of e.start) (map took e.history)
