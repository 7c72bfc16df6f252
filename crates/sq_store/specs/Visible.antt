-- The moments from when rows are visible, and memory for them. Own.
use Rattle.std.specs.Prelude.{ℕ, ◌≤◌}
use Rattle.sq_store.specs.declared.visible.VisibleFrom.{VisibleFrom}
use Rattle.sq_store.specs.Due.{space}

-- for so many rows, of whatever class
pub record HasSpace (count : ℕ) (v : VisibleFrom) : Type 0 where
  pub unreceived : count ≤ space v.unreceived
  pub received : count ≤ space v.received
  pub exhausted : count ≤ space v.exhausted
