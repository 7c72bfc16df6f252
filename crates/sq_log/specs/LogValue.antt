-- What contracts see of a log.
use Rattle.std.specs.Prelude.{ℕ, List}
use Rattle.sq_base.specs.StampValue.{StampValue}
use Rattle.sq_model.specs.declared.event.Event.{Event}

-- the stamp of its last event, its events, for how many more there was memory when the last one was added, and for how many there is now
pub record LogValue (K R : Type 0) : Type 0 where
  pub last : StampValue
  pub events : List (Event K R)
  pub spare : ℕ
  pub reserved : ℕ
