-- What contracts see of a recorded home.
use Rattle.std.specs.Prelude.{ℕ, List}
use Rattle.sq_base.specs.StampValue.{StampValue}
use Rattle.sq_model.specs.declared.place.Site.{Site}
use Rattle.sq_model.specs.Homes.{Home}
use Rattle.sq_model.specs.Replays.{HomeEvent}

pub record HistoryValue : Type 0 where
  pub site : Site
  pub home : Home
  pub last : StampValue
  pub events : List HomeEvent
  -- for how many events more there was memory when the last one was added
  pub spare : ℕ
  -- for how many rows more there was memory when the last one came in
  pub spare_rows : ℕ

-- all that was done at a home, the first first
abbrev pub all_events : HistoryValue → List HomeEvent
all_events h = h.events
