-- The options that a service takes.
use Rattle.std.specs.Prelude.{◌/◌, ◌≤◌}
use Rattle.sq_model.specs.declared.options.Options.{Options}
use Rattle.sq_model.specs.declared.options.TheConstants.{MOST_HOMES, MOST_QUEUES, MOST_ROWS, MOST_FLIGHTS, MOST_TRANSIT}
use Rattle.sq_model.specs.declared.place.Limits.{Limits}

-- all are in their ranges
pub record IsServed (o : Options) : Type 0 where
  pub homes : (1 ≤ o.homes) × (o.homes ≤ MOST_HOMES)
  pub sample : (1 ≤ o.sample) × (o.sample ≤ o.homes)
  pub queues : (1 ≤ o.queues) × (o.queues ≤ MOST_QUEUES)
  pub rows : (1 ≤ o.rows) × (o.rows ≤ MOST_ROWS)
  pub flights : (o.homes ≤ o.flights) × (o.flights ≤ MOST_FLIGHTS)
  pub transit : (1 ≤ o.transit) × (o.transit ≤ MOST_TRANSIT)

-- a home takes its share of the rows in flight
abbrev pub limits_of : Options → Limits
limits_of o = record { rows = o.rows; flights = o.flights / o.homes }
