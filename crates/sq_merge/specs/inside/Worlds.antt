-- Steps of the whole system by actors, and what is true of it at all times.
use Rattle.std.specs.Prelude.{ℕ, List, Option, Some, None}
use Rattle.sq_model.specs.Systems.{DirectoryEvent}
use Rattle.sq_model.specs.RecordValues.{Journal}
use Rattle.sq_directory.specs.Makers.{IsMadeBy}

-- an actor knows a queue by a name: it was made by it before what the actor has seen
abbrev pub IsKnown : List DirectoryEvent → Journal → Option (List ℕ) → ℕ → Type 0
IsKnown directory journal None queue = Unit {0}
IsKnown directory journal (Some name) queue = IsMadeBy directory journal.seen name queue
