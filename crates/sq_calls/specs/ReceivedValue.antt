-- What contracts see of the messages that a client is given.
use Rattle.std.specs.Prelude.{◌≤◌, List}
use Rattle.std.specs.List.{All}
use Rattle.sq_base.specs.declared.ids.HomeId.{HomeId}
use Rattle.sq_base.specs.declared.row.Row.{Row}
use Rattle.sq_calls.specs.declared.calls.AskedAttributes.{AskedAttributes}

-- which of their attributes are shown, the home that gave them, and the messages as they stand in it
pub record ReceivedValue : Type 0 where
  pub attributes : AskedAttributes
  pub home : HomeId
  pub rows : List Row

-- all of these were received
abbrev pub AreReceived : List Row → Type 0
AreReceived rows = All (λ row. 1 ≤ row.receives) rows
