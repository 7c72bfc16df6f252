-- Where rows are counted: in a whole system, and in what comes into a home by a drain.
use Rattle.std.specs.Prelude.{◌≡◌, List}
use Rattle.std.specs.List.{All, AllByRecursion}
use Rattle.sq_model.specs.declared.item.Item.{Item}
use Rattle.sq_model.specs.declared.item.Reason.TheVariants.{Drain}
use Rattle.sq_model.specs.Rows.{IsCounted}
use Rattle.sq_model.specs.Lineages.{rows_of}
use Rattle.sq_model.specs.Passages.{Alone, Leaves, ComesIn, GoesBack, IsDropped, Passage, passage_of}
use Rattle.sq_model.specs.Replays.{HomeEvent}
use Rattle.sq_model.specs.Systems.{HomeAt, System}

abbrev pub IsHomeCounted : HomeAt → Type 0
IsHomeCounted at = All IsCounted (rows_of at.home)

abbrev pub IsItemCounted : Item → Type 0
IsItemCounted item = IsCounted item.row

-- each row of each home is counted, and that of each message in transit
pub record IsSystemCounted (s : System) : Type 0 where
  pub homes : AllByRecursion IsHomeCounted s.homes
  pub items : AllByRecursion IsItemCounted s.ledger.items

-- An item of a drain that comes in, or comes back, has a counted row. It alone keeps its receive number and its last receive.
abbrev pub ComesInCounted : Passage → Type 0
ComesInCounted Alone = Unit {0}
ComesInCounted Leaves = Unit {0}
ComesInCounted (ComesIn item) = item.reason ≡ Drain → IsItemCounted item
ComesInCounted (GoesBack item) = Unit {0}
ComesInCounted (IsDropped item) = Unit {0}

-- each item of a drain that came in or came back in a history of a home had a counted row
abbrev pub DrainsCameInCounted : List HomeEvent → Type 0
DrainsCameInCounted events = AllByRecursion (λ e. ComesInCounted (passage_of e.call)) events
