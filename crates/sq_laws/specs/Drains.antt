-- What an operator is told of a drain: what leaves by it, what comes in by it, and what the home may still become.
use Rattle.std.specs.Prelude.{◌≡◌, ℕ, ◌+◌, false, true, List, [], ◌∷◌, ◌++◌}
use Rattle.std.specs.List.{AllByRecursion, Contains}
use Rattle.sq_base.specs.declared.row.Row.{Row}
use Rattle.sq_model.specs.declared.home_mode.HomeMode.TheVariants.{Draining, Drained}
use Rattle.sq_model.specs.declared.item.Item.{Item}
use Rattle.sq_model.specs.declared.item.Reason.TheVariants.{Drain}
use Rattle.sq_model.specs.declared.place.Site.{Site}
use Rattle.sq_model.specs.declared.replies.EnteredRow.{EnteredRow}
use Rattle.sq_model.specs.Rows.{Takes, is_in_flight}
use Rattle.sq_model.specs.Homes.{Closed, Contents, Home, Serving, Unopened, accepts, unexpired_rows}

-- a home whose drain has ended holds no row
abbrev pub IsEmptyOnceDrained : Home → Type 0
IsEmptyOnceDrained (Serving its) = its.mode ≡ Drained → its.rows ≡ []
IsEmptyOnceDrained Unopened = Unit {0}
IsEmptyOnceDrained Closed = Unit {0}

-- it serves and takes no messages, or it is closed
abbrev pub TakesNone : Home → Type 0
TakesNone (Serving its) = accepts its.mode ≡ false
TakesNone Unopened = ⊥
TakesNone Closed = Unit {0}

-- it serves and is drained, or it is closed
abbrev pub IsDrainedOrClosed : Home → Type 0
IsDrainedOrClosed (Serving its) = its.mode ≡ Drained
IsDrainedOrClosed Unopened = ⊥
IsDrainedOrClosed Closed = Unit {0}

-- The item is a message of a home that drains. It was there, unexpired and not in flight; it goes to the queue that it comes from, and the other rows stay.
pub record LeavesByDrain (site : Site) (its : Contents) (m : ℕ) (item : Item) (after : Home) : Type 0 where
  pub mode : its.mode ≡ Draining
  pub there : Contains (unexpired_rows its m) item.row
  pub at_rest : is_in_flight m item.row ≡ false
  pub because : item.reason ≡ Drain
  pub source : item.source ≡ site.home.queue
  pub target : item.target ≡ site.home.queue
  pub forward : item.homeward ≡ false
  pub others : (rest : List Row) × Takes item.row (unexpired_rows its m) rest × (after ≡ Serving (record its { rows = rest }))

-- one row is the other, at another home: only its serial and its slot may differ
pub record IsSameMessage (was is : Row) : Type 0 where
  pub id : is.id ≡ was.id
  pub lineage : is.lineage ≡ was.lineage
  pub body : is.body ≡ was.body
  pub enqueued : is.enqueued ≡ was.enqueued
  pub visible_from : is.visible_from ≡ was.visible_from
  pub receives : is.receives ≡ was.receives
  pub last_receive : is.last_receive ≡ was.last_receive
  pub origin : is.origin ≡ was.origin

-- the last row of a home is this one, with the next serial and the slot that was answered, and the others are as they were
pub record ComesInAsItWas (its : Contents) (m : ℕ) (was : Row) (entered : EnteredRow) (after : Home) : Type 0 where
  pub row : Row
  pub same : IsSameMessage was row
  pub serial : row.serial ≡ its.next
  pub slot : row.slot ≡ entered.slot
  pub last : after ≡ Serving (record its { next = its.next + 1; rows = unexpired_rows its m ++ row ∷ [] })

-- each row that is left is in flight, and there is one
abbrev pub AreAllInFlight : Contents → ℕ → Type 0
AreAllInFlight its m = AllByRecursion (λ row. is_in_flight m row ≡ true) (unexpired_rows its m) × ((row : Row) × Contains (unexpired_rows its m) row)
