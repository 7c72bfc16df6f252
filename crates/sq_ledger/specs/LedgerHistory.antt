-- What contracts see of the ledger with its history.
use Rattle.std.specs.Prelude.{ℕ, ◌+◌, List, length, map}
use Rattle.sq_base.specs.StampValue.{StampValue}
use Rattle.sq_model.specs.declared.item.Item.{Item}
use Rattle.sq_model.specs.declared.ledger.LedgerCall.{LedgerCall}
use Rattle.sq_model.specs.declared.ledger.LedgerReply.{LedgerReply}
use Rattle.sq_model.specs.declared.shared.ItemAct.{ItemAct}
use Rattle.sq_model.specs.declared.shared.ItemAct.TheVariants.{Enter, TurnBack, GiveBack, Drop}
use Rattle.sq_model.specs.Ledgers.{Ledger, LedgerEvent, items_without, turned_if}
use Rattle.sq_model.specs.declared.task.Task.{Task}
use Rattle.sq_log.specs.LogValue.{LogValue}
use Rattle.sq_log.specs.Spares.{GrowingValue}

-- the items in transit, and for how many more there is memory
pub record ItemsValue : Type 0 where
  pub items : List Item
  pub reserved : ℕ

-- the items once this was done with the one of a number
abbrev pub items_after : ItemAct → ℕ → List Item → List Item
items_after Enter number items = items_without number items
items_after TurnBack number items = map (turned_if number) items
items_after GiveBack number items = items_without number items
items_after Drop number items = items_without number items

-- the ledger of these items and tasks, with the number of the next item and the limit
abbrev pub ledger_with : List Item → ℕ → List Task → ℕ → Ledger
ledger_with items next tasks limit = record { items = items; next_item = next; tasks = tasks; next_task = length tasks + 1; limit = limit }

pub record LedgerHistory : Type 0 where
  pub ledger : Ledger
  pub last : StampValue
  pub events : List LedgerEvent
  -- for how many events more there was memory when the last one was added
  pub spare : ℕ
  -- for how many tasks more there was memory when the last one was started
  pub spare_tasks : ℕ

-- with the history that a log has
abbrev pub history_of : List Item → ℕ → GrowingValue Task → ℕ → LogValue LedgerCall LedgerReply → LedgerHistory
history_of items next tasks limit log = record { ledger = ledger_with items next tasks.items limit; last = log.last; events = log.events; spare = log.spare; spare_tasks = tasks.spare }

-- with the memory that it has now, for so many events and items more
pub record LedgerValue : Type 0 where
  pub history : LedgerHistory
  pub reserved : ℕ
  pub item_reserved : ℕ
