-- What contracts see of the homes of a service.
use Rattle.std.specs.Prelude.{ℕ, List}
use Rattle.sq_history.specs.HistoryValue.{HistoryValue}

-- how many homes a queue has, and all homes, the first queue's first
pub record HomesValue : Type 0 where
  pub per_queue : ℕ
  pub homes : List HistoryValue
