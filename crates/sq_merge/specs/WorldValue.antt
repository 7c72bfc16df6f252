-- What contracts see of a world.
use Rattle.std.specs.Prelude.{ℕ, List}
use Rattle.sq_model.specs.RecordValues.{Journal}
use Rattle.sq_history.specs.HistoryValue.{HistoryValue}
use Rattle.sq_directory.specs.DirectoryHistory.{DirectoryHistory}
use Rattle.sq_ledger.specs.LedgerHistory.{LedgerHistory}
use Rattle.sq_merge.specs.declared.progress.ActorProgress.{ActorProgress}

-- the directory, the ledger, how many homes a queue has and how many of them a receive asks, all homes, the first queue's first, the actors in order of their first act, and how far the turns of each are
pub record WorldValue : Type 0 where
  pub directory : DirectoryHistory
  pub ledger : LedgerHistory
  pub per_queue : ℕ
  pub sample : ℕ
  pub homes : List HistoryValue
  pub journals : List Journal
  pub progress : List ActorProgress
