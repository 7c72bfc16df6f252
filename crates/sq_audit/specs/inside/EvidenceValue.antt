-- What contracts see of the evidence that an audit compares.
use Rattle.std.specs.Prelude.{ℕ, List}
use Rattle.sq_model.specs.Ledgers.{LedgerEvent}
use Rattle.sq_model.specs.Systems.{DirectoryEvent}
use Rattle.sq_model.specs.RecordValues.{Journal}
use Rattle.sq_model.specs.Matches.{HomeHistory}

-- the histories of the directory and of the ledger, how many homes a queue has, the histories of all homes, and the actors with their records
pub record EvidenceValue : Type 0 where
  pub directory : List DirectoryEvent
  pub ledger : List LedgerEvent
  pub per_queue : ℕ
  pub homes : List HomeHistory
  pub journals : List Journal
