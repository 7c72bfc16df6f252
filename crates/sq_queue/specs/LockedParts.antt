-- What lies under the locks of a service.
use Rattle.std.specs.Prelude.{◌≡◌, ℕ, List, Some, slice_get}
use Rattle.sq_base.specs.declared.ids.HomeId.{HomeId}
use Rattle.sq_history.specs.HistoryValue.{HistoryValue}
use Rattle.sq_directory.specs.DirectoryHistory.{DirectoryHistory}
use Rattle.sq_ledger.specs.LedgerHistory.{LedgerHistory}
use Rattle.sq_history.specs.HomeIds.{home_id}

-- What lies under the lock of the home of this id, the directory or the ledger, as it is at one moment.
pub data LockedPart : Type 0 where
  AHome : (id : HomeId) → (home : HistoryValue) → LockedPart
  TheDirectory : (directory : DirectoryHistory) → LockedPart
  TheLedger : (ledger : LedgerHistory) → LockedPart

-- each id is that of the home at its index
abbrev pub ArePlaced : ℕ → List HomeId → Type 0
ArePlaced per_queue ids = (index : ℕ) (id : HomeId) → slice_get ids index ≡ Some id → id ≡ home_id per_queue index
