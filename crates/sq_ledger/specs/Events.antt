-- A history of the ledger has the event of a record.
use Rattle.std.specs.Prelude.{◌≡◌, ℕ, List, true, slice_get, Some}
use Rattle.sq_model.specs.Ledgers.{LedgerEvent, is_own}
use Rattle.sq_model.specs.RecordValues.{LedgerRecordValue, record_of}

-- a history of the ledger has the event of a record of this actor, and it is the ledger's alone
abbrev pub HasLedgerEvent : List LedgerEvent → ℕ → LedgerRecordValue → Type 0
HasLedgerEvent events actor n = (e : LedgerEvent) × (slice_get events n.index ≡ Some e) × (is_own e.call ≡ true) × (e.actor ≡ actor) × (n ≡ record_of n.index e)
