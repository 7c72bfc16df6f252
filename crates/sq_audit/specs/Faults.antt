-- What may be wrong with histories and records, and what each fault says.
use Rattle.std.specs.Prelude.{◌≡◌, ◌≢◌, ◌⊎◌, ℕ, ◌<◌, true, List, slice_get, Some}
use Rattle.sq_model.specs.Ledgers.{LedgerEvent, is_own}
use Rattle.sq_model.specs.Passages.{is_leave}
use Rattle.sq_model.specs.Replays.{HomeEvent}
use Rattle.sq_model.specs.Systems.{DirectoryEvent}
use Rattle.sq_model.specs.RecordValues.{place_of_record, Journal}
use Rattle.sq_model.specs.Matches.{HomeHistory, IsHomeEvent, HasItsEvent, IsRecorded, IsOfDirectory, IsOfLedger, IsOfHome, IsUnmatched, is_of_item}
use Rattle.sq_audit.specs.declared.check.AuditFault.{AuditFault}
use Rattle.sq_audit.specs.declared.check.AuditFault.TheVariants.{NoMemory, RecordMissing, RecordTwice, LeaveUnmatched, EnterUnmatched}

-- where an event stands; one that a home shares with the ledger, at the home
pub data EventIndex : Type 0 where
  InDirectory : ℕ → EventIndex
  InLedger : ℕ → EventIndex
  InHome : ℕ → ℕ → EventIndex

-- the event there is this actor's, with this number among its own
abbrev pub IsBy : List DirectoryEvent → List LedgerEvent → List HomeHistory → ℕ → ℕ → EventIndex → Type 0
IsBy directory ledger homes actor place (InDirectory k) = (e : DirectoryEvent) × (slice_get directory k ≡ Some e) × (e.actor ≡ actor) × (e.place ≡ place)
IsBy directory ledger homes actor place (InLedger k) = (e : LedgerEvent) × (slice_get ledger k ≡ Some e) × (is_own e.call ≡ true) × (e.actor ≡ actor) × (e.place ≡ place)
IsBy directory ledger homes actor place (InHome j k) = (h : HomeHistory) × (e : HomeEvent) × IsHomeEvent homes j k h e × (e.actor ≡ actor) × (e.place ≡ place)

-- no record is of the event there
abbrev pub HasNoRecord : List DirectoryEvent → List LedgerEvent → List HomeHistory → List Journal → ℕ → EventIndex → Type 0
HasNoRecord directory ledger homes journals actor (InDirectory k) = (e : DirectoryEvent) → slice_get directory k ≡ Some e → IsRecorded journals actor (IsOfDirectory k e) → ⊥
HasNoRecord directory ledger homes journals actor (InLedger k) = (e : LedgerEvent) → slice_get ledger k ≡ Some e → IsRecorded journals actor (IsOfLedger k e) → ⊥
HasNoRecord directory ledger homes journals actor (InHome j k) = (h : HomeHistory) (e : HomeEvent) → IsHomeEvent homes j k h e → IsRecorded journals actor (IsOfHome h.home k e) → ⊥

-- an event of this actor and number without a record
pub record EventWithoutRecord (directory : List DirectoryEvent) (ledger : List LedgerEvent) (homes : List HomeHistory) (journals : List Journal) (actor place : ℕ) : Type 0 where
  pub event_index : EventIndex
  pub by : IsBy directory ledger homes actor place event_index
  pub alone : HasNoRecord directory ledger homes journals actor event_index

-- a record of this actor and number without its event, or without its name's queue
abbrev pub RecordWithoutEvent : List DirectoryEvent → List LedgerEvent → List HomeHistory → List Journal → ℕ → ℕ → Type 0
RecordWithoutEvent directory ledger homes journals actor place = IsRecorded journals actor (λ n. (place_of_record n ≡ place) × (HasItsEvent directory ledger homes actor n → ⊥))

-- no record of this number, but one of a higher number
abbrev pub Gap : List Journal → ℕ → ℕ → Type 0
Gap journals actor place = (IsRecorded journals actor (λ n. place_of_record n ≡ place) → ⊥) × IsRecorded journals actor (λ n. place < place_of_record n)

-- two events of this actor and number
pub record TwoEvents (directory : List DirectoryEvent) (ledger : List LedgerEvent) (homes : List HomeHistory) (actor place : ℕ) : Type 0 where
  pub one : EventIndex
  pub other : EventIndex
  pub differ : one ≢ other
  pub first : IsBy directory ledger homes actor place one
  pub second : IsBy directory ledger homes actor place other

-- what a fault says is so, and it is not that memory is out
abbrev pub IsWrong : List DirectoryEvent → List LedgerEvent → List HomeHistory → List Journal → AuditFault → Type 0
IsWrong directory ledger homes journals NoMemory = ⊥
IsWrong directory ledger homes journals (RecordMissing actor place) = EventWithoutRecord directory ledger homes journals actor place ⊎ RecordWithoutEvent directory ledger homes journals actor place ⊎ Gap journals actor place
IsWrong directory ledger homes journals (RecordTwice actor place) = TwoEvents directory ledger homes actor place
IsWrong directory ledger homes journals (LeaveUnmatched stamp) = IsUnmatched is_leave ledger homes stamp
IsWrong directory ledger homes journals (EnterUnmatched stamp) = IsUnmatched is_of_item ledger homes stamp

-- what a fault says is so; that memory is out says nothing
abbrev pub FaultHolds : List DirectoryEvent → List LedgerEvent → List HomeHistory → List Journal → AuditFault → Type 0
FaultHolds directory ledger homes journals NoMemory = Unit {0}
FaultHolds directory ledger homes journals fault = IsWrong directory ledger homes journals fault
