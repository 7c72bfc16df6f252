-- What may be wrong with histories and records, and what each fault says.
use Rattle.std.specs.Prelude.{◌≡◌, ◌≢◌, ◌⊎◌, ℕ, ◌<◌, true, false, if◌then◌else◌, List, length, slice_get, Some}
use Rattle.sq_base.specs.StampValue.{StampValue}
use Rattle.sq_base.specs.declared.ids.HomeId.{HomeId}
use Rattle.sq_model.specs.declared.calls.HomeCall.{HomeCall}
use Rattle.sq_model.specs.declared.event.Event.{Event}
use Rattle.sq_model.specs.declared.place.Component.TheVariants as component
use Rattle.sq_model.specs.Ledgers.{LedgerEvent, is_own}
use Rattle.sq_model.specs.Passages.{is_alone, is_leave}
use Rattle.sq_model.specs.Replays.{HomeEvent}
use Rattle.sq_model.specs.Systems.{DirectoryEvent}
use Rattle.sq_model.specs.RecordValues.{RecordValue, OfDirectory, OfLedger, OfHome, place_of_record, Journal}
use Rattle.sq_model.specs.Matches.{HomeHistory, IsHomeEvent, IsRecordAt, HasItsEvent, IsRecorded, IsOfDirectory, IsOfLedger, IsOfHome, InLedger as IsInLedger, InHome as IsInHome}
use Rattle.sq_history.specs.HomeIds.{home_id}
use Rattle.sq_audit.specs.declared.check.AuditFault.{AuditFault}
use Rattle.sq_audit.specs.declared.check.AuditFault.TheVariants.{RecordMissing, RecordTwice, LeaveUnmatched, EnterUnmatched}
use Rattle.sq_audit.specs.declared.check.Part.{Part}
use Rattle.sq_audit.specs.declared.check.Part.TheVariants as part

-- a record has the number of its place, and its event
abbrev pub RecordFits : List DirectoryEvent → List LedgerEvent → List HomeHistory → List Journal → ℕ → ℕ → Type 0
RecordFits directory ledger homes journals b i = (journal : Journal) (n : RecordValue) → IsRecordAt journals b i journal n → (place_of_record n ≡ i) × HasItsEvent directory ledger homes journal.actor n

-- an event has its record
abbrev pub DirectoryFits : List DirectoryEvent → List Journal → ℕ → Type 0
DirectoryFits directory journals k = (e : DirectoryEvent) → slice_get directory k ≡ Some e → IsRecorded journals e.actor (IsOfDirectory k e)

abbrev pub LedgerFits : List LedgerEvent → List Journal → ℕ → Type 0
LedgerFits ledger journals k = (e : LedgerEvent) → slice_get ledger k ≡ Some e → is_own e.call ≡ true → IsRecorded journals e.actor (IsOfLedger k e)

abbrev pub HomeFits : List HomeHistory → List Journal → ℕ → ℕ → Type 0
HomeFits homes journals j k = (h : HomeHistory) (e : HomeEvent) → IsHomeEvent homes j k h e → IsRecorded journals e.actor (IsOfHome h.home k e)

-- an event that a home shares with the ledger stands in the ledger's history too
abbrev pub LedgerHas : List LedgerEvent → List HomeHistory → ℕ → ℕ → Type 0
LedgerHas ledger homes j k = (h : HomeHistory) (e : HomeEvent) → IsHomeEvent homes j k h e → is_alone e.call ≡ false → IsInLedger ledger h.home e

-- and one that the ledger shares with a home, in that home's
abbrev pub HomeHas : List LedgerEvent → List HomeHistory → ℕ → Type 0
HomeHas ledger homes k = (e : LedgerEvent) → slice_get ledger k ≡ Some e → is_own e.call ≡ false → IsInHome homes e

-- what is said of a shared step of this stamp that has no partner
abbrev pub unmatched : HomeCall → StampValue → AuditFault
unmatched call stamp = if is_leave call then LeaveUnmatched stamp else EnterUnmatched stamp

-- what may be wrong with an event of the home that it names: it is shared with the ledger, whose history does not have it
pub record IsWithoutPartner (ledger : List LedgerEvent) (e : HomeEvent) (f : AuditFault) : Type 0 where
  pub shared : is_alone e.call ≡ false
  pub lost : (home : HomeId) → e.component ≡ component.Home home → IsInLedger ledger home e → ⊥
  pub told : f ≡ unmatched e.call e.stamp

-- what may be wrong with the record at an index of an actor's list
abbrev pub IsRecordFault : List DirectoryEvent → List LedgerEvent → List HomeHistory → ℕ → ℕ → RecordValue → AuditFault → Type 0
IsRecordFault directory ledger homes actor index n f =
    ((place_of_record n ≢ index) × (f ≡ RecordMissing actor index))
    ⊎ ((HasItsEvent directory ledger homes actor n → ⊥) × (f ≡ RecordMissing actor (place_of_record n)))

-- a record names this event of the directory, of the ledger alone, or of the home at an index
abbrev pub IsAt : ℕ → Part → ℕ → RecordValue → Type 0
IsAt per_queue part.Directory k (OfDirectory n) = n.index ≡ k
IsAt per_queue part.Ledger k (OfLedger n) = n.index ≡ k
IsAt per_queue (part.Home j) k (OfHome n) = (n.home ≡ home_id per_queue j) × (n.index ≡ k)
IsAt per_queue of k n = ⊥

-- a part that is a home is there
abbrev pub IsPartThere : List HomeHistory → Part → Type 0
IsPartThere homes part.Directory = Unit {0}
IsPartThere homes part.Ledger = Unit {0}
IsPartThere homes (part.Home j) = j < length homes

-- an actor has such a record at this index
abbrev pub IsRecordedAt : List Journal → ℕ → ℕ → (RecordValue → Type 0) → Type 0
IsRecordedAt journals actor index IsOf = (x : IsRecorded journals actor IsOf) × (x.index ≡ index)

-- what may be wrong with an event of this actor and number
abbrev pub IsEventFault : ℕ → List Journal → ℕ → ℕ → Part → ℕ → AuditFault → Type 0
IsEventFault per_queue journals actor place of k f =
    ((IsRecordedAt journals actor place (λ n. Unit {0}) → ⊥) × (f ≡ RecordMissing actor place))
    ⊎ (IsRecordedAt journals actor place (λ n. IsAt per_queue of k n → ⊥) × (f ≡ RecordTwice actor place))

-- an event of a part is named by its actor's record of its number
abbrev pub EventFits : {K R : Type 0} → ℕ → List Journal → Part → List (Event K R) → ℕ → Type 0
EventFits {K} {R} per_queue journals of events k = (e : Event K R) → slice_get events k ≡ Some e → IsRecordedAt journals e.actor e.place (IsAt per_queue of k)

-- what may be wrong with one of its events
abbrev pub HasEventFault : {K R : Type 0} → ℕ → List Journal → Part → List (Event K R) → AuditFault → Type 0
HasEventFault {K} {R} per_queue journals of events f = (k : ℕ) × (e : Event K R) × (slice_get events k ≡ Some e) × IsEventFault per_queue journals e.actor e.place of k f

-- an event that the home shares with the ledger stands in the ledger's history too
abbrev pub HasPartner : List LedgerEvent → HomeEvent → Type 0
HasPartner ledger e = is_alone e.call ≡ false → (home : HomeId) → e.component ≡ component.Home home → IsInLedger ledger home e
