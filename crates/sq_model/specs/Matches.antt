-- When the histories of all parts and the records of all actors agree, and what may be wrong with them.
use Rattle.std.specs.Prelude.{◌≡◌, ◌⊎◌, ℕ, ◌<◌, Bool, true, false, not, ◌&&◌, List, slice_get, Option, Some, None}
use Rattle.sq_base.specs.StampValue.{StampValue}
use Rattle.sq_base.specs.Stamps.{Below}
use Rattle.sq_base.specs.declared.ids.HomeId.{HomeId}
use Rattle.sq_model.specs.declared.calls.HomeCall.{HomeCall}
use Rattle.sq_model.specs.declared.directory.Attributes.{Attributes}
use Rattle.sq_model.specs.declared.directory.QueueSettings.{QueueSettings}
use Rattle.sq_model.specs.declared.directory.DirectoryCall.TheVariants.{Create}
use Rattle.sq_model.specs.declared.directory.DirectoryReply.TheVariants.{Made}
use Rattle.sq_model.specs.declared.ledger.LedgerCall.{LedgerCall}
use Rattle.sq_model.specs.declared.ledger.LedgerCall.TheVariants.{AtHome, StartTask, CancelTask, ListTasks, FinishTask}
use Rattle.sq_model.specs.Replays.{HomeEvent}
use Rattle.sq_model.specs.Ledgers.{LedgerEvent, is_own}
use Rattle.sq_model.specs.Passages.{is_alone, is_leave}
use Rattle.sq_model.specs.Systems.{DirectoryEvent, as_ledger}
use Rattle.sq_model.specs.RecordValues.{HomeRecordValue, RecordValue, OfDirectory, OfLedger, OfHome, record_of, place_of_record, Journal, directory_record_of, home_record_of}

-- a home and all that was done to it
pub record HomeHistory : Type 0 where
  pub home : HomeId
  pub events : List HomeEvent

-- the k-th event of the home at an index in the list of all homes
pub record IsHomeEvent (homes : List HomeHistory) (j k : ℕ) (h : HomeHistory) (e : HomeEvent) : Type 0 where
  pub in_homes : slice_get homes j ≡ Some h
  pub in_events : slice_get h.events k ≡ Some e

-- the i-th record of the b-th journal
pub record IsRecordAt (journals : List Journal) (b i : ℕ) (journal : Journal) (n : RecordValue) : Type 0 where
  pub in_journals : slice_get journals b ≡ Some journal
  pub in_records : slice_get journal.records i ≡ Some n

-- an event made a queue of this number by this name, or found it
pub record IsCreate (e : DirectoryEvent) (name : List ℕ) (queue : ℕ) : Type 0 where
  pub attributes : Attributes
  pub made : QueueSettings
  pub call : e.call ≡ Create name attributes
  pub reply : e.reply ≡ Made made
  pub of_queue : made.queue ≡ queue

-- the name that a record has was its home's queue's before the step
abbrev pub IsNamed : List DirectoryEvent → HomeRecordValue → Option (List ℕ) → Type 0
IsNamed directory n None = Unit {0}
IsNamed directory n (Some name) = (k : ℕ) × (e : DirectoryEvent) × (slice_get directory k ≡ Some e) × Below e.stamp n.stamp × IsCreate e name n.home.queue

-- The record is that of an event of this actor. An event that a home shares with the ledger has a record of the home.
abbrev pub HasItsEvent : List DirectoryEvent → List LedgerEvent → List HomeHistory → ℕ → RecordValue → Type 0
HasItsEvent directory ledger homes actor (OfDirectory n) =
    (e : DirectoryEvent) × (slice_get directory n.index ≡ Some e) × (e.actor ≡ actor) × (n ≡ directory_record_of n.index e)
HasItsEvent directory ledger homes actor (OfLedger n) =
    (e : LedgerEvent) × (slice_get ledger n.index ≡ Some e) × (is_own e.call ≡ true) × (e.actor ≡ actor) × (n ≡ record_of n.index e)
HasItsEvent directory ledger homes actor (OfHome n) =
    (j : ℕ) × (h : HomeHistory) × (e : HomeEvent) × IsHomeEvent homes j n.index h e × (e.actor ≡ actor) × (n ≡ home_record_of h.home n.index n.name e) × IsNamed directory n n.name

-- the records of this actor have one of this event
pub record IsRecorded (journals : List Journal) (actor : ℕ) (IsOf : RecordValue → Type 0) : Type 0 where
  pub at : ℕ
  pub index : ℕ
  pub journal : Journal
  pub its_record : RecordValue
  pub in_list : IsRecordAt journals at index journal its_record
  pub of_actor : journal.actor ≡ actor
  pub of_event : IsOf its_record

-- a record of the k-th event of the directory
abbrev pub IsOfDirectory : ℕ → DirectoryEvent → RecordValue → Type 0
IsOfDirectory k e its_record = its_record ≡ OfDirectory (directory_record_of k e)

-- a record of the k-th event of a home
abbrev pub IsOfHome : HomeId → ℕ → HomeEvent → RecordValue → Type 0
IsOfHome home k e its_record = (name : Option (List ℕ)) × (its_record ≡ OfHome (home_record_of home k name e))

-- a record of the k-th event of the ledger
abbrev pub IsOfLedger : ℕ → LedgerEvent → RecordValue → Type 0
IsOfLedger k e its_record = its_record ≡ OfLedger (record_of k e)

-- an event that this home shares with the ledger stands in the ledger's history too
abbrev pub InLedger : List LedgerEvent → HomeId → HomeEvent → Type 0
InLedger ledger home e = (i : ℕ) × (slice_get ledger i ≡ Some (as_ledger home e))

-- and one that the ledger shares with a home, in that home's
abbrev pub InHome : List HomeHistory → LedgerEvent → Type 0
InHome homes e = (j : ℕ) × (k : ℕ) × (h : HomeHistory) × (f : HomeEvent) × IsHomeEvent homes j k h f × (is_alone f.call ≡ false) × (e ≡ as_ledger h.home f)

-- What a home and the ledger share stands in the histories of both.
pub record IsPaired (ledger : List LedgerEvent) (homes : List HomeHistory) : Type 0 where
  pub in_ledger : (j k : ℕ) (h : HomeHistory) (e : HomeEvent) → IsHomeEvent homes j k h e → is_alone e.call ≡ false → InLedger ledger h.home e
  pub in_home : (k : ℕ) (e : LedgerEvent) → slice_get ledger k ≡ Some e → is_own e.call ≡ false → InHome homes e

-- what a home and the ledger share is a leave, or else it is done with an item
abbrev pub is_of_item : HomeCall → Bool
is_of_item call = not (is_alone call) && not (is_leave call)

abbrev pub is_shared_as : (HomeCall → Bool) → LedgerCall → Bool
is_shared_as kind (AtHome home call) = kind call
is_shared_as kind (StartTask source destination rate) = false
is_shared_as kind (CancelTask number) = false
is_shared_as kind (ListTasks source most) = false
is_shared_as kind (FinishTask number) = false

-- a step of a kind, of this stamp, stands in the history of a home and not in the ledger's
pub record IsOnlyAtHome (kind : HomeCall → Bool) (ledger : List LedgerEvent) (homes : List HomeHistory) (stamp : StampValue) : Type 0 where
  pub at : ℕ
  pub index : ℕ
  pub home : HomeHistory
  pub event : HomeEvent
  pub in_home : IsHomeEvent homes at index home event
  pub of_kind : kind event.call ≡ true
  pub stamped : event.stamp ≡ stamp
  pub alone : InLedger ledger home.home event → ⊥

-- and one that stands in the ledger's history and in no home's
pub record IsOnlyInLedger (kind : HomeCall → Bool) (ledger : List LedgerEvent) (homes : List HomeHistory) (stamp : StampValue) : Type 0 where
  pub index : ℕ
  pub event : LedgerEvent
  pub in_ledger : slice_get ledger index ≡ Some event
  pub of_kind : is_shared_as kind event.call ≡ true
  pub stamped : event.stamp ≡ stamp
  pub alone : InHome homes event → ⊥

-- what the faults of unmatched steps say: a leave of this stamp has no partner, or what is done with an item has none
abbrev pub IsUnmatched : (HomeCall → Bool) → List LedgerEvent → List HomeHistory → StampValue → Type 0
IsUnmatched kind ledger homes stamp = IsOnlyAtHome kind ledger homes stamp ⊎ IsOnlyInLedger kind ledger homes stamp

-- Each record is of an event, each event has a record, one that stands in two histories once, and the numbers of an actor's records are 0, 1, 2 and so on, each once.
pub record IsMatched (directory : List DirectoryEvent) (ledger : List LedgerEvent) (homes : List HomeHistory) (journals : List Journal) : Type 0 where
  pub has_its_event : (b i : ℕ) (journal : Journal) (n : RecordValue) → IsRecordAt journals b i journal n → HasItsEvent directory ledger homes journal.actor n
  pub ledger_recorded : (k : ℕ) (e : LedgerEvent) → slice_get ledger k ≡ Some e → is_own e.call ≡ true → IsRecorded journals e.actor (IsOfLedger k e)
  pub directory_recorded : (k : ℕ) (e : DirectoryEvent) → slice_get directory k ≡ Some e → IsRecorded journals e.actor (IsOfDirectory k e)
  pub homes_recorded : (j k : ℕ) (h : HomeHistory) (e : HomeEvent) → IsHomeEvent homes j k h e → IsRecorded journals e.actor (IsOfHome h.home k e)
  pub once : (b c i j : ℕ) (journal other : Journal) (n m : RecordValue) → IsRecordAt journals b i journal n → IsRecordAt journals c j other m → journal.actor ≡ other.actor → place_of_record n ≡ place_of_record m → (b ≡ c) × (i ≡ j)
  pub full : (b i : ℕ) (journal : Journal) (n : RecordValue) (place : ℕ) → IsRecordAt journals b i journal n → place < place_of_record n → IsRecorded journals journal.actor (λ m. place_of_record m ≡ place)
