-- What an actor keeps of the steps that it did.
use Rattle.std.specs.Prelude.{ℕ, ◌<◌, List, [], ◌∷◌, Option}
use Rattle.std.specs.List.{AllByRecursion}
use Rattle.sq_base.specs.StampValue.{StampValue}
use Rattle.sq_base.specs.Stamps.{Below}
use Rattle.sq_base.specs.declared.ids.HomeId.{HomeId}
use Rattle.sq_model.specs.declared.calls.HomeCall.{HomeCall}
use Rattle.sq_model.specs.declared.replies.HomeReply.{HomeReply}
use Rattle.sq_model.specs.declared.directory.DirectoryCall.{DirectoryCall}
use Rattle.sq_model.specs.declared.directory.DirectoryReply.{DirectoryReply}
use Rattle.sq_model.specs.declared.event.Actor.{Actor}
use Rattle.sq_model.specs.declared.event.StepRecord.{StepRecord}
use Rattle.sq_model.specs.declared.event.Event.{Event}
use Rattle.sq_model.specs.declared.ledger.LedgerCall.{LedgerCall}
use Rattle.sq_model.specs.declared.ledger.LedgerReply.{LedgerReply}
use Rattle.sq_model.specs.Replays.{HomeEvent}
use Rattle.sq_model.specs.Systems.{DirectoryEvent}

-- of a step of a home: the number of the step among the actor's, its stamp, its home, its index in the home's history, what was asked and answered, and the queue's name that the actor used
pub record HomeRecordValue : Type 0 where
  pub place : ℕ
  pub stamp : StampValue
  pub home : HomeId
  pub index : ℕ
  pub call : HomeCall
  pub reply : HomeReply
  pub name : Option (List ℕ)

-- of a step of the directory
abbrev pub DirectoryRecordValue : Type 0
DirectoryRecordValue = StepRecord DirectoryCall DirectoryReply

-- of a step of the ledger alone
abbrev pub LedgerRecordValue : Type 0
LedgerRecordValue = StepRecord LedgerCall LedgerReply

pub data RecordValue : Type 0 where
  OfDirectory : DirectoryRecordValue → RecordValue
  OfLedger : LedgerRecordValue → RecordValue
  OfHome : HomeRecordValue → RecordValue

abbrev pub place_of_record : RecordValue → ℕ
place_of_record (OfDirectory n) = n.place
place_of_record (OfLedger n) = n.place
place_of_record (OfHome n) = n.place

abbrev pub record_stamp : RecordValue → StampValue
record_stamp (OfDirectory n) = n.stamp
record_stamp (OfLedger n) = n.stamp
record_stamp (OfHome n) = n.stamp

-- an actor: the number of its next step, what it has seen, its records in their order, and for how many more there was memory when the last one was kept
pub record Journal : Type 0 where
  pub actor : ℕ
  pub next : ℕ
  pub seen : StampValue
  pub records : List RecordValue
  pub spare : ℕ

abbrev pub actor_of : Journal → Actor
actor_of journal = record { number = journal.actor; place = journal.next; seen = journal.seen }

-- of two records the later one has the higher number and the higher stamp
abbrev pub RecordsRise : List RecordValue → Type 0
RecordsRise [] = Unit {0}
RecordsRise (n ∷ ns) = AllByRecursion (λ m. (place_of_record n < place_of_record m) × Below (record_stamp n) (record_stamp m)) ns × RecordsRise ns

-- the record of an event of the directory or of the ledger, the index-th of its history
abbrev pub record_of : {K R : Type 0} → ℕ → Event K R → StepRecord K R
record_of index e = record { place = e.place; stamp = e.stamp; index = index; call = e.call; reply = e.reply }

abbrev pub directory_record_of : ℕ → DirectoryEvent → DirectoryRecordValue
directory_record_of index e = record_of index e

-- the record of an event of this home, the index-th of its history, by an actor that used this name
abbrev pub home_record_of : HomeId → ℕ → Option (List ℕ) → HomeEvent → HomeRecordValue
home_record_of home index name e = record { place = e.place; stamp = e.stamp; home = home; index = index; call = e.call; reply = e.reply; name = name }
