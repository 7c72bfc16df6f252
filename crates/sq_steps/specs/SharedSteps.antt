-- A step that a home and the ledger do together.
use Rattle.std.specs.Prelude.{◌≡◌, ◌≢◌, ◌⊎◌, ℕ, true, List, Option, Some, None, Ok, Err}
use Rattle.sq_base.specs.StampValue.{StampValue}
use Rattle.sq_base.specs.declared.refusal.Refusal.{Refusal}
use Rattle.sq_base.specs.declared.refusal.Refusal.TheVariants.{NoMemory}
use Rattle.sq_model.specs.declared.event.Actor.{Actor}
use Rattle.sq_model.specs.declared.replies.HomeReply.{HomeReply}
use Rattle.sq_model.specs.declared.shared.SharedAct.{SharedAct}
use Rattle.sq_model.specs.declared.shared.SharedAct.TheVariants as asks
use Rattle.sq_model.specs.Ledgers.{Ledger, item_of}
use Rattle.sq_model.specs.RecordValues.{HomeRecordValue, OfHome, Journal, actor_of}
use Rattle.sq_model.specs.Shared.{IsCallOf, IsUnrecorded, shared_refusal, shared_stamp}
use Rattle.sq_history.specs.Halves.{HasItem, has_live_row}
use Rattle.sq_log.specs.Spares.{KeepsSpare}
use Rattle.sq_history.specs.HistoryValue.{HistoryValue}
use Rattle.sq_history.specs.Histories.{RecordsShared}
use Rattle.sq_ledger.specs.LedgerHistory.{LedgerHistory}
use Rattle.sq_ledger.specs.LedgerHistories.{LedgerShares}
use Rattle.sq_steps.specs.Journals.{IsNotReady, last_place, with_record}

-- Each half added one event, both with this stamp, call and reply. The record is one for both, and what is answered is what it says.
pub record BothDo (old new : HistoryValue) (ledger after : LedgerHistory) (by : Actor) (stamp : StampValue) (name : Option (List ℕ)) (act : SharedAct) (told : HomeReply × HomeRecordValue) : Type 0 where
  pub asked : IsCallOf ledger.ledger act told.1.call
  pub at_home : RecordsShared old new by stamp name told.1.call told.1
  pub in_ledger : LedgerShares ledger after by stamp old.site.home told.1.call told.1.reply
  pub answered : told.1.reply ≡ told.0

-- A home and the ledger go on by one event of the actor, that has the record of it and gets its reply.
pub record SharedMoves (old new : HistoryValue) (ledger after : LedgerHistory) (journal recorded_in : Journal) (now : ℕ) (name : Option (List ℕ)) (act : SharedAct) (reply : HomeReply) : Type 0 where
  pub its_record : HomeRecordValue
  pub stamped : shared_stamp old.last ledger.last journal.seen now ≡ Ok its_record.stamp
  pub both : BothDo old new ledger after (actor_of journal) its_record.stamp name act (reply, its_record)
  pub recorded_as : recorded_in ≡ with_record journal (OfHome its_record) recorded_in.spare
  pub spare : KeepsSpare journal.spare recorded_in.spare

-- nothing leaves, which is no step, though one could be counted
pub record IsUnmoved (old : HistoryValue) (ledger : LedgerHistory) (journal : Journal) (now : ℕ) (act : SharedAct) : Type 0 where
  pub countable : journal.next ≢ last_place
  pub stamp : StampValue
  pub stamped : shared_stamp old.last ledger.last journal.seen now ≡ Ok stamp
  pub unrecorded : IsUnrecorded old.site old.home ledger.ledger stamp.moment act

-- the item is copied before the clock, where it is there; what leaves is found after it
abbrev pub CopiesItem : Ledger → SharedAct → Type 0
CopiesItem l asks.LeaveDead = ⊥
CopiesItem l asks.LeaveDrain = ⊥
CopiesItem l (asks.LeaveTask number) = ⊥
CopiesItem l (asks.Enter number) = HasItem (item_of number l)
CopiesItem l (asks.TurnBack number) = HasItem (item_of number l)
CopiesItem l (asks.GiveBack number) = HasItem (item_of number l)
CopiesItem l (asks.Drop number) = HasItem (item_of number l)

-- memory is got before the clock: for the event of the ledger, for that of the home, or for copies of the item
abbrev pub GrowsFirst : HistoryValue → LedgerHistory → SharedAct → Type 0
GrowsFirst old ledger act = (ledger.spare ≡ 0) ⊎ (old.spare ≡ 0) ⊎ CopiesItem ledger.ledger act

-- What memory is got for where nothing refuses the step: for copies of a message that leaves, and a place in the ledger; for a row that comes in where the home shows no spare memory. A closed home, or one without a live message, answers a leave for a task with none.
abbrev pub GrowsLast : HistoryValue → ℕ → SharedAct → Type 0
GrowsLast old m asks.LeaveDead = Unit {0}
GrowsLast old m asks.LeaveDrain = Unit {0}
GrowsLast old m (asks.LeaveTask number) = has_live_row old.home m ≡ true
GrowsLast old m (asks.Enter number) = old.spare_rows ≡ 0
GrowsLast old m (asks.TurnBack number) = ⊥
GrowsLast old m (asks.GiveBack number) = old.spare_rows ≡ 0
GrowsLast old m (asks.Drop number) = ⊥

-- memory is got after all checks: nothing refuses the step, and something is there for it
abbrev pub GrowsAfter : HistoryValue → Ledger → ℕ → SharedAct → Type 0
GrowsAfter old l m act = (shared_refusal old.site old.home l m act ≡ None) × (IsUnrecorded old.site old.home l m act → ⊥) × GrowsLast old m act

-- Why neither half is done at m: the first check that fails; or, where none does, no memory was found for a message that leaves or a row that comes in.
abbrev pub IsPairRefused : HistoryValue → Ledger → ℕ → SharedAct → Refusal → Type 0
IsPairRefused old l m act e = ((e ≡ NoMemory) × GrowsAfter old l m act) ⊎ (shared_refusal old.site old.home l m act ≡ Some e)

-- Why an actor's step of both is refused: the actor's own causes; no memory for what is got before the clock; the clock's or the counts' check; or, at the stamp's moment, why neither half is done.
abbrev pub IsSharedRefused : HistoryValue → LedgerHistory → Journal → ℕ → SharedAct → Refusal → Type 0
IsSharedRefused old ledger journal now act e =
    IsNotReady journal now e
    ⊎ ((journal.next ≢ last_place)
    × (((e ≡ NoMemory) × GrowsFirst old ledger act)
    ⊎ (shared_stamp old.last ledger.last journal.seen now ≡ Err e)
    ⊎ ((stamp : StampValue) × (shared_stamp old.last ledger.last journal.seen now ≡ Ok stamp) × IsPairRefused old ledger.ledger stamp.moment act e)))
