-- A step that a home and the ledger do together.
use Rattle.std.specs.Prelude.{◌≡◌, ℕ, IfOk, List, Option, Some, None, Result, Ok, Err}
use Rattle.sq_base.specs.StampValue.{StampValue}
use Rattle.sq_base.specs.Stamps.{Below}
use Rattle.sq_base.specs.declared.refusal.Refusal.{Refusal}
use Rattle.sq_base.specs.declared.ids.HomeId.{HomeId}
use Rattle.sq_model.specs.declared.calls.HomeCall.{HomeCall}
use Rattle.sq_model.specs.declared.event.Actor.{Actor}
use Rattle.sq_model.specs.declared.item.Item.{Item}
use Rattle.sq_model.specs.declared.replies.HomeReply.{HomeReply}
use Rattle.sq_model.specs.declared.replies.HomeReply.TheVariants.{Left}
use Rattle.sq_model.specs.declared.shared.SharedAct.{SharedAct}
use Rattle.sq_model.specs.Ledgers.{TakesOneMore, Ledger}
use Rattle.sq_model.specs.RecordValues.{HomeRecordValue}
use Rattle.sq_model.specs.Shared.{IsUnrecorded}
use Rattle.sq_history.specs.Halves.{IsHalfRefused, IsWithout}
use Rattle.sq_history.specs.HistoryValue.{HistoryValue}
use Rattle.sq_ledger.specs.LedgerHistory.{LedgerHistory, LedgerValue}
use Rattle.sq_ledger.specs.LedgerHistories.{IsLeaving, IsNoneLeft, IsPrepared}
use Rattle.sq_steps.specs.SharedSteps.{BothDo, CopiesItem, IsPairRefused}

-- what the ledger is told of a leave for a task: the item that left, or that none did
abbrev pub IsToldLeft : Ledger → ℕ → HomeId → ℕ → HomeCall → HomeReply → Option Item → Type 0
IsToldLeft l m home number call reply (Some item) = TakesOneMore l × (item.number ≡ l.next_item) × IsLeaving l m home call item × (reply ≡ Left item)
IsToldLeft l m home number call reply None = IsNoneLeft l m home number call reply

-- A step of both may be done at the stamp that is given, if one is: the ledger has memory for its event, and the stamp is above the last one of each and above what the actor saw.
pub record IsPairReady (old : HistoryValue) (ledger : LedgerValue) (by : Actor) (given : Result StampValue Refusal) : Type 0 where
  pub prepared : IsPrepared ledger
  pub above_home : IfOk given (Below old.last)
  pub above_ledger : IfOk given (Below ledger.history.last)
  pub above_seen : IfOk given (Below by.seen)

-- How a step of both ends: with an event in each history, at the stamp that was given; with nothing, where nothing leaves; or refused. Only the first changes anything.
abbrev pub PairEnds : HistoryValue → HistoryValue → LedgerHistory → LedgerHistory → Actor → Result StampValue Refusal → Option (List ℕ) → SharedAct → Result (Option (HomeReply × HomeRecordValue)) Refusal → Type 0
PairEnds old new ledger after by given name act (Ok (Some told)) = (given ≡ Ok told.1.stamp) × BothDo old new ledger after by told.1.stamp name act told
PairEnds old new ledger after by given name act (Ok None) = IsWithout given (λ m. IsUnrecorded old.site old.home ledger.ledger m act) × (new ≡ old) × (after ≡ ledger)
PairEnds old new ledger after by given name act (Err e) =
    IsHalfRefused old (CopiesItem ledger.ledger act) given (λ m x. IsPairRefused old ledger.ledger m act x) e × (new ≡ old) × (after ≡ ledger)
