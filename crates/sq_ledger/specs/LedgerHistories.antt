-- What a step of the ledger does to it, its own or one that it shares with a home, and what is true of the ledger at all times.
use Rattle.std.specs.Prelude.{◌≡◌, ◌≢◌, ◌⊎◌, ℕ, ◌++◌, true, [], ◌∷◌, length, Some, None, Ok, Err}
use Rattle.sq_base.specs.StampValue.{StampValue}
use Rattle.sq_base.specs.Stamps.{start, after}
use Rattle.sq_base.specs.declared.ids.HomeId.{HomeId}
use Rattle.sq_base.specs.declared.refusal.Refusal.{Refusal}
use Rattle.sq_base.specs.declared.refusal.Refusal.TheVariants.{NoMemory}
use Rattle.sq_model.specs.declared.calls.HomeCall.{HomeCall}
use Rattle.sq_model.specs.declared.calls.HomeCall.TheVariants.{LeaveDead, LeaveDrain, LeaveTask}
use Rattle.sq_model.specs.declared.event.Actor.{Actor}
use Rattle.sq_model.specs.declared.item.Item.{Item}
use Rattle.sq_model.specs.declared.item.Reason.TheVariants.{DeadLetter, Task as ForTask, Drain}
use Rattle.sq_model.specs.declared.ledger.LedgerCall.{LedgerCall}
use Rattle.sq_model.specs.declared.ledger.LedgerCall.TheVariants as asks
use Rattle.sq_model.specs.declared.ledger.LedgerReply.{LedgerReply}
use Rattle.sq_model.specs.declared.ledger.LedgerReply.TheVariants as answers
use Rattle.sq_model.specs.declared.place.Component.TheVariants as part
use Rattle.sq_model.specs.declared.replies.HomeReply.{HomeReply}
use Rattle.sq_model.specs.declared.replies.HomeReply.TheVariants.{NoLiveRow, NoOrigin, SourceClosed}
use Rattle.sq_model.specs.declared.shared.ItemAct.{ItemAct}
use Rattle.sq_model.specs.declared.task.Task.{Task}
use Rattle.sq_model.specs.Homes.{IsFrom}
use Rattle.sq_model.specs.ItemActs.{IsItemReply, call_with, may_act}
use Rattle.sq_model.specs.Ledgers.{TakesOneMore, Ledger, LedgerEvent, LedgerStep, MayTake, last_task, ledger_refusal, opening_ledger}
use Rattle.sq_model.specs.RecordValues.{LedgerRecordValue, record_of}
use Rattle.sq_model.specs.Replays.{Replays, StampsRise}
use Rattle.sq_model.specs.Systems.{AreLedger}
use Rattle.sq_model.specs.Tasks.{may_leave, target_of}
use Rattle.sq_log.specs.Logs.{event_by}
use Rattle.sq_log.specs.Spares.{IsReady, KeepsSpare}
use Rattle.sq_ledger.specs.LedgerHistory.{LedgerHistory, LedgerValue}

-- the event of a step of this home, as it stands in the ledger's history
abbrev pub shared_event : StampValue → Actor → HomeId → HomeCall → HomeReply → LedgerEvent
shared_event stamp by home call reply = event_by stamp by (part.Home home) (asks.AtHome home call) (answers.AtHome reply)

-- Exactly one event was added: the ledger's half of a step that a home shares with it, at the step's stamp.
pub record LedgerShares (old new : LedgerHistory) (by : Actor) (stamp : StampValue) (home : HomeId) (call : HomeCall) (reply : HomeReply) : Type 0 where
  pub step : LedgerStep old.ledger stamp.moment (asks.AtHome home call) (answers.AtHome reply) new.ledger
  pub last : new.last ≡ stamp
  pub events : new.events ≡ old.events ++ shared_event stamp by home call reply ∷ []
  pub spare : KeepsSpare old.spare new.spare
  pub spare_tasks : new.spare_tasks ≡ old.spare_tasks

-- the event of a step of the ledger alone
abbrev pub own_event : StampValue → Actor → LedgerCall → LedgerReply → LedgerEvent
own_event stamp by call reply = event_by stamp by part.Ledger call reply

-- the start of a task uses memory for one, and no other call does
abbrev pub KeepsSpareTasks : LedgerCall → ℕ → ℕ → Type 0
KeepsSpareTasks (asks.StartTask source destination rate) old new = KeepsSpare old new
KeepsSpareTasks other old new = new ≡ old

-- Exactly one event was added: a step of the ledger alone at a new stamp, above its last and above what the actor had seen. The record is its own.
pub record LedgerRecords (old new : LedgerHistory) (by : Actor) (now : ℕ) (call : LedgerCall) (its_record : LedgerRecordValue) : Type 0 where
  pub stamped : after old.last by.seen now ≡ Ok its_record.stamp
  pub step : LedgerStep old.ledger its_record.stamp.moment call its_record.reply new.ledger
  pub last : new.last ≡ its_record.stamp
  pub events : new.events ≡ old.events ++ own_event its_record.stamp by call its_record.reply ∷ []
  pub spare : KeepsSpare old.spare new.spare
  pub spare_tasks : KeepsSpareTasks call old.spare_tasks new.spare_tasks
  pub record_is : its_record ≡ record_of (length old.events) (own_event its_record.stamp by call its_record.reply)

-- what a call takes memory for, beside its event: a task where there is no spare memory, and the tasks that are listed
abbrev pub LedgerTakesMemory : LedgerHistory → LedgerCall → Type 0
LedgerTakesMemory h (asks.StartTask source destination rate) = h.spare_tasks ≡ 0
LedgerTakesMemory h (asks.ListTasks source most) = last_task source h.ledger ≢ None
LedgerTakesMemory h other = ⊥

-- The first that fails, in order: memory, where it has to be got; the clock, and the counts; and the ledger's checks.
abbrev pub IsLedgerRefused : LedgerHistory → Actor → ℕ → LedgerCall → Refusal → Type 0
IsLedgerRefused old by now call e =
    ((e ≡ NoMemory) × ((old.spare ≡ 0) ⊎ LedgerTakesMemory old call))
    ⊎ (after old.last by.seen now ≡ Err e)
    ⊎ ((stamp : StampValue) × (after old.last by.seen now ≡ Ok stamp) × (ledger_refusal old.ledger stamp.moment call ≡ Some e))

-- there is memory for one event more
abbrev pub IsPrepared : LedgerValue → Type 0
IsPrepared v = IsReady v.history.spare v.reserved

-- what a home did with an item
pub record DoesItem (act : ItemAct) (home : HomeId) (call : HomeCall) (reply : HomeReply) (item : Item) : Type 0 where
  pub is_call : call ≡ call_with act item
  pub may : may_act act home item ≡ true
  pub replies : IsItemReply act reply

-- A message leaves this home as this item: a dead one, one of a drain for another home of its queue, or one for a task that takes messages from there and whose rate allows it, to where the task moves it.
abbrev pub IsLeaving : Ledger → ℕ → HomeId → HomeCall → Item → Type 0
IsLeaving l m home LeaveDead item = IsFrom home DeadLetter item
IsLeaving l m home LeaveDrain item = IsFrom home Drain item × (item.target ≡ home.queue)
IsLeaving l m home (LeaveTask number) item = IsFrom home (ForTask number) item × ((task : Task) × MayTake l home.queue number task × (may_leave m task ≡ true) × (Some item.target ≡ target_of task item.row))
-- no other call lets a message out
IsLeaving l m home call item = ⊥

-- A leave for the task of this number let no message out of this home: none was live; the one that was chosen has no queue to go to; or the home was closed.
abbrev pub IsNoneLeft : Ledger → ℕ → HomeId → ℕ → HomeCall → HomeReply → Type 0
IsNoneLeft l m home number (LeaveTask asked) NoLiveRow = (asked ≡ number) × ((task : Task) × MayTake l home.queue number task × (may_leave m task ≡ true))
IsNoneLeft l m home number (LeaveTask asked) (NoOrigin serial) = (asked ≡ number) × ((task : Task) × MayTake l home.queue number task × (may_leave m task ≡ true) × (task.destination ≡ None)) × TakesOneMore l
IsNoneLeft l m home number (LeaveTask asked) SourceClosed = (asked ≡ number) × ((task : Task) × MayTake l home.queue number task)
-- no other answer is without a message
IsNoneLeft l m home number call reply = ⊥

-- True at all times: the ledger is the replay of its events, whose stamps rise, and each event is its own or one that it shares.
pub record IsLedgerKept (h : LedgerHistory) : Type 0 where
  pub replays : Replays LedgerStep (opening_ledger h.ledger.limit) h.events h.ledger
  pub rising : StampsRise start h.events h.last
  pub own : AreLedger h.events
