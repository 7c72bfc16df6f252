-- What a home's half of a step that it shares with the ledger gives.
use Rattle.std.specs.Prelude.{◌≡◌, ◌⊎◌, ℕ, true, false, List, Option, Result, Ok, Err, Some, None}
use Rattle.std.specs.List.{list_any}
use Rattle.sq_base.specs.StampValue.{StampValue}
use Rattle.sq_base.specs.declared.refusal.Refusal.{Refusal}
use Rattle.sq_base.specs.declared.refusal.Refusal.TheVariants.{NoMemory}
use Rattle.sq_base.specs.declared.row.Row.{Row}
use Rattle.sq_model.specs.declared.calls.HomeCall.{HomeCall}
use Rattle.sq_model.specs.declared.calls.HomeCall.TheVariants.{LeaveTask}
use Rattle.sq_model.specs.declared.event.Actor.{Actor}
use Rattle.sq_model.specs.declared.item.Item.{Item}
use Rattle.sq_model.specs.declared.place.Site.{Site}
use Rattle.sq_model.specs.declared.replies.HomeReply.{HomeReply}
use Rattle.sq_model.specs.declared.shared.HomeLeave.{HomeLeave}
use Rattle.sq_model.specs.declared.shared.HomeLeave.TheVariants.{Dead, Drain}
use Rattle.sq_model.specs.declared.shared.ItemAct.{ItemAct}
use Rattle.sq_model.specs.HomeLeaves.{leave_call}
use Rattle.sq_model.specs.declared.replies.HomeReply.TheVariants.{Left, NoLiveRow, NoOrigin, SourceClosed}
use Rattle.sq_model.specs.declared.task.Task.{Task}
use Rattle.sq_model.specs.Homes.{Home, Unopened, Serving, Closed, home_refusal, is_draining, unexpired_rows}
use Rattle.sq_model.specs.Rows.{is_at_rest, is_dead}
use Rattle.sq_model.specs.Tasks.{target_of}
pub use Rattle.sq_shard.specs.Moves.{IsLiveAt, PutsRow, has_live_row, item_refusal, leave_target}
use Rattle.sq_history.specs.HistoryValue.{HistoryValue}
use Rattle.sq_history.specs.Histories.{RecordsShared}
use Rattle.sq_history.specs.declared.shared.HomeHalf.{HomeHalf}
use Rattle.sq_task.specs.declared.leave.TaskLeave.{TaskLeave}

-- One event was added, of this call, at the stamp that was given. What is answered, and what the ledger is told, is what the record says.
pub record DoesHalf (old new : HistoryValue) (by : Actor) (given : Result StampValue Refusal) (name : Option (List ℕ)) (call : HomeCall) (half : HomeHalf) : Type 0 where
  pub stamped : given ≡ Ok half.its_record.stamp
  pub does : RecordsShared old new by half.its_record.stamp name call half.its_record
  pub answered : half.answered ≡ half.its_record.reply
  pub ledger_call : half.for_ledger.0 ≡ call
  pub ledger_reply : half.for_ledger.1 ≡ half.its_record.reply

-- nothing is done, for this reason at the moment of the stamp that was given
abbrev pub IsWithout : Result StampValue Refusal → (ℕ → Type 0) → Type 0
IsWithout given reason = (stamp : StampValue) × (given ≡ Ok stamp) × reason stamp.moment

-- Why a half is not done: no memory was found for the event, or for what else is got before the clock; no stamp was given; or, at its moment, the home does not do it.
abbrev pub IsHalfRefused : HistoryValue → Type 0 → Result StampValue Refusal → (ℕ → Refusal → Type 0) → Refusal → Type 0
IsHalfRefused old copies given refused e =
    ((e ≡ NoMemory) × ((old.spare ≡ 0) ⊎ copies))
    ⊎ (given ≡ Err e)
    ⊎ ((stamp : StampValue) × (given ≡ Ok stamp) × refused stamp.moment e)

-- a dead message is there
abbrev pub HasDead : Home → ℕ → Type 0
HasDead (Serving its) m = list_any (is_dead its.settings m) (unexpired_rows its m) ≡ true
HasDead Unopened m = ⊥
HasDead Closed m = ⊥

-- the home drains, and a message that is not in flight is there
abbrev pub HasToDrain : Home → ℕ → Type 0
HasToDrain (Serving its) m = (is_draining its.mode ≡ true) × (list_any (is_at_rest m) (unexpired_rows its m) ≡ true)
HasToDrain Unopened m = ⊥
HasToDrain Closed m = ⊥

-- a message that may leave so is there
abbrev pub MayOneLeave : HomeLeave → Home → ℕ → Type 0
MayOneLeave Dead home m = HasDead home m
MayOneLeave Drain home m = HasToDrain home m

-- Why no message leaves a home's rows so: no memory was found for copies of one that may leave; the home's first check that fails; or the ledger takes none in.
abbrev pub IsLeaveRefused : HomeLeave → Site → Home → ℕ → Result ℕ Refusal → Refusal → Type 0
IsLeaveRefused what site home m number e =
    ((e ≡ NoMemory) × MayOneLeave what home m × ((n : ℕ) × (number ≡ Ok n)))
    ⊎ (home_refusal site home m (leave_call what) ≡ Some e)
    ⊎ (MayOneLeave what home m × (number ≡ Err e))

-- the item is there
abbrev pub HasItem : Option Item → Type 0
HasItem item = (it : Item) × (item ≡ Some it)

-- Why an item is not done with by a home's rows: the first check that fails; or, where none does and its row comes in, no memory was found where the home shows no spare memory.
abbrev pub IsActRefused : ItemAct → ℕ → Option Refusal → Refusal → Type 0
IsActRefused act spare_rows first e = ((e ≡ NoMemory) × (first ≡ None) × PutsRow act × (spare_rows ≡ 0)) ⊎ (first ≡ Some e)

-- the task takes messages of this home, as the ledger says
abbrev pub IsTaker : TaskLeave → Task → Type 0
IsTaker asked task = asked.task ≡ Ok task

-- its rate allows a leave, and the ledger takes in the item of this number
abbrev pub TakesItem : TaskLeave → ℕ → Type 0
TakesItem asked number = (asked.allowed ≡ true) × (asked.item ≡ Ok number)

-- What a leave for this task is answered, and the item that left. A message that may leave goes to the task's destination, or without one to the queue that it came from; a closed home asks for no rate.
abbrev pub IsTaskAnswer : TaskLeave → Task → HomeReply → Option Item → Type 0
IsTaskAnswer asked task (Left item) left = TakesItem asked item.number × (Some item.target ≡ target_of task item.row) × (left ≡ Some item)
IsTaskAnswer asked task NoLiveRow left = (asked.allowed ≡ true) × (left ≡ None)
IsTaskAnswer asked task (NoOrigin serial) left = ((number : ℕ) × TakesItem asked number) × (task.destination ≡ None) × (left ≡ None)
IsTaskAnswer asked task SourceClosed left = left ≡ None
-- no other reply is given
IsTaskAnswer asked task reply left = ⊥

abbrev pub IsServing : Home → Type 0
IsServing (Serving its) = Unit {0}
IsServing Unopened = ⊥
IsServing Closed = ⊥

-- the home serves, and the task that takes its messages is at its rate
abbrev pub IsThrottled : Home → TaskLeave → Type 0
IsThrottled home asked = IsServing home × ((task : Task) × IsTaker asked task) × (asked.allowed ≡ false)

-- a live message may leave for the task, and has a queue to go to
abbrev pub HasLeaving : Home → ℕ → TaskLeave → Type 0
HasLeaving home m asked =
    (task : Task) × (row : Row) × (number : ℕ) × (target : ℕ) × IsTaker asked task × IsLiveAt home m row × TakesItem asked number × (target_of task row ≡ Some target)

-- Why nothing is done for a task at a home: no memory was found for copies of a message that leaves; the home's first check that fails; the task takes no message of it; or the ledger takes none in where a live one may leave.
abbrev pub IsTaskRefused : Site → Home → ℕ → TaskLeave → Refusal → Type 0
IsTaskRefused site home m asked e =
    ((e ≡ NoMemory) × HasLeaving home m asked)
    ⊎ (home_refusal site home m (LeaveTask asked.number) ≡ Some e)
    ⊎ ((home_refusal site home m (LeaveTask asked.number) ≡ None) × (asked.task ≡ Err e))
    ⊎ (((task : Task) × IsTaker asked task) × (asked.allowed ≡ true) × (has_live_row home m ≡ true) × (asked.item ≡ Err e))
