-- What the steps of calls ask, their replies, and the records that they leave with their actor.
use Rattle.std.specs.Prelude.{◌≡◌, ◌⊎◌, ℕ, ◌+◌, List, [], ◌∷◌, ◌++◌, length, Option, Some, None, Result, Ok, Err}
use Rattle.std.specs.List.{All}
use Rattle.sq_base.specs.StampValue.{StampValue}
use Rattle.sq_base.specs.Stamps.{Below}
use Rattle.sq_base.specs.declared.ids.HomeId.{HomeId}
use Rattle.sq_base.specs.declared.refusal.Refusal.{Refusal}
use Rattle.sq_base.specs.declared.refusal.Refusal.TheVariants.{NoMemory, ClockRange, Worn, InvalidAttributeValue, InvalidParameterValue, PurgeQueueInProgress, QueueDeletedRecently, QueueDoesNotExist, QueueNameExists, OverLimit, ReceiptHandleIsInvalid, ResourceNotFoundException, MessageNotInflight, TableFull, UnsupportedOperation, HomeDraining}
use Rattle.sq_model.specs.declared.directory.DirectoryCall.{DirectoryCall}
use Rattle.sq_model.specs.declared.directory.DirectoryCall.TheVariants as asks
use Rattle.sq_model.specs.declared.directory.DirectoryReply.{DirectoryReply}
use Rattle.sq_model.specs.declared.directory.DirectoryReply.TheVariants as answers
use Rattle.sq_model.specs.declared.replies.HomeReply.{HomeReply}
use Rattle.sq_model.specs.declared.replies.HomeReply.TheVariants as reply
use Rattle.sq_model.specs.declared.calls.HomeCall.{HomeCall}
use Rattle.sq_model.specs.declared.calls.HomeCall.TheVariants as at_home
use Rattle.sq_model.specs.declared.item.Item.{Item}
use Rattle.sq_model.specs.declared.ledger.LedgerReply.{LedgerReply}
use Rattle.sq_model.specs.declared.ledger.LedgerReply.TheVariants as ledger
use Rattle.sq_model.specs.declared.task.Task.{Task}
use Rattle.sq_model.specs.Directories.{MoveEnds}
use Rattle.sq_model.specs.RecordValues.{HomeRecordValue, DirectoryRecordValue, LedgerRecordValue, RecordValue, OfDirectory, OfLedger, OfHome, place_of_record, record_stamp, Journal}
use Rattle.sq_history.specs.declared.act.HomeAct.{HomeAct}
use Rattle.sq_history.specs.declared.act.HomeAct.TheVariants as act
use Rattle.sq_history.specs.Acts.{call_of}
use Rattle.sq_directory.specs.Makers.{IsSeen}
use Rattle.sq_log.specs.Spares.{KeepsSpare}
use Rattle.sq_steps.specs.Journals.{having_seen, with_record}
use Rattle.sq_model.specs.declared.shared.SharedAct.{SharedAct}
use Rattle.sq_model.specs.declared.shared.SharedAct.TheVariants as move
use Rattle.sq_model.specs.declared.task.NamedQueue.{NamedQueue}
use Rattle.sq_steps.specs.declared.act.NextItem.{NextItem}
use Rattle.sq_steps.specs.declared.act.TaskAct.{TaskAct}
use Rattle.sq_steps.specs.declared.act.TaskAct.TheVariants as task
use Rattle.sq_steps.specs.TaskActs.{task_call}
use Rattle.sq_calls.specs.ReceivedValue.{AreReceived}

-- What a step asks: the queue of a name, which is a read; a step of the directory; a step of a home, and one that a home shares
-- with the ledger, each by the queue's name that was used, if any; which item in transit comes after a number, which is a read; between which queues messages may be moved, which is a read; a step of
-- the ledger alone; and a task, which is a read.
pub data Ask : Type 0 where
  Resolve : (name : List ℕ) → Ask
  AskDirectory : (call : DirectoryCall) → Ask
  AskHome : (name : Option (List ℕ)) (home : HomeId) (act : HomeAct) → Ask
  AskShared : (name : Option (List ℕ)) (home : HomeId) (what : SharedAct) → Ask
  Peek : (after : ℕ) → Ask
  Redriven : (source : List ℕ) (destination : Option (List ℕ)) → Ask
  AskLedger : (what : TaskAct) → Ask
  ReadTask : (number : ℕ) → Ask

-- what it is answered where it is not refused
pub data Gave : Type 0 where
  Found : (queue : NamedQueue) → Gave
  Answered : (reply : DirectoryReply) → Gave
  Replied : (reply : HomeReply) → Gave
  Nothing : Gave
  Peeked : (next : Option NextItem) → Gave
  Ends : (ends : MoveEnds) → Gave
  Told : (reply : LedgerReply) → Gave
  TaskFound : (found : Task) → Gave

-- what a step gives, where it is not refused
abbrev pub gave_as : {A : Type 0} → (A → Gave) → Result A Refusal → Result Gave Refusal
gave_as kind (Ok reply) = Ok (kind reply)
gave_as kind (Err e) = Err e

-- nothing was there to leave, or the reply of both
abbrev pub moved_of : Result (Option HomeReply) Refusal → Result Gave Refusal
moved_of (Ok (Some reply)) = Ok (Replied reply)
moved_of (Ok None) = Ok Nothing
moved_of (Err e) = Err e

-- a step that was asked, and what was answered; what is refused is no step of the system, and is asked all the same
pub record Done : Type 0 where
  pub ask : Ask
  pub answered : Result Gave Refusal

-- how many homes a queue has, and how many of them a receive asks
pub record HomeCounts : Type 0 where
  pub homes : ℕ
  pub sample : ℕ

-- what the directory answers to a call
abbrev pub IsAnswerTo : DirectoryCall → DirectoryReply → Type 0
IsAnswerTo (asks.Create name given) (answers.Made made) = Unit {0}
IsAnswerTo (asks.Set name given) (answers.Changed changed) = Unit {0}
IsAnswerTo (asks.Remove name) (answers.Removed number) = Unit {0}
IsAnswerTo (asks.PurgeTicket name) (answers.Ticket number) = Unit {0}
IsAnswerTo (asks.Url name) (answers.Found number) = Unit {0}
IsAnswerTo (asks.List prefix) (answers.Listed names) = Unit {0}
IsAnswerTo (asks.Sources name) (answers.Sources names) = Unit {0}
IsAnswerTo (asks.Read name) (answers.Read attributes) = Unit {0}
IsAnswerTo call other = ⊥

-- what a home replies to an act
abbrev pub IsReplyTo : HomeAct → HomeReply → Type 0
IsReplyTo (act.Configure settings version) reply.Done = Unit {0}
IsReplyTo act.Close reply.Done = Unit {0}
IsReplyTo (act.Send body delay) (reply.Sent sent) = Unit {0}
IsReplyTo (act.Look max timeout) (reply.Looked rows) = AreReceived rows
IsReplyTo (act.Look max timeout) reply.Over = Unit {0}
IsReplyTo (act.Delete receipt) reply.Done = Unit {0}
IsReplyTo (act.Change receipt timeout) reply.Done = Unit {0}
IsReplyTo act.Purge reply.Done = Unit {0}
IsReplyTo act.Count (reply.Counted counts) = Unit {0}
IsReplyTo act.StartDrain reply.Done = Unit {0}
IsReplyTo act.FinishDrain reply.Done = Unit {0}
IsReplyTo act other = ⊥

-- what the ledger tells of a step of its own
abbrev pub IsToldTo : TaskAct → LedgerReply → Type 0
IsToldTo (task.Start asked) (ledger.Started number) = Unit {0}
IsToldTo (task.Cancel number) (ledger.Cancelled moved) = Unit {0}
IsToldTo (task.List source most) (ledger.Listed tasks) = Unit {0}
IsToldTo (task.Finish number) ledger.Finished = Unit {0}
IsToldTo what other = ⊥

-- what may refuse each step: memory, the clock, a count at its end
abbrev pub IsOfAnyStep : Refusal → Type 0
IsOfAnyStep e = (e ≡ NoMemory) ⊎ (e ≡ ClockRange) ⊎ (e ≡ Worn)

-- and what may refuse this act at a home that serves
abbrev pub IsOfAct : HomeAct → Refusal → Type 0
IsOfAct (act.Configure settings version) e = ⊥
IsOfAct act.Close e = ⊥
IsOfAct (act.Send body delay) e = (e ≡ HomeDraining) ⊎ (e ≡ OverLimit)
IsOfAct (act.Look max timeout) e = ⊥
IsOfAct (act.Delete receipt) e = e ≡ ReceiptHandleIsInvalid
IsOfAct (act.Change receipt timeout) e = (e ≡ ReceiptHandleIsInvalid) ⊎ (e ≡ MessageNotInflight) ⊎ (e ≡ InvalidParameterValue)
IsOfAct act.Purge e = ⊥
IsOfAct act.Count e = ⊥
IsOfAct act.StartDrain e = ⊥
IsOfAct act.FinishDrain e = e ≡ UnsupportedOperation

-- and what may refuse this call of the directory
abbrev pub MayRefuseDirectory : DirectoryCall → Refusal → Type 0
MayRefuseDirectory (asks.Create name given) e = (e ≡ QueueNameExists) ⊎ (e ≡ QueueDeletedRecently) ⊎ (e ≡ InvalidAttributeValue) ⊎ (e ≡ TableFull)
MayRefuseDirectory (asks.Set name given) e = (e ≡ QueueDoesNotExist) ⊎ (e ≡ InvalidAttributeValue)
MayRefuseDirectory (asks.Remove name) e = e ≡ QueueDoesNotExist
MayRefuseDirectory (asks.PurgeTicket name) e = (e ≡ QueueDoesNotExist) ⊎ (e ≡ PurgeQueueInProgress)
MayRefuseDirectory (asks.Url name) e = e ≡ QueueDoesNotExist
MayRefuseDirectory (asks.List prefix) e = ⊥
MayRefuseDirectory (asks.Sources name) e = e ≡ QueueDoesNotExist
MayRefuseDirectory (asks.Read name) e = e ≡ QueueDoesNotExist

-- and what may refuse this step of a home and the ledger
abbrev pub IsOfMove : SharedAct → Refusal → Type 0
IsOfMove move.LeaveDead e = e ≡ OverLimit
IsOfMove move.LeaveDrain e = (e ≡ UnsupportedOperation) ⊎ (e ≡ OverLimit)
IsOfMove (move.LeaveTask number) e = (e ≡ ResourceNotFoundException) ⊎ (e ≡ UnsupportedOperation) ⊎ (e ≡ OverLimit)
IsOfMove (move.Enter number) e = (e ≡ HomeDraining) ⊎ (e ≡ OverLimit) ⊎ (e ≡ UnsupportedOperation)
IsOfMove (move.TurnBack number) e = e ≡ UnsupportedOperation
IsOfMove (move.GiveBack number) e = (e ≡ HomeDraining) ⊎ (e ≡ OverLimit) ⊎ (e ≡ UnsupportedOperation)
IsOfMove (move.Drop number) e = e ≡ UnsupportedOperation

-- what may refuse a step of a home and the ledger
abbrev pub MayRefuseMove : SharedAct → Refusal → Type 0
MayRefuseMove what e = IsOfAnyStep e ⊎ (e ≡ QueueDoesNotExist) ⊎ IsOfMove what e

-- and what may refuse this step of the ledger alone
abbrev pub IsOfTask : TaskAct → Refusal → Type 0
IsOfTask (task.Start asked) e = (e ≡ UnsupportedOperation) ⊎ (e ≡ OverLimit)
IsOfTask (task.Cancel number) e = (e ≡ ResourceNotFoundException) ⊎ (e ≡ UnsupportedOperation)
IsOfTask (task.List source most) e = ⊥
IsOfTask (task.Finish number) e = (e ≡ ResourceNotFoundException) ⊎ (e ≡ UnsupportedOperation)

-- what may refuse a step
abbrev pub MayRefuse : Ask → Refusal → Type 0
MayRefuse (Resolve name) e = (e ≡ QueueDoesNotExist) ⊎ (e ≡ NoMemory)
MayRefuse (AskDirectory call) e = IsOfAnyStep e ⊎ MayRefuseDirectory call e
MayRefuse (AskHome name home act) e = IsOfAnyStep e ⊎ (e ≡ QueueDoesNotExist) ⊎ IsOfAct act e
MayRefuse (AskShared name home what) e = MayRefuseMove what e
MayRefuse (Peek after) e = e ≡ NoMemory
MayRefuse (Redriven source destination) e = (e ≡ ResourceNotFoundException) ⊎ (e ≡ UnsupportedOperation) ⊎ (e ≡ NoMemory)
MayRefuse (AskLedger what) e = IsOfAnyStep e ⊎ IsOfTask what e
MayRefuse (ReadTask number) e = (e ≡ ResourceNotFoundException) ⊎ (e ≡ NoMemory)

-- a record of a step of the directory
pub record IsDirectoryRecord (call : DirectoryCall) (answered : DirectoryReply) (n : RecordValue) : Type 0 where
  pub its_record : DirectoryRecordValue
  pub value : n ≡ OfDirectory its_record
  pub asked : its_record.call ≡ call
  pub replied : its_record.reply ≡ answered

-- a record of a step of the ledger alone
pub record IsLedgerRecord (what : TaskAct) (answered : LedgerReply) (n : RecordValue) : Type 0 where
  pub its_record : LedgerRecordValue
  pub value : n ≡ OfLedger its_record
  pub asked : its_record.call ≡ task_call what
  pub replied : its_record.reply ≡ answered

-- the call of a step of a home and the ledger: for the task, or with the item, of this number
abbrev pub IsCallFor : SharedAct → HomeCall → Type 0
IsCallFor move.LeaveDead call = call ≡ at_home.LeaveDead
IsCallFor move.LeaveDrain call = call ≡ at_home.LeaveDrain
IsCallFor (move.LeaveTask number) call = call ≡ at_home.LeaveTask number
IsCallFor (move.Enter number) call = (item : Item) × (item.number ≡ number) × (call ≡ at_home.Enter item)
IsCallFor (move.TurnBack number) call = (item : Item) × (item.number ≡ number) × (call ≡ at_home.TurnBack item)
IsCallFor (move.GiveBack number) call = (item : Item) × (item.number ≡ number) × (call ≡ at_home.GiveBack item)
IsCallFor (move.Drop number) call = (item : Item) × (item.number ≡ number) × (call ≡ at_home.Drop item)

-- a record of a step at a home, by the name that was used, of a call that was asked
pub record IsStepRecord (name : Option (List ℕ)) (home : HomeId) (IsAsked : HomeCall → Type 0) (answered : HomeReply) (n : RecordValue) : Type 0 where
  pub its_record : HomeRecordValue
  pub value : n ≡ OfHome its_record
  pub at : its_record.home ≡ home
  pub asked : IsAsked its_record.call
  pub replied : its_record.reply ≡ answered
  pub by_name : its_record.name ≡ name

-- a record of a step of a home alone
abbrev pub IsHomeRecord : Option (List ℕ) → HomeId → HomeAct → HomeReply → RecordValue → Type 0
IsHomeRecord name home what answered n = IsStepRecord name home (λ call. call ≡ call_of what) answered n

-- a record of a step of a home and the ledger; it is the home's
abbrev pub IsMoveRecord : Option (List ℕ) → HomeId → SharedAct → HomeReply → RecordValue → Type 0
IsMoveRecord name home what answered n = IsStepRecord name home (IsCallFor what) answered n

-- the records of a step that was done: its own, and none of a read, nor where nothing was there to leave
abbrev pub AreOfReply : Ask → Gave → List RecordValue → Type 0
AreOfReply (Resolve name) (Found queue) ns = ns ≡ []
AreOfReply (AskDirectory call) (Answered reply) ns = (n : RecordValue) × IsDirectoryRecord call reply n × (ns ≡ n ∷ [])
AreOfReply (AskHome name home act) (Replied reply) ns = (n : RecordValue) × IsHomeRecord name home act reply n × (ns ≡ n ∷ [])
AreOfReply (AskShared name home what) (Replied reply) ns = (n : RecordValue) × IsMoveRecord name home what reply n × (ns ≡ n ∷ [])
AreOfReply (AskShared name home what) Nothing ns = ns ≡ []
AreOfReply (Peek after) (Peeked next) ns = ns ≡ []
AreOfReply (Redriven source destination) (Ends ends) ns = ns ≡ []
AreOfReply (AskLedger what) (Told reply) ns = (n : RecordValue) × IsLedgerRecord what reply n × (ns ≡ n ∷ [])
AreOfReply (ReadTask number) (TaskFound found) ns = ns ≡ []
AreOfReply ask gave ns = ⊥

-- the records of a step; what was refused has none
abbrev pub AreOfStep : Ask → Result Gave Refusal → List RecordValue → Type 0
AreOfStep ask (Ok gave) ns = AreOfReply ask gave ns
AreOfStep ask (Err e) ns = ns ≡ []

-- the records of steps, in their order
abbrev pub AreOf : List Done → List RecordValue → Type 0
AreOf [] ns = ns ≡ []
AreOf (d ∷ ds) ns = (front : List RecordValue) × (rest : List RecordValue) × AreOfStep d.ask d.answered front × AreOf ds rest × (ns ≡ front ++ rest)

-- a record is the actor's next one: it has the next number, and a stamp above all that the actor had seen, which it has seen then
abbrev pub IsNext : Journal → RecordValue → Journal → Type 0
IsNext before n after = (place_of_record n ≡ before.next) × Below before.seen (record_stamp n) × (after ≡ with_record before n after.spare) × KeepsSpare before.spare after.spare

-- A step leaves its one record with its actor; a read leaves none, and raises what the actor has seen; what is refused, or is no step since nothing was there to leave, changes nothing.
abbrev pub LeavesOf : Ask → Result Gave Refusal → Journal → Journal → Type 0
LeavesOf (Resolve name) (Ok (Found queue)) before after = (last : StampValue) × (after ≡ having_seen before last)
LeavesOf (AskDirectory call) (Ok (Answered reply)) before after = (n : RecordValue) × IsDirectoryRecord call reply n × IsNext before n after
LeavesOf (AskHome name home act) (Ok (Replied reply)) before after = (n : RecordValue) × IsHomeRecord name home act reply n × IsNext before n after
LeavesOf (AskShared name home what) (Ok (Replied reply)) before after = (n : RecordValue) × IsMoveRecord name home what reply n × IsNext before n after
LeavesOf (AskShared name home what) (Ok Nothing) before after = after ≡ before
LeavesOf (Peek number) (Ok (Peeked next)) before after = (last : StampValue) × (after ≡ having_seen before last)
LeavesOf (Redriven source destination) (Ok (Ends ends)) before after = (last : StampValue) × (after ≡ having_seen before last)
LeavesOf (AskLedger what) (Ok (Told reply)) before after = (n : RecordValue) × IsLedgerRecord what reply n × IsNext before n after
LeavesOf (ReadTask number) (Ok (TaskFound found)) before after = (last : StampValue) × (after ≡ having_seen before last)
LeavesOf (Resolve name) (Err e) before after = after ≡ before
LeavesOf (AskDirectory call) (Err e) before after = after ≡ before
LeavesOf (AskHome name home act) (Err e) before after = after ≡ before
LeavesOf (AskShared name home what) (Err e) before after = after ≡ before
LeavesOf (Peek number) (Err e) before after = after ≡ before
LeavesOf (Redriven source destination) (Err e) before after = after ≡ before
LeavesOf (AskLedger what) (Err e) before after = after ≡ before
LeavesOf (ReadTask number) (Err e) before after = after ≡ before
LeavesOf ask answered before after = ⊥

-- these records have this number and the numbers after it, and each a stamp above this one and above those before it
abbrev pub Follow : ℕ → StampValue → List RecordValue → Type 0
Follow next seen [] = Unit {0}
Follow next seen (n ∷ ns) = (place_of_record n ≡ next) × Below seen (record_stamp n) × Follow (next + 1) (record_stamp n) ns

-- An actor has these records more: with the next numbers, at rising stamps above all that it had seen before, which it has seen then.
pub record Gains (ns : List RecordValue) (before after : Journal) : Type 0 where
  pub added : after.records ≡ before.records ++ ns
  pub follow : Follow before.next before.seen ns
  pub above : All (λ n. Below before.seen (record_stamp n)) ns
  pub within : All (λ n. IsSeen (record_stamp n) after.seen) ns
  pub saw : IsSeen before.seen after.seen
  pub counted : after.next ≡ before.next + length ns
  pub same_actor : after.actor ≡ before.actor
