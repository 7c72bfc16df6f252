-- Which steps a turn does, its word, up to a refusal, and what it makes of the item that was tried last or of the walk; nothing here speaks of states. Own.
use Rattle.std.specs.Prelude.{◌≡◌, ◌⊎◌, ℕ, ◌<◌, ◌≤◌, length, Bool, true, false, ◌&&◌, nat_lt, List, [], ◌∷◌, if◌then◌else◌, Option, Some, None, Result, Ok, Err}
use Rattle.sq_base.specs.declared.ids.HomeId.{HomeId}
use Rattle.sq_base.specs.declared.refusal.Refusal.{Refusal}
use Rattle.sq_base.specs.declared.refusal.Refusal.TheVariants.{NoMemory, ClockRange, Worn, QueueDoesNotExist, OverLimit, ResourceNotFoundException, UnsupportedOperation, HomeDraining}
use Rattle.sq_model.specs.declared.replies.HomeReply.{HomeReply}
use Rattle.sq_model.specs.declared.replies.HomeReply.TheVariants.{NoLiveRow}
use Rattle.sq_model.specs.declared.replies.HomeReply.TheVariants as reply
use Rattle.sq_model.specs.declared.ledger.LedgerReply.{LedgerReply}
use Rattle.sq_model.specs.declared.task.Task.{Task}
use Rattle.sq_model.specs.RecordValues.{RecordValue, Journal}
use Rattle.sq_model.specs.Tasks.{is_active, is_running}
use Rattle.sq_calls.specs.declared.turns.Turned.{Turned}
use Rattle.sq_calls.specs.declared.turns.Turned.TheVariants as word
use Rattle.sq_model.specs.declared.shared.SharedAct.{SharedAct}
use Rattle.sq_model.specs.declared.shared.SharedAct.TheVariants.{LeaveDead, LeaveDrain, LeaveTask, Enter, TurnBack, GiveBack, Drop}
use Rattle.sq_model.specs.declared.task.NamedQueue.{NamedQueue}
use Rattle.sq_steps.specs.declared.act.NextItem.{NextItem}
use Rattle.sq_steps.specs.declared.act.TaskAct.TheVariants.{Finish}
use Rattle.sq_actions.specs.declared.walk.Walk.{Walk}
use Rattle.sq_actions.specs.Asks.{Resolve, AskShared, Peek, ReadTask, Gave, Found, Replied, Nothing, Peeked, TaskFound, Done, Gains, IsOfAnyStep, MayRefuse}
use Rattle.sq_actions.specs.Calls.{home_numbered}
use Rattle.sq_actions.specs.Steps.{ledger_step, named}
use Rattle.sq_actions.specs.Walks.{after_nothing, after_other, row_again}

-- a home and the ledger are asked; the item after a number is read; a task is read
abbrev pub shared_step : Option (List ℕ) → HomeId → SharedAct → Result Gave Refusal → Done
shared_step name home what answered = record { ask = AskShared name home what; answered = answered }

abbrev pub peeking : ℕ → Result Gave Refusal → Done
peeking after answered = record { ask = Peek after; answered = answered }

abbrev pub task_read : ℕ → Result Gave Refusal → Done
task_read number answered = record { ask = ReadTask number; answered = answered }

-- The word for a leave for a task: no message was live; the task failed, since a message has no queue to go to, or its source is closed; or a message left. What such a leave never replies counts as that.
abbrev pub left_word : HomeReply → Turned
left_word reply.Done = word.Left
left_word (reply.Sent sent) = word.Left
left_word (reply.Looked rows) = word.Left
left_word reply.Over = word.Left
left_word (reply.Counted counts) = word.Left
left_word (reply.Left item) = word.Left
left_word reply.NoLiveRow = word.Nothing
left_word (reply.NoOrigin serial) = word.Failed
left_word reply.SourceClosed = word.Failed
left_word (reply.Entered entered) = word.Left

-- the word for a step that was done
abbrev pub word_of : SharedAct → HomeReply → Turned
word_of LeaveDead reply = word.Left
word_of LeaveDrain reply = word.Left
word_of (LeaveTask number) reply = left_word reply
word_of (Enter number) reply = word.Entered
word_of (TurnBack number) reply = word.Turned
word_of (GiveBack number) reply = word.Back
word_of (Drop number) reply = word.Dropped

-- Two words of a step: where nothing was done and nothing is wrong, since the task is at its rate, or no message is there to leave; and where it cannot be done any more, since the task takes no messages now, the home does not drain, or the item is not there for it.
abbrev pub words_apart : SharedAct → Turned × Turned
words_apart LeaveDead = (word.Nothing, word.Nothing)
words_apart LeaveDrain = (word.Nothing, word.Ended)
words_apart (LeaveTask number) = (word.Throttled, word.Ended)
words_apart (Enter number) = (word.Nothing, word.Nothing)
words_apart (TurnBack number) = (word.Nothing, word.Nothing)
words_apart (GiveBack number) = (word.Nothing, word.Nothing)
words_apart (Drop number) = (word.Nothing, word.Nothing)

abbrev pub none_word : SharedAct → Turned
none_word what = (words_apart what).0

abbrev pub over_word : SharedAct → Turned
over_word what = (words_apart what).1

-- the home of a step does not serve
abbrev pub is_closed : Result Gave Refusal → Bool
is_closed (Err QueueDoesNotExist) = true
is_closed other = false

-- what is refused as it is: what each step may be refused as, a home that does not serve, and a task that is not there
abbrev pub IsTold : SharedAct → Refusal → Type 0
IsTold (LeaveTask number) e = IsOfAnyStep e ⊎ (e ≡ QueueDoesNotExist) ⊎ (e ≡ ResourceNotFoundException)
IsTold other e = IsOfAnyStep e ⊎ (e ≡ QueueDoesNotExist)

-- The word for a step that moves a message: its own where it was done, the one for nothing, `full` where there is no room or the home takes no messages, and the one for a step that cannot be done any more.
abbrev pub WordFor : SharedAct → Result Gave Refusal → Result Turned Refusal → Type 0
WordFor what by answered =
    ((reply : HomeReply) × (by ≡ Ok (Replied reply)) × (answered ≡ Ok (word_of what reply)))
    ⊎ ((by ≡ Ok Nothing) × (answered ≡ Ok (none_word what)))
    ⊎ ((by ≡ Err OverLimit) × (answered ≡ Ok word.Full))
    ⊎ ((by ≡ Err HomeDraining) × (answered ≡ Ok word.Full))
    ⊎ ((by ≡ Err UnsupportedOperation) × (answered ≡ Ok (over_word what)))
    ⊎ ((e : Refusal) × IsTold what e × (by ≡ Err e) × (answered ≡ Err e))

-- The queue is looked up by its name, and a dead letter leaves one of its homes, by that name.
abbrev pub LeaveFits : ℕ → List ℕ → List Done → Result Turned Refusal → Type 0
LeaveFits homes name trace answered =
    ((e : Refusal) × MayRefuse (Resolve name) e × (trace ≡ named name (Err e) ∷ []) × (answered ≡ Err e))
    ⊎ ((queue : NamedQueue) × (home : ℕ) × (by : Result Gave Refusal) × (home < homes)
    × (trace ≡ named name (Ok (Found queue)) ∷ shared_step (Some name) (home_numbered queue.number home) LeaveDead by ∷ []) × WordFor LeaveDead by answered)

-- a home of the queue that an item goes to
abbrev pub home_ahead : NextItem → ℕ → HomeId
home_ahead next home = home_numbered (if next.homeward then next.source else next.target) home

-- how it comes in there, and what becomes of it where that home is closed
abbrev pub comes_in : NextItem → SharedAct
comes_in next = if next.homeward then GiveBack next.number else Enter next.number

abbrev pub goes_back : NextItem → SharedAct
goes_back next = if next.homeward then Drop next.number else TurnBack next.number

-- An item comes in at a home. A home that does not serve is asked to send it back, or to drop it; one that does not serve this either was never opened, or is not there.
abbrev pub Brings : NextItem → HomeId → List Done → Result Turned Refusal → Type 0
Brings next home trace answered =
    ((by : Result Gave Refusal) × (trace ≡ shared_step None home (comes_in next) by ∷ []) × (is_closed by ≡ false) × WordFor (comes_in next) by answered)
    ⊎ ((closed : Result Gave Refusal) × (by : Result Gave Refusal) × (trace ≡ shared_step None home (comes_in next) closed ∷ shared_step None home (goes_back next) by ∷ []) × (is_closed closed ≡ true)
    × (((is_closed by ≡ false) × WordFor (goes_back next) by answered) ⊎ ((is_closed by ≡ true) × (answered ≡ Ok word.Full))))

-- The item after the one that was tried last is brought to one of the homes of the queue that it goes to. It counts as tried whatever is answered then.
abbrev pub BringFits : ℕ → ℕ → ℕ → List Done → Result Turned Refusal → Type 0
BringFits homes before after trace answered =
    ((e : Refusal) × MayRefuse (Peek before) e × (trace ≡ peeking before (Err e) ∷ []) × (answered ≡ Err e) × (after ≡ before))
    ⊎ ((trace ≡ peeking before (Ok (Peeked None)) ∷ []) × (answered ≡ Ok word.Nothing) × (after ≡ before))
    ⊎ ((next : NextItem) × (home : ℕ) × (rest : List Done) × (home < homes) × (trace ≡ peeking before (Ok (Peeked (Some next))) ∷ rest) × Brings next (home_ahead next home) rest answered
    × (after ≡ next.number))

-- A walk after a home was asked for a message. It stays where the task is at its rate, and where memory, the clock or a count refused the step; a home that has none counts in the row; and
-- any other answer ends the row.
abbrev pub walk_after : ℕ → Walk → Result Gave Refusal → Walk
walk_after homes walk (Ok Nothing) = walk
walk_after homes walk (Ok (Replied NoLiveRow)) = after_nothing homes walk
walk_after homes walk (Err NoMemory) = walk
walk_after homes walk (Err ClockRange) = walk
walk_after homes walk (Err Worn) = walk
walk_after homes walk other = after_other homes walk

-- A message leaves the home of the task's source that the walk is at.
abbrev pub LeavesFor : ℕ → Task → Walk → Walk → List Done → Result Turned Refusal → Type 0
LeavesFor homes task before after trace answered =
    (by : Result Gave Refusal) × (trace ≡ shared_step None (home_numbered task.source.number before.home) (LeaveTask before.task) by ∷ []) × (after ≡ walk_after homes before by)
    × WordFor (LeaveTask before.task) by answered

-- the walk after the task was to finish: where it waits, the row starts again
abbrev pub walk_waiting : Walk → Result LedgerReply Refusal → Walk
walk_waiting walk (Err UnsupportedOperation) = row_again walk
walk_waiting walk other = walk

-- the word for a task that was to finish: messages of it may be in transit
abbrev pub finish_word : Result LedgerReply Refusal → Result Turned Refusal
finish_word (Ok reply) = Ok word.Finished
finish_word (Err UnsupportedOperation) = Ok word.Waiting
finish_word (Err e) = Err e

-- The task is to finish.
abbrev pub Finishes : Walk → Walk → List Done → Result Turned Refusal → Type 0
Finishes before after trace answered =
    (by : Result LedgerReply Refusal) × (trace ≡ ledger_step (Finish before.task) by ∷ []) × (after ≡ walk_waiting before by) × (answered ≡ finish_word by)

-- the task takes messages, and not each home in a row had none
abbrev pub goes_on : ℕ → Task → Walk → Bool
goes_on homes task walk = is_running task.status && nat_lt walk.nothings homes

-- What is done for a task that was read, by a walk for it, and the walk after that. A task that is over has ended.
abbrev pub ServesTask : ℕ → Task → Walk → Walk → List Done → Result Turned Refusal → Type 0
ServesTask homes task before after trace answered =
    ((is_active task.status ≡ false) × (trace ≡ []) × (answered ≡ Ok word.Ended) × (after ≡ before))
    ⊎ ((goes_on homes task before ≡ true) × LeavesFor homes task before after trace answered)
    ⊎ ((is_active task.status ≡ true) × (goes_on homes task before ≡ false) × Finishes before after trace answered)

-- The task of a walk is read, and then served by the walk.
abbrev pub ServeFits : ℕ → Walk → Walk → List Done → Result Turned Refusal → Type 0
ServeFits homes before after trace answered =
    ((e : Refusal) × MayRefuse (ReadTask before.task) e × (trace ≡ task_read before.task (Err e) ∷ []) × (answered ≡ Err e) × (after ≡ before))
    ⊎ ((task : Task) × (rest : List Done) × (trace ≡ task_read before.task (Ok (TaskFound task)) ∷ rest) × ServesTask homes task before after rest answered)

-- an actor has so many records more, or fewer: with the next numbers, at rising stamps above all that it had seen before
abbrev pub GainsAtMost : ℕ → Journal → Journal → Type 0
GainsAtMost most before after = (ns : List RecordValue) × Gains ns before after × (length ns ≤ most)
