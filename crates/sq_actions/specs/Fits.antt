-- Which steps a call does, and what it tells of them, up to a stop; nothing here speaks of states.
use Rattle.std.specs.Prelude.{◌≡◌, ◌⊎◌, ℕ, zero, suc, ◌<◌, ◌≤◌, Bool, true, false, List, [], ◌∷◌, ◌++◌, length, slice_get, Option, Some, None, Result, Ok, Err}
use Rattle.rand.specs.Sample.{IsSampleOf}
use Rattle.sq_base.specs.declared.refusal.Refusal.{Refusal}
use Rattle.sq_base.specs.declared.refusal.Refusal.TheVariants.{InvalidParameterValue, NoMemory, QueueDoesNotExist, OverLimit, ResourceNotFoundException}
use Rattle.sq_base.specs.declared.row.Row.{Row}
use Rattle.sq_model.specs.declared.directory.Attributes.{Attributes}
use Rattle.sq_model.specs.declared.directory.DirectoryCall.{DirectoryCall}
use Rattle.sq_model.specs.declared.directory.DirectoryCall.TheVariants.{Create, PurgeTicket, Read, Remove, Set, Sources, Url}
use Rattle.sq_model.specs.declared.directory.DirectoryCall.TheVariants.{List as ListNames}
use Rattle.sq_model.specs.declared.directory.DirectoryReply.{DirectoryReply}
use Rattle.sq_model.specs.declared.directory.DirectoryReply.TheVariants as told
use Rattle.sq_model.specs.declared.directory.QueueAttributes.{QueueAttributes}
use Rattle.sq_model.specs.declared.ledger.LedgerReply.{LedgerReply}
use Rattle.sq_model.specs.declared.ledger.LedgerReply.TheVariants as ledger
use Rattle.sq_model.specs.declared.replies.Counts.{Counts}
use Rattle.sq_model.specs.declared.task.Task.{Task}
use Rattle.sq_model.specs.Directories.{MoveEnds}
use Rattle.sq_ledger.specs.declared.task_calls.TaskStart.{TaskStart}
use Rattle.sq_steps.specs.declared.act.TaskAct.{TaskAct}
use Rattle.sq_steps.specs.declared.act.TaskAct.TheVariants as task
use Rattle.sq_model.specs.Policies.{has_list}
use Rattle.sq_model.specs.declared.replies.HomeReply.{HomeReply}
use Rattle.sq_model.specs.declared.replies.HomeReply.TheVariants as reply
use Rattle.sq_model.specs.declared.task.NamedQueue.{NamedQueue}
use Rattle.sq_history.specs.declared.act.HomeAct.{HomeAct}
use Rattle.sq_history.specs.declared.act.HomeAct.TheVariants.{Configure, Close, Look, Purge, Count}
use Rattle.sq_calls.specs.declared.calls.Answer.{Answer}
use Rattle.sq_calls.specs.declared.calls.Answer.TheVariants as answer
use Rattle.sq_calls.specs.declared.calls.Call.{Call}
use Rattle.sq_calls.specs.declared.calls.Call.TheVariants as call
use Rattle.sq_calls.specs.declared.calls.CreateQueue.{CreateQueue}
use Rattle.sq_calls.specs.declared.calls.GetQueueAttributes.{GetQueueAttributes}
use Rattle.sq_calls.specs.declared.calls.ListMessageMoveTasks.{ListMessageMoveTasks}
use Rattle.sq_calls.specs.declared.calls.QueueCounts.{QueueCounts}
use Rattle.sq_calls.specs.declared.calls.ReceiveMessage.{ReceiveMessage}
use Rattle.sq_calls.specs.declared.calls.SetQueueAttributes.{SetQueueAttributes}
use Rattle.sq_calls.specs.MoveTasks.{is_destination}
use Rattle.sq_calls.specs.declared.calls.StartMessageMoveTask.{StartMessageMoveTask}
use Rattle.sq_actions.specs.Asks.{Resolve, AskDirectory, AskHome, Redriven, AskLedger, Found, Ends, Done, HomeCounts, IsAnswerTo, IsOfAnyStep, MayRefuse}
use Rattle.sq_actions.specs.Steps.{named, directory_step, home_step, redriven, ledger_step}
use Rattle.sq_actions.specs.Entries.{OneFits, BatchAt}
use Rattle.sq_calls.specs.declared.batches.EntryAsk.TheVariants as ask
use Rattle.sq_actions.specs.Calls.{home_numbered, counted_homes, counts_with, no_counts, received_from}

-- A call on a queue: the queue is looked up by its name, and what is left is done after that.
abbrev pub ByName : List ℕ → (ℕ → List Done → Result Answer Refusal → Type 0) → List Done → Result Answer Refusal → Type 0
ByName name At trace answered =
    ((e : Refusal) × MayRefuse (Resolve name) e × (trace ≡ named name (Err e) ∷ []) × (answered ≡ Err e))
    ⊎ ((queue : NamedQueue) × (rest : List Done) × (trace ≡ named name (Ok (Found queue)) ∷ rest) × At queue.number rest answered)

-- a home that was asked did it; or it is closed, and is passed over
abbrev pub IsPassed : Result HomeReply Refusal → Type 0
IsPassed answered = (answered ≡ Ok reply.Done) ⊎ (answered ≡ Err QueueDoesNotExist)

-- homes 0 to n - 1 of a queue were asked this, one after another
abbrev pub AskedAll : List ℕ → ℕ → HomeAct → ℕ → List Done → Type 0
AskedAll name queue act zero trace = trace ≡ []
AskedAll name queue act (suc n) trace =
    (front : List Done) × (answered : Result HomeReply Refusal) × AskedAll name queue act n front × IsPassed answered × (trace ≡ front ++ home_step name queue n act answered ∷ [])

-- All homes of a queue are asked this, and the call is answered so; a refusal that each step may have ends it.
abbrev pub AtAll : ℕ → List ℕ → ℕ → HomeAct → Answer → List Done → Result Answer Refusal → Type 0
AtAll homes name queue act answer trace answered =
    (AskedAll name queue act homes trace × (answered ≡ Ok answer))
    ⊎ ((n : ℕ) × (front : List Done) × (e : Refusal) × (n < homes) × AskedAll name queue act n front × IsOfAnyStep e
    × (trace ≡ front ++ home_step name queue n act (Err e) ∷ []) × (answered ≡ Err e))

-- A call that begins with a step of the directory; what is left is done after that.
abbrev pub ByDirectory : DirectoryCall → (DirectoryReply → List Done → Result Answer Refusal → Type 0) → List Done → Result Answer Refusal → Type 0
ByDirectory call After trace answered =
    ((e : Refusal) × MayRefuse (AskDirectory call) e × (trace ≡ directory_step call (Err e) ∷ []) × (answered ≡ Err e))
    ⊎ ((by : DirectoryReply) × (rest : List Done) × IsAnswerTo call by × (trace ≡ directory_step call (Ok by) ∷ rest) × After by rest answered)

-- What all homes of a queue are asked once the directory has changed it: they take its settings, close, or let go of their messages.
abbrev pub ThenAll : ℕ → List ℕ → Answer → DirectoryReply → List Done → Result Answer Refusal → Type 0
ThenAll homes name answer (told.Made made) trace answered = AtAll homes name made.queue (Configure made.settings made.version) answer trace answered
ThenAll homes name answer (told.Changed changed) trace answered = AtAll homes name changed.queue (Configure changed.settings changed.version) answer trace answered
ThenAll homes name answer (told.Removed number) trace answered = AtAll homes name number Close answer trace answered
ThenAll homes name answer (told.Ticket number) trace answered = AtAll homes name number Purge answer trace answered
ThenAll homes name answer other trace answered = ⊥

-- attributes are copied for the first step; where they list queues memory may be out before it
abbrev pub Copied : Attributes → (List Done → Result Answer Refusal → Type 0) → List Done → Result Answer Refusal → Type 0
Copied given Fits trace answered = ((has_list given.allow ≡ true) × (trace ≡ []) × (answered ≡ Err NoMemory)) ⊎ Fits trace answered

-- CreateQueue: the queue is made, where it is not there, and then its homes take its settings
abbrev pub CreateFits : ℕ → CreateQueue → List Done → Result Answer Refusal → Type 0
CreateFits homes c = Copied c.attributes (ByDirectory (Create c.name c.attributes) (ThenAll homes c.name (answer.Queue c.name)))

-- SetQueueAttributes: the queue takes them, and then its homes do
abbrev pub SetFits : ℕ → SetQueueAttributes → List Done → Result Answer Refusal → Type 0
SetFits homes c = Copied c.attributes (ByDirectory (Set c.queue c.attributes) (ThenAll homes c.queue answer.Done))

-- GetQueueUrl, ListQueues, ListDeadLetterSourceQueues: the directory's reply is the answer
abbrev pub TellsUrl : List ℕ → DirectoryReply → List Done → Result Answer Refusal → Type 0
TellsUrl name (told.Found number) rest answered = (rest ≡ []) × (answered ≡ Ok (answer.Queue name))
TellsUrl name other rest answered = ⊥

abbrev pub TellsQueues : DirectoryReply → List Done → Result Answer Refusal → Type 0
TellsQueues (told.Listed names) rest answered = (rest ≡ []) × (answered ≡ Ok (answer.Queues names))
TellsQueues other rest answered = ⊥

abbrev pub TellsSources : DirectoryReply → List Done → Result Answer Refusal → Type 0
TellsSources (told.Sources names) rest answered = (rest ≡ []) × (answered ≡ Ok (answer.Sources names))
TellsSources other rest answered = ⊥

-- Homes 0 to n - 1 of a queue counted their messages, and this is the sum.
abbrev pub CountedAll : List ℕ → ℕ → ℕ → QueueCounts → List Done → Type 0
CountedAll name queue zero sum trace = (sum ≡ no_counts) × (trace ≡ [])
CountedAll name queue (suc n) sum trace =
    (front : List Done) × (before : QueueCounts) × (counts : Counts) × CountedAll name queue n before front × (sum ≡ counts_with before counts)
    × (trace ≡ front ++ home_step name queue n Count (Ok (reply.Counted counts)) ∷ [])

-- the queue with its attributes, and those of them that are asked for
abbrev pub shown_of : GetQueueAttributes → QueueAttributes → QueueCounts → Answer
shown_of c attributes counts = answer.Attributes (record { queue = c.queue; asked = c.asked; attributes = attributes; counts = counts })

-- All homes of a queue count their messages where a count is asked for, and none else; a refusal that a count may have ends the call.
abbrev pub CountsAt : ℕ → GetQueueAttributes → QueueAttributes → List Done → Result Answer Refusal → Type 0
CountsAt homes c attributes trace answered =
    ((sum : QueueCounts) × CountedAll c.queue attributes.queue (counted_homes homes c.asked) sum trace × (answered ≡ Ok (shown_of c attributes sum)))
    ⊎ ((n : ℕ) × (front : List Done) × (before : QueueCounts) × (e : Refusal) × (n < counted_homes homes c.asked) × CountedAll c.queue attributes.queue n before front
    × MayRefuse (AskHome (Some c.queue) (home_numbered attributes.queue n) Count) e × (trace ≡ front ++ home_step c.queue attributes.queue n Count (Err e) ∷ []) × (answered ≡ Err e))

abbrev pub Shows : ℕ → GetQueueAttributes → DirectoryReply → List Done → Result Answer Refusal → Type 0
Shows homes c (told.Read attributes) trace answered = CountsAt homes c attributes trace answered
Shows homes c other trace answered = ⊥

-- a home that is asked gives no message: it has none, or too many in flight; whether any home so far has
abbrev pub HasNoMessage : HomeReply → Bool → Bool → Type 0
HasNoMessage by was over = ((by ≡ reply.Looked []) × (over ≡ was)) ⊎ ((by ≡ reply.Over) × (over ≡ true))

-- The first n of these homes were asked, one after another, and gave no message; whether one of them has too many in flight.
abbrev pub InVain : ReceiveMessage → ℕ → List ℕ → ℕ → Bool → List Done → Type 0
InVain c queue drawn zero over trace = (over ≡ false) × (trace ≡ [])
InVain c queue drawn (suc n) over trace =
    (front : List Done) × (was : Bool) × (home : ℕ) × (by : HomeReply) × InVain c queue drawn n was front × (slice_get drawn n ≡ Some home) × HasNoMessage by was over
    × (trace ≡ front ++ home_step c.queue queue home (Look c.max c.timeout) (Ok by) ∷ [])

-- a home ends a receive: it gives messages, or refuses
abbrev pub EndsReceive : ReceiveMessage → ℕ → ℕ → Result HomeReply Refusal → Result Answer Refusal → Type 0
EndsReceive c queue home by answered =
    ((row : Row) × (rows : List Row) × (by ≡ Ok (reply.Looked (row ∷ rows))) × (answered ≡ Ok (received_from c (home_numbered queue home) (row ∷ rows))))
    ⊎ ((e : Refusal) × MayRefuse (AskHome (Some c.queue) (home_numbered queue home) (Look c.max c.timeout)) e × (by ≡ Err e) × (answered ≡ Err e))

-- what a receive tells where no home gave a message
abbrev pub none_answered : ReceiveMessage → ℕ → Bool → Result Answer Refusal
none_answered c queue true = Err OverLimit
none_answered c queue false = Ok (received_from c (home_numbered queue 0) [])

-- ReceiveMessage at a queue: distinct homes are asked, up to the first that gives messages or refuses. Where none does, the call is refused if one of them has too many in flight.
abbrev pub ReceiveAt : HomeCounts → ReceiveMessage → ℕ → List Done → Result Answer Refusal → Type 0
ReceiveAt counts c queue trace answered =
    ((trace ≡ []) × (answered ≡ Err NoMemory))
    ⊎ ((drawn : List ℕ) × (over : Bool) × (1 ≤ counts.sample) × IsSampleOf counts.homes counts.sample drawn
    × (((n : ℕ) × (front : List Done) × (home : ℕ) × (by : Result HomeReply Refusal) × InVain c queue drawn n over front × (slice_get drawn n ≡ Some home)
    × (trace ≡ front ++ home_step c.queue queue home (Look c.max c.timeout) by ∷ []) × EndsReceive c queue home by answered)
    ⊎ (InVain c queue drawn (length drawn) over trace × (answered ≡ none_answered c queue over))))

-- A step of the ledger alone, whose reply makes the answer.
abbrev pub ByLedger : TaskAct → (LedgerReply → Answer → Type 0) → List Done → Result Answer Refusal → Type 0
ByLedger what Makes trace answered =
    ((by : LedgerReply) × (answer : Answer) × (trace ≡ ledger_step what (Ok by) ∷ []) × Makes by answer × (answered ≡ Ok answer))
    ⊎ ((e : Refusal) × MayRefuse (AskLedger what) e × (trace ≡ ledger_step what (Err e) ∷ []) × (answered ≡ Err e))

-- the answer is the task's number, how many messages it had moved, or the tasks
abbrev pub MakesStarted : LedgerReply → Answer → Type 0
MakesStarted by answered = (number : ℕ) × (by ≡ ledger.Started number) × (answered ≡ answer.Started number)

abbrev pub MakesCancelled : LedgerReply → Answer → Type 0
MakesCancelled by answered = (moved : ℕ) × (by ≡ ledger.Cancelled moved) × (answered ≡ answer.Cancelled moved)

abbrev pub MakesTasks : LedgerReply → Answer → Type 0
MakesTasks by answered = (tasks : List Task) × (by ≡ ledger.Listed tasks) × (answered ≡ answer.Tasks tasks)

-- a task between these queues, at this rate
abbrev pub start_between : MoveEnds → Option ℕ → TaskStart
start_between ends rate = record { source = ends.source; destination = ends.destination; rate = rate }

-- it is read whether messages may be moved between these queues, and then a task starts
abbrev pub StartsBetween : StartMessageMoveTask → List Done → Result Answer Refusal → Type 0
StartsBetween c trace answered =
    ((e : Refusal) × MayRefuse (Redriven c.source c.destination) e × (trace ≡ redriven c.source c.destination (Err e) ∷ []) × (answered ≡ Err e))
    ⊎ ((ends : MoveEnds) × (rest : List Done) × (trace ≡ redriven c.source c.destination (Ok (Ends ends)) ∷ rest) × ByLedger (task.Start (start_between ends c.rate)) MakesStarted rest answered)

-- StartMessageMoveTask: a source that is the destination too is refused before any step
abbrev pub StartFits : StartMessageMoveTask → List Done → Result Answer Refusal → Type 0
StartFits c trace answered =
    ((is_destination c.source c.destination ≡ true) × (trace ≡ []) × (answered ≡ Err InvalidParameterValue))
    ⊎ ((is_destination c.source c.destination ≡ false) × StartsBetween c trace answered)

-- CancelMessageMoveTask: a text that is no handle names no task
abbrev pub CancelFits : Option ℕ → List Done → Result Answer Refusal → Type 0
CancelFits None trace answered = (trace ≡ []) × (answered ≡ Err ResourceNotFoundException)
CancelFits (Some number) trace answered = ByLedger (task.Cancel number) MakesCancelled trace answered

-- a source that is not there is reported as a resource that is not
abbrev pub source_refusal : Refusal → Refusal
source_refusal QueueDoesNotExist = ResourceNotFoundException
source_refusal e = e

-- ListMessageMoveTasks: the source is looked up, and its tasks are listed
abbrev pub ListTasksFits : ListMessageMoveTasks → List Done → Result Answer Refusal → Type 0
ListTasksFits c trace answered =
    ((e : Refusal) × MayRefuse (Resolve c.source) e × (trace ≡ named c.source (Err e) ∷ []) × (answered ≡ Err (source_refusal e)))
    ⊎ ((queue : NamedQueue) × (rest : List Done) × (trace ≡ named c.source (Ok (Found queue)) ∷ rest) × ByLedger (task.List queue.number c.max) MakesTasks rest answered)

-- These steps are the call's, and the answer is made of them.
abbrev pub CallFits : HomeCounts → Call → List Done → Result Answer Refusal → Type 0
CallFits counts (call.CreateQueue c) trace answered = CreateFits counts.homes c trace answered
CallFits counts (call.GetQueueUrl name) trace answered = ByDirectory (Url name) (TellsUrl name) trace answered
CallFits counts (call.ListQueues prefix) trace answered = ByDirectory (ListNames prefix) TellsQueues trace answered
CallFits counts (call.SetQueueAttributes c) trace answered = SetFits counts.homes c trace answered
CallFits counts (call.GetQueueAttributes c) trace answered = ByDirectory (Read c.queue) (Shows counts.homes c) trace answered
CallFits counts (call.PurgeQueue name) trace answered = ByDirectory (PurgeTicket name) (ThenAll counts.homes name answer.Done) trace answered
CallFits counts (call.DeleteQueue name) trace answered = ByDirectory (Remove name) (ThenAll counts.homes name answer.Done) trace answered
CallFits counts (call.ListDeadLetterSourceQueues name) trace answered = ByDirectory (Sources name) TellsSources trace answered
CallFits counts (call.SendMessage c) trace answered = ByName c.queue (OneFits counts.homes c.queue (ask.Send c.body c.delay)) trace answered
CallFits counts (call.ReceiveMessage c) trace answered = ByName c.queue (ReceiveAt counts c) trace answered
CallFits counts (call.DeleteMessage c) trace answered = ByName c.queue (OneFits counts.homes c.queue (ask.Delete c.handle)) trace answered
CallFits counts (call.ChangeMessageVisibility c) trace answered = ByName c.queue (OneFits counts.homes c.queue (ask.Change c.handle c.timeout)) trace answered
CallFits counts (call.Batch c) trace answered = ByName c.queue (BatchAt counts.homes c) trace answered
CallFits counts (call.StartMessageMoveTask c) trace answered = StartFits c trace answered
CallFits counts (call.CancelMessageMoveTask number) trace answered = CancelFits number trace answered
CallFits counts (call.ListMessageMoveTasks c) trace answered = ListTasksFits c trace answered
