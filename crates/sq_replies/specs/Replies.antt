-- The texts of replies.
use Rattle.std.specs.Prelude.{⊤, ℕ, List, [], ◌∷◌, ◌++◌, map, codes, Bool, true, false, ◌||◌, if◌then◌else◌, Option, Some, None, option_map, Result, Ok, Err, decimal}
use Rattle.std.specs.Int.{w128, to_be_bytes}
use Rattle.hex.specs.Hex.{encode_lower}
use Rattle.md5.specs.Md5.{md5}
use Rattle.serde_json.specs.Data.{Data, boolean, object, array, string, number, unsigned, Members, member, no_members}
use Rattle.serde_json.specs.View.{items_of}
use Rattle.serde_json.specs.Written.{compact_text}
use Rattle.uuid.specs.Text.{hyphenated_text, lower}
use Rattle.sq_base.specs.declared.handle.Handle.{Handle}
use Rattle.sq_base.specs.declared.ids.HomeId.{HomeId}
use Rattle.sq_base.specs.declared.message_id.MessageId.{MessageId}
use Rattle.sq_base.specs.declared.refusal.Refusal.{Refusal}
use Rattle.sq_base.specs.declared.refusal.Refusal.TheVariants.{NoMemory, ClockRange, Worn, HomeDraining}
use Rattle.sq_base.specs.declared.row.Row.{Row}
use Rattle.sq_base.specs.Handles.{handle_text}
use Rattle.sq_base.specs.MessageIds.{id_number}
use Rattle.sq_base.specs.Refusals.{name_of, number_of}
use Rattle.sq_calls.specs.declared.batches.EntryAnswer.{EntryAnswer}
use Rattle.sq_calls.specs.declared.batches.EntryAnswer.TheVariants as entry
use Rattle.sq_calls.specs.declared.batches.EntryResult.{EntryResult}
use Rattle.sq_calls.specs.declared.calls.AskedAttributes.{AskedAttributes}
use Rattle.sq_calls.specs.declared.calls.Answer.{Answer}
use Rattle.sq_calls.specs.declared.calls.Answer.TheVariants.{Queue, Queues, Sources, Attributes, Sent, Received, Batch, Started, Cancelled, Tasks, Done}
use Rattle.sq_calls.specs.declared.calls.Answered.{Answered}
use Rattle.sq_calls.specs.declared.calls.Answered.TheVariants.{Call, Turn}
use Rattle.sq_calls.specs.declared.calls.ShownAttributes.{ShownAttributes}
use Rattle.sq_calls.specs.declared.turns.Turned.{Turned}
use Rattle.sq_calls.specs.declared.turns.Turned.TheVariants as came
use Rattle.sq_calls.specs.TaskHandles.{task_handle_text}
use Rattle.sq_model.specs.declared.task.FailureReason.{FailureReason}
use Rattle.sq_model.specs.declared.task.FailureReason.TheVariants as why
use Rattle.sq_model.specs.declared.task.Task.{Task}
use Rattle.sq_model.specs.declared.task.TaskStatus.{TaskStatus}
use Rattle.sq_model.specs.declared.task.TaskStatus.TheVariants as is
use Rattle.sq_model.specs.Tasks.{is_running}
use Rattle.sq_policy.specs.PolicyTexts.{arn_text, redrive_data, allow_data}

-- the text of a refusal: its name, and its number in decimal digits. Own.
unfoldable pub error_text : Refusal → List ℕ
error_text r = codes "{\"Error\":{\"Code\":\"" ++ name_of r ++ codes "\",\"Number\":" ++ decimal (number_of r) ++ codes "}}"

-- the URL of a queue (SQS API Reference, QueueUrl)
abbrev pub queue_url : List ℕ → List ℕ
queue_url name = codes "http://localhost/000000000000/" ++ name

-- the UUID of an id in lower case, with hyphens
unfoldable pub id_text : MessageId → List ℕ
id_text id = hyphenated_text lower (to_be_bytes w128 (id_number id))

-- the handle of a row that a home gave
abbrev pub handle_of : HomeId → Row → Handle
handle_of home row = record { queue = home.queue; home = home.home; slot = row.slot; serial = row.serial; receive = row.receives }

abbrev pub queue_data : List ℕ → Data
queue_data name = object (member (codes "QueueUrl") (string (queue_url name)) no_members)

-- the URLs of queues, in the order of their names
abbrev pub urls_data : List (List ℕ) → Data
urls_data names = array (items_of (map (λ name. string (queue_url name)) names))

-- queues under a name (SQS API Reference, ListQueues: QueueUrls; ListDeadLetterSourceQueues: queueUrls)
abbrev pub queues_data : List ℕ → List (List ℕ) → Data
queues_data name queues = object (member name (urls_data queues) no_members)

-- a text that is there where it is asked for
abbrev pub if_asked : Bool → List ℕ → Option (List ℕ)
if_asked asked text = if asked then Some text else None

-- what each attribute of a queue is shown as, if at all, in ascending byte order of their names (SQS API Reference, GetQueueAttributes, AttributeNames)
abbrev pub shown_texts : ShownAttributes → List (List ℕ × Option (List ℕ))
shown_texts s =
    (codes "ApproximateNumberOfMessages", if_asked s.asked.visible (decimal s.counts.visible))
    ∷ (codes "ApproximateNumberOfMessagesDelayed", if_asked s.asked.delayed (decimal s.counts.delayed))
    ∷ (codes "ApproximateNumberOfMessagesNotVisible", if_asked s.asked.in_flight (decimal s.counts.in_flight))
    ∷ (codes "DelaySeconds", if_asked s.asked.delay (decimal s.attributes.settings.delay))
    ∷ (codes "MessageRetentionPeriod", if_asked s.asked.retention (decimal s.attributes.settings.retention))
    ∷ (codes "QueueArn", if_asked s.asked.arn (arn_text s.queue))
    ∷ (codes "ReceiveMessageWaitTimeSeconds", if_asked s.asked.wait_time (decimal s.attributes.settings.wait_time))
    ∷ (codes "RedriveAllowPolicy", if s.asked.allow then option_map (λ p. compact_text (allow_data p)) s.attributes.allow else None)
    ∷ (codes "RedrivePolicy", if s.asked.redrive then option_map (λ p. compact_text (redrive_data p)) s.attributes.redrive else None)
    ∷ (codes "VisibilityTimeout", if_asked s.asked.timeout (decimal s.attributes.settings.timeout))
    ∷ []

-- a member whose value is a text, where there is one
abbrev pub text_member : List ℕ → Option (List ℕ) → Members → Members
text_member name None rest = rest
text_member name (Some text) rest = member name (string text) rest

-- those that have a text, in order
abbrev pub text_members : List (List ℕ × Option (List ℕ)) → Members
text_members [] = no_members
text_members (t ∷ rest) = text_member t.0 t.1 (text_members rest)

-- the attributes of a queue that are asked for, each as a text (SQS API Reference, GetQueueAttributes, Attributes)
abbrev pub shown_data : ShownAttributes → Data
shown_data shown = object (member (codes "Attributes") (object (text_members (shown_texts shown))) no_members)

-- the digest of a body, and the UUID of the message
abbrev pub sent_data : List ℕ → List ℕ → Data
sent_data digest id = object (member (codes "MD5OfMessageBody") (string digest) (member (codes "MessageId") (string id) no_members))

-- memory, the clock or a count at its end may refuse each step; all else is the fault of who sent the entry. Own
abbrev pub is_senders_fault : Refusal → Bool
is_senders_fault NoMemory = false
is_senders_fault ClockRange = false
is_senders_fault Worn = false
is_senders_fault HomeDraining = false
is_senders_fault e = true

-- an entry of a batch that failed (SQS API Reference, BatchResultErrorEntry: Code, Id, SenderFault)
abbrev pub failed_data : List ℕ → Refusal → Data
failed_data id e = object
    (member (codes "Code") (string (name_of e))
    (member (codes "Id") (string id)
    (member (codes "SenderFault") (boolean (is_senders_fault e)) no_members)))

-- and one that did not (SQS API Reference, SendMessageBatchResultEntry, DeleteMessageBatchResultEntry, ChangeMessageVisibilityBatchResultEntry)
abbrev pub entry_data : List ℕ → EntryAnswer → Data
entry_data id (entry.Sent message digest) = object
    (member (codes "Id") (string id)
    (member (codes "MD5OfMessageBody") (string digest)
    (member (codes "MessageId") (string (id_text message)) no_members)))
entry_data id entry.Done = object (member (codes "Id") (string id) no_members)

-- what failed, and what did not, each in the order of the entries
abbrev pub with_failure : List ℕ → Result EntryAnswer Refusal → List Data → List Data
with_failure id (Ok answer) rest = rest
with_failure id (Err e) rest = failed_data id e ∷ rest

abbrev pub failures : List EntryResult → List Data
failures [] = []
failures (t ∷ rest) = with_failure t.id t.answer (failures rest)

abbrev pub with_success : List ℕ → Result EntryAnswer Refusal → List Data → List Data
with_success id (Ok answer) rest = entry_data id answer ∷ rest
with_success id (Err e) rest = rest

abbrev pub successes : List EntryResult → List Data
successes [] = []
successes (t ∷ rest) = with_success t.id t.answer (successes rest)

-- (SQS API Reference, SendMessageBatch, Failed and Successful)
abbrev pub batch_data : List EntryResult → Data
batch_data told = object (member (codes "Failed") (array (items_of (failures told))) (member (codes "Successful") (array (items_of (successes told))) no_members))

-- a member that is there where the test is true
abbrev pub member_if : Bool → List ℕ → Data → Members → Members
member_if true name d rest = member name d rest
member_if false name d rest = rest

-- the attributes of a message that are asked for: how often it was received, and the moment in ms at which it was sent
-- (SQS API Reference, ReceiveMessage, MessageSystemAttributeNames)
abbrev pub attributes_data : AskedAttributes → Row → Option Data
attributes_data asked row = if asked.receive_count || asked.sent_timestamp then Some (object
    (member_if asked.receive_count (codes "ApproximateReceiveCount") (string (decimal row.receives))
    (member_if asked.sent_timestamp (codes "SentTimestamp") (string (decimal row.enqueued)) no_members))) else None

abbrev pub answered_members : List ℕ → List ℕ → List ℕ → List ℕ → Members
answered_members body digest id handle =
    member (codes "Body") (string body)
    (member (codes "MD5OfBody") (string digest)
    (member (codes "MessageId") (string id)
    (member (codes "ReceiptHandle") (string handle) no_members)))

-- a message of a receive (SQS API Reference, Message)
abbrev pub answered_data : Option Data → List ℕ → List ℕ → List ℕ → List ℕ → Data
answered_data None body digest id handle = object (answered_members body digest id handle)
answered_data (Some attributes) body digest id handle = object (member (codes "Attributes") attributes (answered_members body digest id handle))

abbrev pub message_data : AskedAttributes → HomeId → Row → Data
message_data asked home row =
    answered_data (attributes_data asked row) row.body (encode_lower (md5 row.body)) (id_text row.id) (handle_text (handle_of home row))

abbrev pub received_data : AskedAttributes → HomeId → List Row → Data
received_data asked home rows = object (member (codes "Messages") (array (items_of (map (message_data asked home) rows))) no_members)

-- the handle of a task (SQS API Reference, StartMessageMoveTask, TaskHandle)
abbrev pub started_data : ℕ → Data
started_data task = object (member (codes "TaskHandle") (string (task_handle_text task)) no_members)

-- how many messages a task had moved (SQS API Reference, CancelMessageMoveTask, ApproximateNumberOfMessagesMoved)
abbrev pub cancelled_data : ℕ → Data
cancelled_data moved = object (member (codes "ApproximateNumberOfMessagesMoved") (number (unsigned moved)) no_members)

-- (SQS API Reference, ListMessageMoveTasksResultEntry, Status)
abbrev pub status_word : TaskStatus → List ℕ
status_word is.Running = codes "RUNNING"
status_word is.Completed = codes "COMPLETED"
status_word is.Cancelling = codes "CANCELLING"
status_word is.Cancelled = codes "CANCELLED"
status_word (is.Failed reason) = codes "FAILED"

-- (SQS API Reference, ListMessageMoveTasksResultEntry, FailureReason); the last two are own
abbrev pub reason_word : FailureReason → List ℕ
reason_word why.NoOrigin = codes "CouldNotDetermineMessageSource"
reason_word why.SourceClosed = codes "SourceClosed"
reason_word why.DestinationClosed = codes "DestinationClosed"

-- why a task failed, where it did
abbrev pub failure_word : TaskStatus → Option (List ℕ)
failure_word is.Running = None
failure_word is.Completed = None
failure_word is.Cancelling = None
failure_word is.Cancelled = None
failure_word (is.Failed reason) = Some (reason_word reason)

-- what each member of a task is, if it is there, in ascending byte order of their names (SQS API Reference, ListMessageMoveTasksResultEntry); a task that is running has its handle
abbrev pub task_values : Task → List (List ℕ × Option Data)
task_values task =
    (codes "ApproximateNumberOfMessagesMoved", Some (number (unsigned task.moved)))
    ∷ (codes "DestinationArn", option_map (λ queue. string (arn_text queue.name)) task.destination)
    ∷ (codes "FailureReason", option_map string (failure_word task.status))
    ∷ (codes "MaxNumberOfMessagesPerSecond", option_map (λ rate. number (unsigned rate)) task.rate)
    ∷ (codes "SourceArn", Some (string (arn_text task.source.name)))
    ∷ (codes "StartedTimestamp", Some (number (unsigned task.started)))
    ∷ (codes "Status", Some (string (status_word task.status)))
    ∷ (codes "TaskHandle", if is_running task.status then Some (string (task_handle_text task.number)) else None)
    ∷ []

-- a member, where it has a value
abbrev pub value_member : List ℕ → Option Data → Members → Members
value_member name None rest = rest
value_member name (Some d) rest = member name d rest

-- those that have a value, in order
abbrev pub value_members : List (List ℕ × Option Data) → Members
value_members [] = no_members
value_members (v ∷ rest) = value_member v.0 v.1 (value_members rest)

abbrev pub task_data : Task → Data
task_data task = object (value_members (task_values task))

-- (SQS API Reference, ListMessageMoveTasks, Results)
abbrev pub tasks_data : List Task → Data
tasks_data tasks = object (member (codes "Results") (array (items_of (map task_data tasks))) no_members)

abbrev pub answer_data : Answer → Data
answer_data (Queue name) = queue_data name
answer_data (Queues names) = queues_data (codes "QueueUrls") names
answer_data (Sources names) = queues_data (codes "queueUrls") names
answer_data (Attributes shown) = shown_data shown
answer_data (Sent id digest) = sent_data digest (id_text id)
answer_data (Received received) = received_data received.attributes received.home received.rows
answer_data (Batch told) = batch_data told
answer_data (Started task) = started_data task
answer_data (Cancelled moved) = cancelled_data moved
answer_data (Tasks tasks) = tasks_data tasks
answer_data Done = object no_members

-- the word for what came of a turn. Own.
abbrev pub turned_word : Turned → List ℕ
turned_word came.Left = codes "left"
turned_word came.Nothing = codes "nothing"
turned_word came.Entered = codes "entered"
turned_word came.Turned = codes "turned"
turned_word came.Back = codes "back"
turned_word came.Dropped = codes "dropped"
turned_word came.Full = codes "full"
turned_word came.Throttled = codes "throttled"
turned_word came.Failed = codes "failed"
turned_word came.Finished = codes "finished"
turned_word came.Waiting = codes "waiting"
turned_word came.Ended = codes "ended"

abbrev pub turned_data : Turned → Data
turned_data turned = object (member (codes "Turn") (string (turned_word turned)) no_members)

-- the text of a reply: JSON with no space, and the members of an object in the order of their bytes
abbrev pub reply_text_of : Result Answered Refusal → List ℕ
reply_text_of (Ok (Call answer)) = compact_text (answer_data answer)
reply_text_of (Ok (Turn turned)) = compact_text (turned_data turned)
reply_text_of (Err refusal) = error_text refusal

-- a reply to a turn that was not refused has this
abbrev pub OnTurned : Result Answered Refusal → Type 0 → Type 0
OnTurned (Ok (Call answer)) P = ⊤
OnTurned (Ok (Turn _)) P = P
OnTurned (Err refusal) P = ⊤
