-- What a line asks.
use Rattle.std.specs.Prelude.{◌≡◌, ◌<◌, ℕ, List, length, if◌then◌else◌, Option, Some, None, Result, Ok, Err, codes, is_some, nat_lt}
use Rattle.std.specs.Str.{bytes_eq, is_utf8}
use Rattle.serde_json.specs.Data.{Data, Num, unsigned, negative, float}
use Rattle.serde_json.specs.Find.{get, as_number, as_object}
use Rattle.serde_json.specs.Read.{read}
use Rattle.sq_base.specs.declared.refusal.Refusal.{Refusal}
use Rattle.sq_base.specs.declared.refusal.Refusal.TheVariants.{InvalidRequest, NoMemory, UnsupportedOperation}
use Rattle.sq_policy.specs.Reading.{◌>>=◌, seen_as}
use Rattle.sq_requests.specs.Members.{text_at, named_task}
use Rattle.sq_requests.specs.Queues.{create_of, set_of, get_of, get_url_of, list_of, named_queue}
use Rattle.sq_requests.specs.Actions.{send_of, receive_of, delete_of, change_of}
use Rattle.sq_requests.specs.Batches.{batch_of}
use Rattle.sq_calls.specs.declared.batches.BatchKind.{BatchKind}
use Rattle.sq_calls.specs.declared.batches.BatchKind.TheVariants as kind
use Rattle.sq_calls.specs.declared.calls.Asked.{Asked}
use Rattle.sq_calls.specs.declared.calls.Asked.TheVariants as asked
use Rattle.sq_calls.specs.declared.calls.Call.{Call}
use Rattle.sq_calls.specs.declared.calls.Call.TheVariants as call
use Rattle.sq_calls.specs.declared.turns.Turn.{Turn}
use Rattle.sq_requests.specs.Tasks.{start_move_of, list_moves_of}
use Rattle.sq_calls.specs.declared.turns.Turn.TheVariants.{DeadTurn, EnterTurn, TaskTurn}
use Rattle.sq_requests.specs.declared.request.Request.{Request}

-- the clock reading of a line, a whole number from 0 upwards
abbrev pub as_reading : Option Num → Result (Option ℕ) Refusal
as_reading None = Err InvalidRequest
as_reading (Some (unsigned n)) = Ok (Some n)
as_reading (Some (negative z)) = Err InvalidRequest
as_reading (Some (float x)) = Err InvalidRequest

abbrev pub reading : Option Data → Result (Option ℕ) Refusal
reading None = Ok None
reading (Some d) = as_reading (as_number d)

unfoldable pub clock_at : Data → Result (Option ℕ) Refusal
clock_at d = reading (get (codes "Now") d)

-- the number of the actor of a line, 0 to 63; 0 where none is named
abbrev pub as_actor : Option Num → Result ℕ Refusal
as_actor (Some (unsigned n)) = if nat_lt n 64 then Ok n else Err InvalidRequest
as_actor number = Err InvalidRequest

abbrev pub acting : Option Data → Result ℕ Refusal
acting None = Ok 0
acting (Some d) = as_actor (as_number d)

unfoldable pub actor_at : Data → Result ℕ Refusal
actor_at d = acting (get (codes "Actor") d)

-- the calls for which no memory is asked: on queues, on messages that are there, and on move tasks
unfoldable pub plain_call_of : List ℕ → Data → Result Call Refusal
plain_call_of action d =
    if bytes_eq action (codes "GetQueueAttributes") then get_of d
    else if bytes_eq action (codes "GetQueueUrl") then get_url_of d
    else if bytes_eq action (codes "ListQueues") then list_of d
    else if bytes_eq action (codes "PurgeQueue") then seen_as call.PurgeQueue (named_queue d)
    else if bytes_eq action (codes "DeleteQueue") then seen_as call.DeleteQueue (named_queue d)
    else if bytes_eq action (codes "ListDeadLetterSourceQueues") then seen_as call.ListDeadLetterSourceQueues (named_queue d)
    else if bytes_eq action (codes "ReceiveMessage") then receive_of d
    else if bytes_eq action (codes "DeleteMessage") then delete_of d
    else if bytes_eq action (codes "ChangeMessageVisibility") then change_of d
    else if bytes_eq action (codes "StartMessageMoveTask") then start_move_of d
    else if bytes_eq action (codes "CancelMessageMoveTask") then seen_as call.CancelMessageMoveTask (named_task d)
    else if bytes_eq action (codes "ListMessageMoveTasks") then list_moves_of d
    else Err UnsupportedOperation

-- what the entries of a batch do, where the action is one
unfoldable pub batch_kind : List ℕ → Option BatchKind
batch_kind action =
    if bytes_eq action (codes "SendMessageBatch") then Some kind.Send
    else if bytes_eq action (codes "DeleteMessageBatch") then Some kind.Delete
    else if bytes_eq action (codes "ChangeMessageVisibilityBatch") then Some kind.Change
    else None

abbrev pub batch_or : Option BatchKind → List ℕ → Data → Result Call Refusal
batch_or (Some kind) action d = batch_of kind d
batch_or None action d = plain_call_of action d

unfoldable pub asked_call : List ℕ → Data → Result Call Refusal
asked_call action d =
    if bytes_eq action (codes "CreateQueue") then create_of d
    else if bytes_eq action (codes "SetQueueAttributes") then set_of d
    else if bytes_eq action (codes "SendMessage") then send_of d
    else batch_or (batch_kind action) action d

-- the turn that an action names, if it names one; an EnterTurn asks nothing of its line
unfoldable pub turn_of : List ℕ → Data → Option (Result Turn Refusal)
turn_of action d =
    if bytes_eq action (codes "DeadTurn") then Some (seen_as DeadTurn (named_queue d))
    else if bytes_eq action (codes "EnterTurn") then Some (Ok EnterTurn)
    else if bytes_eq action (codes "TaskTurn") then Some (seen_as TaskTurn (named_task d))
    else None

-- a turn, or else a call
abbrev pub turn_or : Option (Result Turn Refusal) → Result Call Refusal → Result Asked Refusal
turn_or (Some turn) call = seen_as asked.Turn turn
turn_or None call = seen_as asked.Call call

unfoldable pub call_or_turn_of : List ℕ → Data → Result Asked Refusal
call_or_turn_of action d = turn_or (turn_of action d) (asked_call action d)

abbrev pub request_in : Data → Result Request Refusal
request_in d = do
  action ← text_at (codes "Action") d
  clock ← clock_at d
  actor ← actor_at d
  asked ← call_or_turn_of action d
  Ok (record { clock = clock; actor = actor; asked = asked })

-- a request is an object
unfoldable pub request_of : Data → Result Request Refusal
request_of d = if is_some (as_object d) then request_in d else Err InvalidRequest

abbrev pub if_read : Option Data → Result Request Refusal
if_read None = Err InvalidRequest
if_read (Some d) = request_of d

-- a line is text that is read as a request
unfoldable pub line_request : List ℕ → Result Request Refusal
line_request line = if is_utf8 line then if_read (read line) else Err InvalidRequest

-- what was read of a line is what it asks, or why it is refused, unless memory ran out, as it does of a line that has a byte
abbrev pub ReadsLine : Result Request Refusal → List ℕ → Type 0
ReadsLine (Ok request) line = line_request line ≡ Ok request
ReadsLine (Err NoMemory) line = 0 < length line
ReadsLine (Err e) line = line_request line ≡ Err e
