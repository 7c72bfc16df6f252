-- The answers of the worked cases.
use Rattle.std.specs.Prelude.{ℕ, List, [], ◌∷◌, codes, true, false, Option, Some, None, Ok, Err}
use Rattle.serde_json.specs.Written.{compact_text}
use Rattle.sq_base.specs.declared.refusal.Refusal.{Refusal}
use Rattle.sq_calls.specs.declared.batches.EntryAnswer.TheVariants as entry
use Rattle.sq_calls.specs.declared.batches.EntryResult.{EntryResult}
use Rattle.sq_calls.specs.declared.calls.Answer.{Answer}
use Rattle.sq_calls.specs.declared.calls.Answer.TheVariants.{Attributes}
use Rattle.sq_calls.specs.declared.calls.AskedOfQueue.{AskedOfQueue}
use Rattle.sq_calls.specs.declared.turns.Turned.{Turned}
use Rattle.sq_calls.specs.declared.turns.Turned.TheVariants as came
use Rattle.sq_model.specs.declared.directory.QueueAttributes.{QueueAttributes}
use Rattle.sq_model.specs.declared.policy.RedrivePolicy.{RedrivePolicy}
use Rattle.sq_model.specs.declared.task.Task.{Task}
use Rattle.sq_model.specs.declared.task.TaskStatus.{TaskStatus}
use Rattle.sq_replies.specs.Replies.{answer_data}

abbrev pub text_of : Answer → List ℕ
text_of answer = compact_text (answer_data answer)

-- whatever may come of a turn
abbrev pub every_turned : List Turned
every_turned = came.Left ∷ came.Nothing ∷ came.Entered ∷ came.Turned ∷ came.Back ∷ came.Dropped ∷ came.Full ∷ came.Throttled ∷ came.Failed ∷ came.Finished ∷ came.Waiting ∷ came.Ended ∷ []

abbrev pub none_asked : AskedOfQueue
none_asked = record { visible = false; delayed = false; in_flight = false; delay = false; retention = false; arn = false; wait_time = false; allow = false; redrive = false; timeout = false }

abbrev pub all_asked : AskedOfQueue
all_asked = record { visible = true; delayed = true; in_flight = true; delay = true; retention = true; arn = true; wait_time = true; allow = true; redrive = true; timeout = true }

abbrev pub redrive_asked : AskedOfQueue
redrive_asked = record none_asked { redrive = true }

-- a queue with the default settings
abbrev pub plain_with : Option RedrivePolicy → QueueAttributes
plain_with redrive = record { queue = 1; settings = record { delay = 0; retention = 345600; wait_time = 0; timeout = 30; redrive = None }; redrive = redrive; allow = None }

-- queue q with no messages
abbrev pub q_shown : AskedOfQueue → Option RedrivePolicy → Answer
q_shown asked redrive = Attributes (record { queue = codes "q"; asked = asked; attributes = plain_with redrive; counts = record { visible = 0; in_flight = 0; delayed = 0 } })

-- a task that moves what queue d has back to where it came from, at no rate of its own
abbrev pub back_from_d : ℕ → TaskStatus → Task
back_from_d number status = record { number = number; source = record { number = 1; name = codes "d" }; destination = None; rate = None; started = 1000; status = status; left = 0; moved = 0; back = 0; dropped = 0; second = 0; in_second = 0 }

-- one that moves it to queue q, two messages in a second, of which two came in
abbrev pub moved_to_q : TaskStatus → Task
moved_to_q status = record (back_from_d 1 status) { destination = Some (record { number = 2; name = codes "q" }); rate = Some 2; left = 3; moved = 2; second = 2; in_second = 1 }

-- an entry that deleted a message
abbrev pub deleted : List ℕ → EntryResult
deleted id = record { id = id; answer = Ok entry.Done }

-- one that sent a message to home 0 of queue 1
abbrev pub sent_with : List ℕ → ℕ → List ℕ → EntryResult
sent_with id serial digest = record { id = id; answer = Ok (entry.Sent (record { queue = 1; home = 0; serial = serial }) digest) }

-- one that failed
abbrev pub failed_with : List ℕ → Refusal → EntryResult
failed_with id refusal = record { id = id; answer = Err refusal }
