-- What the clients of a race do: a send, a receive and a delete by turns.
use Rattle.std.specs.Prelude.{ℕ, zero, suc, ◌+◌, ◌%◌, ◌≡◌, ◌⊎◌, Bool, true, false, is_ok, if◌then◌else◌, Option, Some, None, Result, Ok, Err, codes}
use Rattle.sq_base.specs.declared.handle.Handle.{Handle}
use Rattle.sq_base.specs.declared.refusal.Refusal.{Refusal}
use Rattle.sq_model.specs.Policies.{nothing_given}
use Rattle.sq_model.specs.RecordValues.{Journal}
use Rattle.sq_calls.specs.declared.calls.Answer.{Answer}
use Rattle.sq_calls.specs.declared.calls.Call.{Call}
use Rattle.sq_calls.specs.declared.calls.Call.TheVariants.{CreateQueue, SendMessage, ReceiveMessage, DeleteMessage}
use Rattle.sq_actions.specs.Asks.{HomeCounts}
use Rattle.sq_actions.specs.Performs.{CallFits, LeavesRecords}
use Rattle.sq_server.specs.Handles.{first_given}

-- a client made a call, which was answered so
abbrev pub HasMade : HomeCounts → Call → Journal → Result Answer Refusal → Journal → Type 0
HasMade counts call old answered new = LeavesRecords (CallFits counts call) old answered new

-- the queue for dead letters, and that of the race, from which what was received twice goes there
abbrev pub dead_queue_call : Call
dead_queue_call = CreateQueue (record { name = codes "race-dlq"; attributes = nothing_given })

abbrev pub race_queue_call : Call
race_queue_call = CreateQueue (record { name = codes "race"; attributes = record nothing_given { redrive = Some (Some (record { target = codes "race-dlq"; max_receives = 2 })) } })

-- both were made, in this order
abbrev pub HasMadeQueues : HomeCounts → Journal → Journal → Type 0
HasMadeQueues counts old new = (mid : Journal) × (dead : Answer) × (race : Answer) × HasMade counts dead_queue_call old (Ok dead) mid × HasMade counts race_queue_call mid (Ok race) new

abbrev pub send_call : Call
send_call = SendMessage (record { queue = codes "race"; body = codes "race"; delay = None })

-- what is received is visible again at once
abbrev pub receive_call : Call
receive_call = ReceiveMessage (record { queue = codes "race"; max = 1; timeout = Some 0; attributes = record { receive_count = false; sent_timestamp = false } })

abbrev pub delete_call : Handle → Call
delete_call handle = DeleteMessage (record { queue = codes "race"; handle = Some handle })

-- a send, and whether it was answered; or there was no memory for the message
abbrev pub HasSent : HomeCounts → Journal → Bool → Journal → Type 0
HasSent counts old sent new = ((answered : Result Answer Refusal) × HasMade counts send_call old answered new × (sent ≡ is_ok answered)) ⊎ ((sent ≡ false) × (new ≡ old))

-- the handle to delete by after a receive: that of what was given, none where nothing was, and the one before where the receive was refused
abbrev pub given_after : Option Handle → Result Answer Refusal → Option Handle
given_after given (Ok answer) = first_given answer
given_after given (Err e) = given

abbrev pub HasReceived : HomeCounts → Option Handle → Journal → Option Handle → Journal → Type 0
HasReceived counts given old next new = (answered : Result Answer Refusal) × HasMade counts receive_call old answered new × (next ≡ given_after given answered)

-- what was given last is deleted; where nothing was, there is a receive once more
abbrev pub HasDeleted : HomeCounts → Option Handle → Journal → Option Handle → Journal → Type 0
HasDeleted counts (Some handle) old next new = (answered : Result Answer Refusal) × HasMade counts (delete_call handle) old answered new × (next ≡ Some handle)
HasDeleted counts None old next new = HasReceived counts None old next new

-- the call of a client after so many others, and whether it was a send that was answered
abbrev pub HasCalled : HomeCounts → ℕ → Option Handle → Journal → Bool → Option Handle → Journal → Type 0
HasCalled counts number given old sent next new =
    ((number % 3 ≡ 0) × HasSent counts old sent new × (next ≡ given))
    ⊎ ((number % 3 ≡ 1) × HasReceived counts given old next new × (sent ≡ false))
    ⊎ ((number % 3 ≡ 2) × HasDeleted counts given old next new × (sent ≡ false))

-- so many calls of a client, how many sends of them were answered, and the handle to delete by after them
abbrev pub HasCalledAll : HomeCounts → ℕ → Journal → ℕ → Option Handle → Journal → Type 0
HasCalledAll counts zero old sent given new = (sent ≡ 0) × (given ≡ None) × (new ≡ old)
HasCalledAll counts (suc number) old sent given new =
    (mid : Journal) × (before : ℕ) × (was : Option Handle) × (more : Bool) × HasCalledAll counts number old before was mid × HasCalled counts number was mid more given new × (sent ≡ (if more then before + 1 else before))
