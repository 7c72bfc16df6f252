-- What a line of a client leaves with the session that answers it, and its reply.
use Rattle.std.specs.Prelude.{◌≡◌, ◌⊎◌, ◌<◌, ℕ, List, length, Option, Result, Ok, Err}
use Rattle.sq_base.specs.declared.refusal.Refusal.{Refusal}
use Rattle.sq_base.specs.declared.refusal.Refusal.TheVariants.{NoMemory, UnsupportedOperation}
use Rattle.sq_requests.specs.Requests.{line_request}
use Rattle.sq_actions.specs.Performs.{CallFits, LeavesRecords}
use Rattle.sq_queue.specs.Sections.{Surroundings}
use Rattle.sq_queue.specs.Services.{CallDone}
use Rattle.sq_queue.specs.SessionValue.{SessionValue}
use Rattle.sq_replies.specs.Replies.{reply_text_of}
use Rattle.sq_calls.specs.declared.calls.Answer.{Answer}
use Rattle.sq_calls.specs.declared.calls.Answered.{Answered}
use Rattle.sq_calls.specs.declared.calls.Answered.TheVariants as answered
use Rattle.sq_calls.specs.declared.calls.Asked.{Asked}
use Rattle.sq_calls.specs.declared.calls.Asked.TheVariants as asked
use Rattle.sq_requests.specs.declared.request.Request.{Request}
use Rattle.sq_lines.specs.declared.counted.Counted.{Counted}
use Rattle.sq_wire.specs.Runs.{AllAnswered, AnsweredTo}
use Rattle.sq_wire.specs.Scripts.{call_answered}
use Rattle.sq_wire.specs.declared.run.ServeFault.{ServeFault}

-- A session did a call at a service: each of its steps is a section there, and each refusal has its cause there. What is left with the session are the records of its steps. A turn is refused and leaves nothing, since scripts alone make turns.
abbrev pub CallServed : Surroundings → SessionValue → Asked → Result Answered Refusal → SessionValue → Type 0
CallServed at before (asked.Call call) by after =
    (got : Result Answer Refusal) × (by ≡ call_answered got) × CallDone at call before got after × LeavesRecords (CallFits at.counts call) before.journal got after.journal
CallServed at before (asked.Turn turn) by after = (by ≡ Err UnsupportedOperation) × (after ≡ before)

-- A line that is no request is refused, and leaves nothing; of one that is, what is asked is done, whatever clock reading or actor it names. One that has a byte is refused as well where no memory was found to read it.
abbrev pub LineServed : Surroundings → SessionValue → List ℕ → Result Answered Refusal → SessionValue → Type 0
LineServed at before line by after =
    ((after ≡ before) × (((by ≡ Err NoMemory) × (0 < length line)) ⊎ ((e : Refusal) × (line_request line ≡ Err e) × (by ≡ Err e))))
    ⊎ ((request : Request) × (line_request line ≡ Ok request) × CallServed at before request.asked by after)

-- a line may have this text for its reply, and leave this
unfoldable pub ServedReplies : Surroundings → SessionValue → List ℕ → List ℕ → SessionValue → Type 0
ServedReplies at before line text after = (by : Result Answered Refusal) × LineServed at before line by after × (text ≡ reply_text_of by)

-- a line's call was done and leaves this, and there was no memory for the text of its answer
unfoldable pub ServedUnanswered : Surroundings → SessionValue → List ℕ → SessionValue → Type 0
ServedUnanswered at before line after = (answer : Answer) × LineServed at before line (Ok (answered.Call answer)) after

-- all lines of a client that come, so many, were answered by a session
abbrev pub AllServed : Surroundings → Option (List ℕ) → Option (List ℕ) → Option (List ℕ) → SessionValue → SessionValue → ℕ → Type 0
AllServed at coming old new before after n = AllAnswered (ServedReplies at) coming old new before after n

-- lines of a client were answered by a session up to a fault; or there was no memory to begin, and nothing was touched
abbrev pub ServedTo : {R W : Type 0} → Surroundings → (R → Option (List ℕ)) → Counted R → Counted R → (W → Option (List ℕ)) → Counted W → Counted W → SessionValue → SessionValue → ServeFault → Type 0
ServedTo at remaining reader reader_after contents writer writer_after before after fault =
    AnsweredTo (ServedReplies at) (ServedUnanswered at) remaining reader reader_after contents writer writer_after before after fault
