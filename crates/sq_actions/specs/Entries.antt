-- Which steps are done for one message of a queue that was found, and what is told of them: for a call on one message, and for an entry of a batch. Nothing here speaks of states.
use Rattle.std.specs.Prelude.{◌≡◌, ◌⊎◌, ℕ, zero, suc, ◌<◌, Bool, true, false, List, [], ◌∷◌, ◌++◌, length, slice_get, Option, Some, None, Result, Ok, Err}
use Rattle.std.specs.List.{list_all}
use Rattle.std.specs.Str.{chars}
use Rattle.hex.specs.Hex.{encode_lower}
use Rattle.md5.specs.Md5.{md5}
use Rattle.sq_base.specs.Bodies.{allowed}
use Rattle.sq_base.specs.declared.handle.Handle.{Handle}
use Rattle.sq_base.specs.declared.refusal.Refusal.{Refusal}
use Rattle.sq_base.specs.declared.refusal.Refusal.TheVariants.{InvalidMessageContents, NoMemory, ReceiptHandleIsInvalid}
use Rattle.sq_model.specs.declared.calls.Receipt.{Receipt}
use Rattle.sq_model.specs.declared.replies.HomeReply.{HomeReply}
use Rattle.sq_model.specs.declared.replies.HomeReply.TheVariants as reply
use Rattle.sq_model.specs.declared.replies.SentMessage.{SentMessage}
use Rattle.sq_history.specs.declared.act.HomeAct.{HomeAct}
use Rattle.sq_history.specs.declared.act.HomeAct.TheVariants.{Send, Delete, Change}
use Rattle.sq_calls.specs.BodyTexts.{is_too_small_or_large}
use Rattle.sq_calls.specs.BatchValue.{BatchValue}
use Rattle.sq_calls.specs.declared.batches.Entry.{Entry}
use Rattle.sq_calls.specs.declared.batches.EntryAnswer.{EntryAnswer}
use Rattle.sq_calls.specs.declared.batches.EntryAnswer.TheVariants as entry
use Rattle.sq_calls.specs.declared.batches.EntryAsk.{EntryAsk}
use Rattle.sq_calls.specs.declared.batches.EntryAsk.TheVariants as ask
use Rattle.sq_calls.specs.declared.batches.EntryResult.{EntryResult}
use Rattle.sq_calls.specs.declared.calls.Answer.{Answer}
use Rattle.sq_calls.specs.declared.calls.Answer.TheVariants as answer
use Rattle.sq_actions.specs.Asks.{AskHome, Done, MayRefuse}
use Rattle.sq_actions.specs.Calls.{home_numbered, receipt_of, handle_of_queue}
use Rattle.sq_actions.specs.Steps.{home_step}

-- One step at a home of a queue, whose reply makes what is told.
abbrev pub OneStep : List ℕ → ℕ → ℕ → HomeAct → (HomeReply → EntryAnswer → Type 0) → List Done → Result EntryAnswer Refusal → Type 0
OneStep name queue home act Makes trace told =
    ((by : HomeReply) × (one : EntryAnswer) × (trace ≡ home_step name queue home act (Ok by) ∷ []) × Makes by one × (told ≡ Ok one))
    ⊎ ((e : Refusal) × MayRefuse (AskHome (Some name) (home_numbered queue home) act) e × (trace ≡ home_step name queue home act (Err e) ∷ []) × (told ≡ Err e))

-- what is told of a send is the message's id and its body's digest
abbrev pub MakesSent : List ℕ → HomeReply → EntryAnswer → Type 0
MakesSent body by one = (sent : SentMessage) × (by ≡ reply.Sent sent) × (one ≡ entry.Sent sent.id (encode_lower (md5 body)))

-- a body is put last at one of a queue's homes
abbrev pub PutAt : ℕ → List ℕ → ℕ → List ℕ → Option ℕ → List Done → Result EntryAnswer Refusal → Type 0
PutAt homes name queue body delay trace told = (home : ℕ) × (home < homes) × OneStep name queue home (Send body delay) (MakesSent body) trace told

-- each character of a text may stand in a body
abbrev pub are_allowed : List ℕ → Bool
are_allowed body = list_all allowed (chars body)

-- a message of 1 to `body_limit` bytes is sent to a queue: its characters are checked, memory is got for its body, and it is put
abbrev pub SendAt : ℕ → List ℕ → ℕ → List ℕ → Option ℕ → List Done → Result EntryAnswer Refusal → Type 0
SendAt homes name queue body delay trace told =
    (is_too_small_or_large body ≡ false)
    × (((are_allowed body ≡ false) × (trace ≡ []) × (told ≡ Err InvalidMessageContents))
    ⊎ ((are_allowed body ≡ true) × (((trace ≡ []) × (told ≡ Err NoMemory)) ⊎ PutAt homes name queue body delay trace told)))

-- what is told of a step that has nothing to tell
abbrev pub MakesDone : HomeReply → EntryAnswer → Type 0
MakesDone by one = (by ≡ reply.Done) × (one ≡ entry.Done)

-- a step on the message of a handle, at the handle's home
abbrev pub HandleAt : ℕ → List ℕ → ℕ → Option Handle → (Receipt → HomeAct) → List Done → Result EntryAnswer Refusal → Type 0
HandleAt homes name queue handle act trace told =
    ((handle_of_queue homes queue handle ≡ None) × (trace ≡ []) × (told ≡ Err ReceiptHandleIsInvalid))
    ⊎ ((h : Handle) × (handle_of_queue homes queue handle ≡ Some h) × OneStep name queue h.home (act (receipt_of h)) MakesDone trace told)

-- What is asked of a queue that was found: one step at one of its homes, or none where it is refused before.
abbrev pub EntryFits : ℕ → List ℕ → ℕ → Result EntryAsk Refusal → List Done → Result EntryAnswer Refusal → Type 0
EntryFits homes name queue (Ok (ask.Send body delay)) trace told = SendAt homes name queue body delay trace told
EntryFits homes name queue (Ok (ask.Delete handle)) trace told = HandleAt homes name queue handle (λ receipt. Delete receipt) trace told
EntryFits homes name queue (Ok (ask.Change handle timeout)) trace told = HandleAt homes name queue handle (λ receipt. Change receipt timeout) trace told
EntryFits homes name queue (Err e) trace told = (trace ≡ []) × (told ≡ Err e)

-- ---- a call on one message

abbrev pub one_answered : Result EntryAnswer Refusal → Result Answer Refusal
one_answered (Ok (entry.Sent id digest)) = Ok (answer.Sent id digest)
one_answered (Ok entry.Done) = Ok answer.Done
one_answered (Err e) = Err e

-- a call on one message of a queue that was found is answered as an entry is
abbrev pub OneFits : ℕ → List ℕ → EntryAsk → ℕ → List Done → Result Answer Refusal → Type 0
OneFits homes name asked queue trace answered = (told : Result EntryAnswer Refusal) × EntryFits homes name queue (Ok asked) trace told × (answered ≡ one_answered told)

-- ---- a batch

-- The first n entries of a batch were done, one after another, and this is told of each; one that is refused stops none after it.
abbrev pub EntriesFit : ℕ → BatchValue → ℕ → ℕ → List Done → List EntryResult → Type 0
EntriesFit homes b queue zero trace told = (trace ≡ []) × (told ≡ [])
EntriesFit homes b queue (suc n) trace told =
    (front : List Done) × (mine : List Done) × (before : List EntryResult) × (e : Entry) × (one : Result EntryAnswer Refusal) × EntriesFit homes b queue n front before × (slice_get b.entries n ≡ Some e)
    × EntryFits homes b.queue queue e.ask mine one × (trace ≡ front ++ mine) × (told ≡ before ++ record { id = e.id; answer = one } ∷ [])

-- A batch at a queue that was found: all entries are done; or no memory was found for what is told of them, where there are any, and none is done.
abbrev pub BatchAt : ℕ → BatchValue → ℕ → List Done → Result Answer Refusal → Type 0
BatchAt homes b queue trace answered =
    ((0 < length b.entries) × (trace ≡ []) × (answered ≡ Err NoMemory))
    ⊎ ((told : List EntryResult) × EntriesFit homes b queue (length b.entries) trace told × (answered ≡ Ok (answer.Batch told)))
