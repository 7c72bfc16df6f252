-- Answers by the types of single calls.
use Rattle.std.specs.Prelude.{◌≡◌, Result, Ok, Err}
use Rattle.sq_base.specs.declared.refusal.Refusal.{Refusal}
use Rattle.sq_calls.specs.declared.calls.Answer.{Answer}
use Rattle.sq_calls.specs.declared.calls.Answer.TheVariants as answer
use Rattle.sq_queue.specs.declared.answers.SendMessageResult.{SendMessageResult}

-- what a call tells by its own type, as any call tells it
abbrev pub answered_as : {A : Type 0} → (A → Answer) → Result A Refusal → Result Answer Refusal
answered_as kind (Ok a) = Ok (kind a)
answered_as kind (Err e) = Err e

-- it is an answer of this kind
abbrev pub IsOfKind : {A : Type 0} → (A → Answer) → Answer → Type 0
IsOfKind {A} kind answered = (a : A) × (answered ≡ kind a)

-- the answer to a send
abbrev pub sent_answer : SendMessageResult → Answer
sent_answer sent = answer.Sent sent.id sent.digest

-- the answer of a call that has nothing to tell
abbrev pub done_answer : Unit {0} → Answer
done_answer nothing = answer.Done
