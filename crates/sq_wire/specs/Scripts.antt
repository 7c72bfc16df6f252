-- What a line does to a world, and its answer.
use Rattle.std.specs.Prelude.{◌≡◌, ◌⊎◌, ◌<◌, ℕ, List, [], length, Option, IfSome, Result, Ok, Err, unwrap_or}
use Rattle.sq_lines.specs.Lines.{lines_left}
use Rattle.sq_lines.specs.declared.counted.Counted.{Counted}
use Rattle.sq_base.specs.declared.refusal.Refusal.{Refusal}
use Rattle.sq_base.specs.declared.refusal.Refusal.TheVariants.{NoMemory}
use Rattle.sq_merge.specs.WorldValue.{WorldValue}
use Rattle.sq_requests.specs.Requests.{line_request}
use Rattle.sq_merge.specs.WorldSteps.{world_counts, ActorStepped, TurnDone}
use Rattle.sq_actions.specs.Performs.{CallFits, Performs}
use Rattle.sq_replies.specs.Replies.{reply_text_of}
use Rattle.sq_calls.specs.declared.calls.Answer.{Answer}
use Rattle.sq_calls.specs.declared.calls.Answered.{Answered}
use Rattle.sq_calls.specs.declared.calls.Answered.TheVariants as answered
use Rattle.sq_calls.specs.declared.calls.Asked.{Asked}
use Rattle.sq_calls.specs.declared.calls.Asked.TheVariants as asked
use Rattle.sq_calls.specs.declared.turns.Turned.{Turned}
use Rattle.sq_requests.specs.declared.request.Request.{Request}
use Rattle.sq_wire.specs.Runs.{StopsAt, Writes}
use Rattle.sq_wire.specs.declared.run.ServeFault.{ServeFault}
use Rattle.sq_wire.specs.declared.run.ServeFault.TheVariants as why

-- a world, and the clock reading of the last line that was read as a request
pub record ScriptValue : Type 0 where
  pub world : WorldValue
  pub clock : ℕ

abbrev pub script_at : WorldValue → ℕ → ScriptValue
script_at world clock = record { world = world; clock = clock }

-- what a client gets, or what came of a turn, as the answer to a line
abbrev pub call_answered : Result Answer Refusal → Result Answered Refusal
call_answered (Ok answer) = Ok (answered.Call answer)
call_answered (Err e) = Err e

abbrev pub turn_answered : Result Turned Refusal → Result Answered Refusal
turn_answered (Ok turned) = Ok (answered.Turn turned)
turn_answered (Err e) = Err e

-- a call or a turn was done by an actor at a clock reading
abbrev pub IsDoneAt : ℕ → ℕ → WorldValue → Asked → Result Answered Refusal → WorldValue → Type 0
IsDoneAt actor now w (asked.Call call) by after = (got : Result Answer Refusal) × (by ≡ call_answered got) × Performs (ActorStepped actor now) (CallFits (world_counts w) call) w got after
IsDoneAt actor now w (asked.Turn turn) by after = (got : Result Turned Refusal) × (by ≡ turn_answered got) × TurnDone actor now turn w got after

-- A line that is no request is refused, and one that is has its call or turn done by its actor at its reading, or at the last one. One that has a byte is refused as well where no memory was found to read it.
abbrev pub LineAnswered : ScriptValue → List ℕ → Result Answered Refusal → ScriptValue → Type 0
LineAnswered s line answered after =
    ((after ≡ s) × (((answered ≡ Err NoMemory) × (0 < length line)) ⊎ ((e : Refusal) × (line_request line ≡ Err e) × (answered ≡ Err e))))
    ⊎ ((request : Request) × (line_request line ≡ Ok request) × (after.clock ≡ unwrap_or request.clock s.clock)
    × IsDoneAt request.actor (unwrap_or request.clock s.clock) s.world request.asked answered after.world)

-- a line may have this text for its reply, and leave this
unfoldable pub LineReplies : ScriptValue → List ℕ → List ℕ → ScriptValue → Type 0
LineReplies s line text after = (answered : Result Answered Refusal) × LineAnswered s line answered after × (text ≡ reply_text_of answered)

-- a line's call was done and leaves this, and there was no memory for the text of its answer; the word of a turn takes none
unfoldable pub LineUnanswered : ScriptValue → List ℕ → ScriptValue → Type 0
LineUnanswered s line after = (answer : Answer) × LineAnswered s line (Ok (answered.Call answer)) after

-- all lines of a script that come, so many, were answered over a world; before them the last clock reading was this
abbrev pub ScriptDone : Option (List ℕ) → Option (List ℕ) → Option (List ℕ) → ℕ → WorldValue → WorldValue → ℕ → Type 0
ScriptDone coming old new clock before after n = IfSome (lines_left [] coming) (λ lines. (last : ℕ) × (n ≡ length lines) × Writes LineReplies old new (script_at before clock) lines (script_at after last))

-- lines of a script were answered up to a fault; or there was no memory to begin, and nothing was touched
abbrev pub ScriptDoneTo : {R W : Type 0} → (R → Option (List ℕ)) → Counted R → Counted R → (W → Option (List ℕ)) → Counted W → Counted W → ℕ → WorldValue → WorldValue → ServeFault → Type 0
ScriptDoneTo remaining reader reader_after contents writer writer_after clock before after fault =
    ((fault ≡ why.NoMemory 0) × (reader_after ≡ reader) × (writer_after ≡ writer) × (after ≡ before))
    ⊎ IfSome (lines_left [] (remaining reader.inner)) (λ lines. (last : ℕ) × StopsAt LineReplies LineUnanswered fault lines (remaining reader_after.inner) (contents writer.inner) (contents writer_after.inner) (script_at before clock) (script_at after last))
