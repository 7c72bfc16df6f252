-- What the steps of a call do to a world, and what a turn does.
use Rattle.std.specs.Prelude.{◌≡◌, ◌⊎◌, ℕ, List, [], Some, None, position, Result, Ok, Err}
use Rattle.sq_base.specs.declared.refusal.Refusal.{Refusal}
use Rattle.sq_base.specs.declared.refusal.Refusal.TheVariants.{NoMemory, ResourceNotFoundException}
use Rattle.sq_calls.specs.declared.turns.Turn.{Turn}
use Rattle.sq_calls.specs.declared.turns.Turn.TheVariants as turn
use Rattle.sq_calls.specs.declared.turns.Turned.{Turned}
use Rattle.sq_model.specs.Directories.{number_named}
use Rattle.sq_history.specs.Acts.{call_of}
use Rattle.sq_actions.specs.Asks.{Ask, Resolve, AskDirectory, AskHome, AskShared, Peek, Redriven, AskLedger, ReadTask, Gave, Found, Answered, Replied, Nothing, Peeked, Ends, Told, TaskFound, Done, HomeCounts}
use Rattle.sq_actions.specs.declared.walk.Walk.{Walk}
use Rattle.sq_actions.specs.Performs.{BringFits, LeaveFits, LeavesRecords, Performs, ServeFits}
use Rattle.sq_steps.specs.Journals.{journal_of}
use Rattle.sq_merge.specs.declared.progress.Progress.{Progress}
use Rattle.sq_merge.specs.Progresses.{having_walked, is_progress_of, with_progress, progress_of, put_progress, walk_for}
use Rattle.sq_merge.specs.WorldValue.{WorldValue}
use Rattle.sq_merge.specs.Worlds.{HomeStepped, HomeRefused, DirectoryStepped, DirectoryRefused, NameRefused, having_read_directory, SharedStepped, NothingLeaves, SharedRefused, ItemRead, IsUnread, EndsRead, EndsUnread, LedgerStepped, LedgerRefused, TaskRead, TaskUnread}

abbrev pub world_counts : WorldValue → HomeCounts
world_counts w = record { homes = w.per_queue; sample = w.sample }

-- one step of a call by an actor at a clock reading, with this answer
abbrev pub ActorDoes : ℕ → ℕ → WorldValue → Ask → Gave → WorldValue → Type 0
ActorDoes actor now w (Resolve name) (Found queue) t = (number_named name w.directory.directory.queues ≡ Some queue.number) × (queue.name ≡ name) × (t ≡ having_read_directory w actor)
ActorDoes actor now w (AskDirectory call) (Answered reply) t = DirectoryStepped w t actor now call reply
ActorDoes actor now w (AskHome name id act) (Replied reply) t = HomeStepped w t actor now name id (call_of act) reply
ActorDoes actor now w (AskShared name id what) (Replied reply) t = SharedStepped w t actor now name id what reply
ActorDoes actor now w (AskShared name id what) Nothing t = NothingLeaves w t actor now id what
ActorDoes actor now w (Peek number) (Peeked next) t = ItemRead w t actor number next
ActorDoes actor now w (Redriven source destination) (Ends ends) t = EndsRead w t actor source destination ends
ActorDoes actor now w (AskLedger what) (Told reply) t = LedgerStepped w t actor now what reply
ActorDoes actor now w (ReadTask number) (TaskFound task) t = TaskRead w t actor number task
ActorDoes actor now w ask gave t = ⊥

-- why one is refused
abbrev pub ActorRefused : ℕ → ℕ → WorldValue → Ask → Refusal → Type 0
ActorRefused actor now w (Resolve name) e = NameRefused w actor name e
ActorRefused actor now w (AskDirectory call) e = DirectoryRefused w actor now call e
ActorRefused actor now w (AskHome name id act) e = HomeRefused w actor now id (call_of act) e
ActorRefused actor now w (AskShared name id what) e = SharedRefused w actor now id what e
ActorRefused actor now w (Peek number) e = IsUnread w actor e
ActorRefused actor now w (Redriven source destination) e = EndsUnread w actor source destination e
ActorRefused actor now w (AskLedger what) e = LedgerRefused w actor now what e
ActorRefused actor now w (ReadTask number) e = TaskUnread w actor number e

-- One step of a call by an actor at a clock reading; what is refused changes nothing.
abbrev pub ActorStepped : ℕ → ℕ → WorldValue → Ask → Result Gave Refusal → WorldValue → Type 0
ActorStepped actor now w ask (Ok gave) t = ActorDoes actor now w ask gave t
ActorStepped actor now w ask (Err e) t = ActorRefused actor now w ask e × (t ≡ w)

-- what an actor has after steps that fit so, with what was told: their records
abbrev pub ActorLeaves : {A : Type 0} → ℕ → (List Done → Result A Refusal → Type 0) → WorldValue → Result A Refusal → WorldValue → Type 0
ActorLeaves actor Fits old told new = LeavesRecords Fits (journal_of actor old.journals) told (journal_of actor new.journals)

-- These steps are the turn's, and its word and how far its actor is after it are made of them. A text that is no handle names no task.
abbrev pub TurnFits : ℕ → Turn → Progress → Progress → List Done → Result Turned Refusal → Type 0
TurnFits homes (turn.DeadTurn name) before after trace answered = LeaveFits homes name trace answered × (after ≡ before)
TurnFits homes turn.EnterTurn before after trace answered = BringFits homes before.item after.item trace answered × (after ≡ record before { item = after.item })
TurnFits homes (turn.TaskTurn None) before after trace answered = (trace ≡ []) × (answered ≡ Err ResourceNotFoundException) × (after ≡ before)
TurnFits homes (turn.TaskTurn (Some number)) before after trace answered = (walk : Walk) × ServeFits homes (walk_for number before.walk) walk trace answered × (after ≡ having_walked answered walk before)

-- A turn of an actor at a clock reading. The actor has memory for its progress first; then the steps of the turn are done, which leave all progress as it is; and what the turn made of the actor's progress is put there.
pub record TurnStepped (actor now : ℕ) (turn : Turn) (old : WorldValue) (answered : Result Turned Refusal) (new : WorldValue) : Type 0 where
  pub after : Progress
  pub mid : WorldValue
  pub steps : Performs (ActorStepped actor now) (TurnFits old.per_queue turn (progress_of actor old.progress) after) (record old { progress = with_progress actor old.progress }) answered mid
  pub put : new ≡ record mid { progress = put_progress actor after old.progress }

-- no memory was found for an actor's first turn, and nothing was done; or else this is so
abbrev pub UnlessNoMemory : ℕ → WorldValue → Result Turned Refusal → WorldValue → Type 0 → Type 0
UnlessNoMemory actor old answered new P = ((position (is_progress_of actor) old.progress ≡ None) × (answered ≡ Err NoMemory) × (new ≡ old)) ⊎ P

abbrev pub TurnDone : ℕ → ℕ → Turn → WorldValue → Result Turned Refusal → WorldValue → Type 0
TurnDone actor now turn old answered new = UnlessNoMemory actor old answered new (TurnStepped actor now turn old answered new)
