-- What is done to one task, one call after another.
use Rattle.std.specs.Prelude.{◌≡◌, ◌≤◌, ◌<◌, ℕ, Bool, true, false, ◌==◌, List, [], ◌∷◌, count_by, Some, None}
use Rattle.sq_model.specs.declared.task.FailureReason.{FailureReason}
use Rattle.sq_model.specs.declared.task.Task.{Task}
use Rattle.sq_model.specs.Tasks.{cancelled_as, failed_as, finished_as, may_leave, second_of, with_back, with_dropped, with_left, with_moved, with_status}
use Rattle.sq_model.specs.Ledgers.{cancel_refusal, finish_refusal}
use Rattle.sq_task.specs.Counts.{unsettled}

-- a message left at a moment, came in, came back or was dropped; or the task was cancelled, finished or failed
pub data TaskCall : Type 0 where
  Left : ℕ → TaskCall
  CameIn CameBack Dropped Cancel Finish : TaskCall
  Fail : FailureReason → TaskCall

-- A call of a task that is done, and what the task is after it. A message leaves only where the rate allows it; a call that is refused is none, and changes nothing.
abbrev pub TaskStep : Task → TaskCall → Task → Type 0
TaskStep task (Left m) after = (may_leave m task ≡ true) × (after ≡ with_left m task)
TaskStep task CameIn after = (0 < unsettled task) × (after ≡ with_moved task)
TaskStep task CameBack after = (0 < unsettled task) × (after ≡ with_back task)
TaskStep task Dropped after = (0 < unsettled task) × (after ≡ with_dropped task)
TaskStep task Cancel after = (cancel_refusal (Some task) ≡ None) × (after ≡ with_status cancelled_as task)
TaskStep task Finish after = (finish_refusal (unsettled task) (Some task) ≡ None) × (after ≡ with_status finished_as task)
TaskStep task (Fail reason) after = after ≡ with_status (failed_as reason) task

-- from a task, each call is done after the one before it, and the last one leaves after
abbrev pub TaskRun : Task → List TaskCall → Task → Type 0
TaskRun task [] after = after ≡ task
TaskRun task (call ∷ calls) after = (mid : Task) × TaskStep task call mid × TaskRun mid calls after

-- no message leaves at a moment before that of one that left, or before low
abbrev pub NoLeaveFalls : ℕ → List TaskCall → Type 0
NoLeaveFalls low [] = Unit {0}
NoLeaveFalls low (Left m ∷ calls) = (low ≤ m) × NoLeaveFalls m calls
NoLeaveFalls low (CameIn ∷ calls) = NoLeaveFalls low calls
NoLeaveFalls low (CameBack ∷ calls) = NoLeaveFalls low calls
NoLeaveFalls low (Dropped ∷ calls) = NoLeaveFalls low calls
NoLeaveFalls low (Cancel ∷ calls) = NoLeaveFalls low calls
NoLeaveFalls low (Finish ∷ calls) = NoLeaveFalls low calls
NoLeaveFalls low (Fail reason ∷ calls) = NoLeaveFalls low calls

-- a message leaves in this second
abbrev pub is_left_in : ℕ → TaskCall → Bool
is_left_in second (Left m) = second_of m == second
is_left_in second CameIn = false
is_left_in second CameBack = false
is_left_in second Dropped = false
is_left_in second Cancel = false
is_left_in second Finish = false
is_left_in second (Fail reason) = false

-- how many messages leave in a second
abbrev pub lefts_in : ℕ → List TaskCall → ℕ
lefts_in second calls = count_by (is_left_in second) calls
