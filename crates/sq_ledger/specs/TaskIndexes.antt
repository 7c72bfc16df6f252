-- What contracts see of the tasks, how the tasks of a source are found, and what is done to one task.
use Rattle.std.specs.Prelude.{◌≡◌, ℕ, ◌<◌, true, List, map, count_by, filter, find, reverse, take, Option, Some, None, option_map, slice_get}
use Rattle.sq_model.specs.declared.item.Reason.{Reason}
use Rattle.sq_model.specs.declared.item.Reason.TheVariants.{Task as ForTask}
use Rattle.sq_model.specs.declared.task.Task.{Task}
use Rattle.sq_model.specs.Ledgers.{finish_refusal, is_of_source, is_task, last_number, TasksCount}
use Rattle.sq_model.specs.Tasks.{is_active, is_running, may_leave, cancelled_as, failed_as, finished_as, with_back, with_dropped, with_left, with_moved, with_status}
use Rattle.sq_task.specs.Counts.{unsettled}
use Rattle.sq_ledger.specs.declared.tasks.TaskChange.{TaskChange}
use Rattle.sq_ledger.specs.declared.tasks.TaskChange.TheVariants.{Left, Entered, Back, Dropped, Cancelled, Finished, Failed}
use Rattle.sq_ledger.specs.declared.tasks.TaskRow.{TaskRow}

abbrev pub task_number : Task → ℕ
task_number task = task.number

-- the tasks of a source, the most recent first
abbrev pub tasks_from : ℕ → List Task → List Task
tasks_from source tasks = reverse (filter (is_of_source source) tasks)

-- the number of the most recent one of a source
abbrev pub newest : ℕ → List Task → Option ℕ
newest source tasks = option_map task_number (slice_get (tasks_from source tasks) 0)

abbrev pub how_many_active : List Task → ℕ
how_many_active tasks = count_by (λ task. is_active task.status) tasks

abbrev pub task_in : TaskRow → Task
task_in row = row.task

abbrev pub tasks_in : List TaskRow → List Task
tasks_in rows = map task_in rows

-- each task names the one before it of its source
abbrev pub NamesBefore : List TaskRow → Type 0
NamesBefore rows = (index : ℕ) (row : TaskRow) → slice_get rows index ≡ Some row → row.before ≡ newest row.task.source.number (take index (tasks_in rows))

-- Tasks are numbered from 1 on without a gap, and each names the one before it of its source; the map gives the most recent one of each source, and the number of active ones is kept.
pub record AreTasks (rows : List TaskRow) (newest_of : ℕ → Option ℕ) (how_many : ℕ) : Type 0 where
  pub count : TasksCount 1 (tasks_in rows)
  pub before : NamesBefore rows
  pub last : (source : ℕ) → newest_of source ≡ newest source (tasks_in rows)
  pub active : how_many ≡ how_many_active (tasks_in rows)

-- the task after a change
abbrev pub changed_by : TaskChange → Task → Task
changed_by (Left m) task = with_left m task
changed_by Entered task = with_moved task
changed_by Back task = with_back task
changed_by Dropped task = with_dropped task
changed_by Cancelled task = with_status cancelled_as task
changed_by Finished task = with_status finished_as task
changed_by (Failed reason) task = with_status (failed_as reason) task

-- A message leaves only for a task that takes it, and its number can be counted; one of those in transit comes in, comes back or is dropped; and a task finishes where none is.
abbrev pub MayChange : TaskChange → Task → Type 0
MayChange (Left m) task = (is_running task.status ≡ true) × (may_leave m task ≡ true) × (task.left < last_number)
MayChange Entered task = 0 < unsettled task
MayChange Back task = 0 < unsettled task
MayChange Dropped task = 0 < unsettled task
MayChange Cancelled task = is_running task.status ≡ true
MayChange Finished task = finish_refusal (unsettled task) (Some task) ≡ None
MayChange (Failed reason) task = Unit {0}

-- where the reason is a task, this may be done to that one
abbrev pub MayChangeFor : TaskChange → Reason → List Task → Type 0
MayChangeFor change reason tasks = (number : ℕ) → reason ≡ ForTask number → (task : Task) × (find (is_task number) tasks ≡ Some task) × MayChange change task
