-- What a step of a home makes of the task that a message is moved for.
use Rattle.std.specs.Prelude.{ℕ, List}
use Rattle.sq_model.specs.declared.replies.HomeReply.{HomeReply}
use Rattle.sq_model.specs.declared.replies.HomeReply.TheVariants.{NoOrigin, SourceClosed}
use Rattle.sq_model.specs.declared.shared.ItemAct.{ItemAct}
use Rattle.sq_model.specs.declared.shared.ItemAct.TheVariants.{Enter, TurnBack, GiveBack, Drop}
use Rattle.sq_model.specs.declared.task.FailureReason.TheVariants as because
use Rattle.sq_model.specs.declared.task.Task.{Task}
use Rattle.sq_model.specs.Ledgers.{changed_task}
use Rattle.sq_model.specs.Tasks.{failed_as, with_status}
use Rattle.sq_ledger.specs.declared.tasks.TaskChange.{TaskChange}
use Rattle.sq_ledger.specs.declared.tasks.TaskChange.TheVariants as to

-- a message that came in, came back or was dropped is counted so; where it is sent back the task fails
abbrev pub change_by : ItemAct → TaskChange
change_by Enter = to.Entered
change_by TurnBack = to.Failed because.DestinationClosed
change_by GiveBack = to.Back
change_by Drop = to.Dropped

-- the tasks, once no message left for the one of a number
abbrev pub tasks_without : ℕ → HomeReply → List Task → List Task
tasks_without number (NoOrigin serial) tasks = changed_task number (with_status (failed_as because.NoOrigin)) tasks
tasks_without number SourceClosed tasks = changed_task number (with_status (failed_as because.SourceClosed)) tasks
tasks_without number reply tasks = tasks
