-- A message move task: how fast it may go, and how it ends.
use Rattle.std.specs.Prelude.{ℕ, ◌+◌, ◌/◌, Bool, true, false, ◌==◌, nat_lt, if◌then◌else◌, Option, Some, None, unwrap_or}
use Rattle.sq_base.specs.declared.row.Row.{Row}
use Rattle.sq_model.specs.declared.task.NamedQueue.{NamedQueue}
use Rattle.sq_model.specs.declared.task.FailureReason.{FailureReason}
use Rattle.sq_model.specs.declared.task.Task.{Task}
use Rattle.sq_model.specs.declared.task.TaskStatus.{TaskStatus}
use Rattle.sq_model.specs.declared.task.TaskStatus.TheVariants.{Running, Completed, Cancelling, Cancelled, Failed}

-- What a status says: whether the task takes messages; whether it is not over, since it takes them or waits for those that it took; whether it ended as it was asked to; what it is once the task is cancelled; and what once none of its messages is in transit and it is finished.
pub record Stage : Type 0 where
  pub running : Bool
  pub active : Bool
  pub ended : Bool
  pub cancelled : TaskStatus
  pub finished : TaskStatus

abbrev pub stage_of : TaskStatus → Stage
stage_of Running = record { running = true; active = true; ended = false; cancelled = Cancelling; finished = Completed }
stage_of Completed = record { running = false; active = false; ended = true; cancelled = Completed; finished = Completed }
stage_of Cancelling = record { running = false; active = true; ended = false; cancelled = Cancelling; finished = Cancelled }
stage_of Cancelled = record { running = false; active = false; ended = true; cancelled = Cancelled; finished = Cancelled }
stage_of (Failed reason) = record { running = false; active = false; ended = false; cancelled = Failed reason; finished = Failed reason }

abbrev pub is_running : TaskStatus → Bool
is_running status = (stage_of status).running

abbrev pub is_active : TaskStatus → Bool
is_active status = (stage_of status).active

abbrev pub is_ended : TaskStatus → Bool
is_ended status = (stage_of status).ended

-- a task that is new
abbrev pub new_task : ℕ → NamedQueue → Option NamedQueue → Option ℕ → ℕ → Task
new_task number source destination rate m =
    record { number = number; source = source; destination = destination; rate = rate; started = m; status = Running; left = 0; moved = 0; back = 0; dropped = 0; second = 0; in_second = 0 }

-- how many messages it takes in a second (MaxNumberOfMessagesPerSecond; the default is own)
abbrev pub rate_of : Task → ℕ
rate_of task = unwrap_or task.rate 500

-- the second of a moment
abbrev pub second_of : ℕ → ℕ
second_of m = m / 1000

-- how many left in a second, which is not before the last one in which one left
abbrev pub left_in : ℕ → Task → ℕ
left_in second task = if task.second == second then task.in_second else 0

abbrev pub may_leave : ℕ → Task → Bool
may_leave m task = nat_lt (left_in (second_of m) task) (rate_of task)

-- to the destination, or without one to the queue that it came from
abbrev pub destination_or : Option NamedQueue → Option ℕ → Option ℕ
destination_or (Some queue) origin = Some queue.number
destination_or None origin = origin

-- where a row goes
abbrev pub target_of : Task → Row → Option ℕ
target_of task row = destination_or task.destination row.origin

-- one more left
abbrev pub with_left : ℕ → Task → Task
with_left m task = record task { left = task.left + 1; second = second_of m; in_second = left_in (second_of m) task + 1 }

abbrev pub with_moved : Task → Task
with_moved task = record task { moved = task.moved + 1 }

abbrev pub with_back : Task → Task
with_back task = record task { back = task.back + 1 }

abbrev pub with_dropped : Task → Task
with_dropped task = record task { dropped = task.dropped + 1 }

-- one that takes messages takes no more
abbrev pub cancelled_as : TaskStatus → TaskStatus
cancelled_as status = (stage_of status).cancelled

-- how a task ends once none of its messages is in transit
abbrev pub finished_as : TaskStatus → TaskStatus
finished_as status = (stage_of status).finished

-- one that is over stays as it ended
abbrev pub failed_as : FailureReason → TaskStatus → TaskStatus
failed_as reason status = if is_active status then Failed reason else status

abbrev pub with_status : (TaskStatus → TaskStatus) → Task → Task
with_status change task = record task { status = change task.status }
