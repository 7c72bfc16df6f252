-- What the counts of a task say of its messages, and what is true of them at all times.
use Rattle.std.specs.Prelude.{◌≡◌, ◌≤◌, ℕ, ◌+◌, ◌-◌, true}
use Rattle.sq_model.specs.declared.task.Task.{Task}
use Rattle.sq_model.specs.Tasks.{is_ended, rate_of}

-- how many messages left, and are in transit no more: they came in, came back or were dropped
abbrev pub settled : Task → ℕ
settled task = task.moved + task.back + task.dropped

-- how many are in transit
abbrev pub unsettled : Task → ℕ
unsettled task = task.left - settled task

-- No message is settled that did not leave. Of a task that ended as it was asked to none is in transit, and no more left in its last second than its rate.
pub record IsTaskKept (task : Task) : Type 0 where
  pub counted : settled task ≤ task.left
  pub ended : is_ended task.status ≡ true → task.left ≡ settled task
  pub rate : task.in_second ≤ rate_of task
