use Rattle.std.proofs.Common.{◌≡◌, ◌++◌, map, take}
use Rattle.sq_replies.specs.Replies.{task_data}
use Rattle.sq_replies.specs.inside.Told.{all_tokens}
use Rattle.sq_replies.proofs.tasks.write_each.Given as goal

abbrev pub invariant-loop-task : goal.invariant-loop-task
invariant-loop-task l = l.out ≡ l.fn.out ++ all_tokens (map task_data (take l.task-index l.tasks))
