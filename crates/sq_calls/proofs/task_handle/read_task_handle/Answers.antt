use Rattle.std.proofs.Common.{◌∙◌, ap}
use Rattle.sq_calls.specs.TaskHandles.{task_handle_at}
use Rattle.sq_calls.proofs.TaskHandleLaws.{found, task_handle_again}
use Rattle.sq_calls.proofs.task_handle.read_task_handle.Goals as goal

pub returns-clause-found : goal.returns-clause-found
returns-clause-found c = found c.task_of.result c.args.b.now c.task_of.ensures

pub returns-clause-only : goal.returns-clause-only
returns-clause-only c = λ task least below e. c.task_of.ensures ∙ ap task_handle_at e ∙ task_handle_again task least below
