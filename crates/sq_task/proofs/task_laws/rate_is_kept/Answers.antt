use Rattle.std.proofs.Common.{refl}
use Rattle.sq_model.specs.Tasks.{new_task}
use Rattle.sq_task.proofs.TaskRates.{rate_holds}
use Rattle.sq_task.proofs.task_laws.rate_is_kept.Goals as goal

pub returns : goal.returns
returns c second number moment source destination rate calls after run moments = rate_holds second calls (new_task number source destination rate moment) after refl refl run moments
