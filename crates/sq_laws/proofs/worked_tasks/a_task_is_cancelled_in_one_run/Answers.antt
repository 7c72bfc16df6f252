use Rattle.std.proofs.Common.{refl}
use Rattle.sq_model.specs.declared.task.TaskStatus.TheVariants.{Running}
use Rattle.sq_laws.specs.WorkedTasks.{to_source}
use Rattle.sq_laws.proofs.Computed.{computed}
use Rattle.sq_laws.proofs.worked_tasks.a_task_is_cancelled_in_one_run.Goals as goal

pub returns-clause-run : goal.returns-clause-run
returns-clause-run c = computed _ _ _ refl refl

pub returns-clause-until : goal.returns-clause-until
returns-clause-until c = (computed _ _ _ refl refl, computed _ _ _ refl refl)

pub returns-clause-throttled : goal.returns-clause-throttled
returns-clause-throttled c = (to_source Running 2 0 1 2, record { found = refl; running = refl; of_source = refl }, refl)
