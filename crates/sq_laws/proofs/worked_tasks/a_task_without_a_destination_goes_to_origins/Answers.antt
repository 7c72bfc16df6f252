use Rattle.std.proofs.Common.{refl}
use Rattle.sq_laws.proofs.Computed.{computed}
use Rattle.sq_laws.proofs.worked_tasks.a_task_without_a_destination_goes_to_origins.Goals as goal

pub returns-clause-no_origin : goal.returns-clause-no_origin
returns-clause-no_origin c = computed _ _ _ refl refl

pub returns-clause-back : goal.returns-clause-back
returns-clause-back c = computed _ _ _ refl refl
