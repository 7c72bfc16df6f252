use Rattle.std.proofs.Common.{refl}
use Rattle.sq_laws.proofs.Computed.{computed}
use Rattle.sq_laws.proofs.worked_tasks.a_task_fails_when_its_destination_is_deleted.Goals as goal

pub returns-clause-run : goal.returns-clause-run
returns-clause-run c = computed _ _ _ refl refl

pub returns-clause-until : goal.returns-clause-until
returns-clause-until c = computed _ _ _ refl refl
