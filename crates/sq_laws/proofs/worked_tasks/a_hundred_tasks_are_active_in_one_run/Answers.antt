use Rattle.std.specs.Fmt.{digits}
use Rattle.std.proofs.Common.{refl}
use Rattle.sq_laws.proofs.Computed.{computed}
use Rattle.sq_laws.proofs.worked_tasks.a_hundred_tasks_are_active_in_one_run.Goals as goal

pub returns-clause-run : goal.returns-clause-run
unfolding digits
returns-clause-run c = computed _ _ _ refl refl

pub returns-clause-is_source : goal.returns-clause-is_source
unfolding digits
returns-clause-is_source c = refl
