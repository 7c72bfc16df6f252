use Rattle.std.proofs.Common.{refl}
use Rattle.sq_laws.proofs.Computed.{computed}
use Rattle.sq_laws.proofs.worked_queues.a_policy_is_refused_in_one_run.Goals as goal

pub returns-clause-run : goal.returns-clause-run
returns-clause-run c = computed _ _ _ refl refl
