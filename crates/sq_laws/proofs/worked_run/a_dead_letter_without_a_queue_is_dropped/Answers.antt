use Rattle.std.proofs.Common.{refl}
use Rattle.sq_laws.proofs.Computed.{computed}
use Rattle.sq_laws.proofs.worked_run.a_dead_letter_without_a_queue_is_dropped.Goals as goal

pub returns : goal.returns
returns c = (computed _ _ _ refl refl, refl)
