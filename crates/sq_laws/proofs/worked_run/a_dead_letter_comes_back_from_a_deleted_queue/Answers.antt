use Rattle.std.proofs.Common.{refl}
use Rattle.sq_laws.proofs.Computed.{computed}
use Rattle.sq_laws.proofs.worked_run.a_dead_letter_comes_back_from_a_deleted_queue.Goals as goal

pub returns : goal.returns
returns c = computed _ _ _ refl refl
