use Rattle.std.proofs.Common.{refl}
use Rattle.sq_laws.proofs.Computed.{computed}
use Rattle.sq_laws.proofs.worked_drain.a_drain_moves_a_message_in_one_run.Goals as goal

pub returns-clause-run : goal.returns-clause-run
returns-clause-run c = computed _ _ _ refl refl

pub returns-clause-until : goal.returns-clause-until
returns-clause-until c = (computed _ _ _ refl refl, computed _ _ _ refl refl)

pub returns-clause-deletes_nothing : goal.returns-clause-deletes_nothing
returns-clause-deletes_nothing c = computed _ _ _ refl refl
