use Rattle.std.proofs.Common.{refl}
use Rattle.sq_laws.proofs.Computed.{computed}
use Rattle.sq_laws.proofs.worked_run.a_dead_letter_moves_in_one_run.Goals as goal

pub returns-clause-run : goal.returns-clause-run
returns-clause-run c = computed _ _ _ refl refl

pub returns-clause-until : goal.returns-clause-until
returns-clause-until c = (computed _ _ _ refl refl, computed _ _ _ refl refl)
