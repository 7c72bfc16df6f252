use Rattle.std.proofs.Common.{refl}
use Rattle.sq_model.specs.declared.task.TaskStatus.TheVariants.{Running, Cancelling}
use Rattle.sq_model.specs.Ledgers.{LedgerStep, ledger_refusal}
use Rattle.sq_laws.specs.WorkedMoves.{task_at}
use Rattle.sq_laws.proofs.worked_moves.a_task_ends_once_nothing_is_in_transit.Goals as goal

pub returns-clause-cancelled : goal.returns-clause-cancelled
unfolding LedgerStep
returns-clause-cancelled c = ((task_at Running 1 0 31 1, refl, refl, refl), refl)

pub returns-clause-finished : goal.returns-clause-finished
unfolding LedgerStep
returns-clause-finished c = ((task_at Cancelling 1 1 31 1, refl, refl), refl, refl)

pub returns-clause-hundredth : goal.returns-clause-hundredth
unfolding ledger_refusal
returns-clause-hundredth c = refl

pub returns-clause-too_many : goal.returns-clause-too_many
unfolding ledger_refusal
returns-clause-too_many c = refl

pub returns-clause-one_a_source_of_many : goal.returns-clause-one_a_source_of_many
unfolding ledger_refusal
returns-clause-one_a_source_of_many c = refl
