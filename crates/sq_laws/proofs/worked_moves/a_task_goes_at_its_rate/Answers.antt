use Rattle.std.proofs.Common.{[], None, arith, refl}
use Rattle.sq_model.specs.declared.task.TaskStatus.TheVariants.{Running}
use Rattle.sq_model.specs.Homes.{HomeStep}
use Rattle.sq_model.specs.Ledgers.{LedgerStep}
use Rattle.sq_laws.specs.WorkedMoves.{letter, new_task_1, task_at}
use Rattle.sq_laws.proofs.worked_moves.a_task_goes_at_its_rate.Goals as goal

pub returns-clause-leaves : goal.returns-clause-leaves
unfolding HomeStep LedgerStep
returns-clause-leaves c = record {
  at_home = (record { from = refl; because = refl; forward = refl }, refl, ([], record { before = []; after = []; at = refl; left = refl }, refl));
  in_ledger = (
    record { from = refl; because = refl; forward = refl },
    (new_task_1, record { found = refl; running = refl; of_source = refl }, refl, refl),
    (record { not_worn = omega arith; within = omega arith }, refl, refl),
  );
}

pub returns-clause-no_origin : goal.returns-clause-no_origin
unfolding HomeStep LedgerStep
returns-clause-no_origin c = record {
  at_home = ((record letter { origin = None }, [], record { before = []; after = []; at = refl; left = refl }, refl, refl, refl), refl);
  in_ledger = ((new_task_1, record { found = refl; running = refl; of_source = refl }, refl, refl), record { not_worn = omega arith; within = omega arith }, refl);
}

pub returns-clause-source_closed : goal.returns-clause-source_closed
unfolding HomeStep LedgerStep
returns-clause-source_closed c = record { at_home = refl; in_ledger = ((new_task_1, record { found = refl; running = refl; of_source = refl }), refl) }

pub returns-clause-throttled : goal.returns-clause-throttled
returns-clause-throttled c = (task_at Running 2 0 31 2, record { found = refl; running = refl; of_source = refl }, refl)
