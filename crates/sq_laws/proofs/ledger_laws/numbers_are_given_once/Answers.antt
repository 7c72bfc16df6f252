use Rattle.sq_laws.proofs.LedgerLaws.{items_rise, tasks_rise}
use Rattle.sq_model.specs.Ledgers.{opening_ledger}
use Rattle.sq_laws.proofs.ledger_laws.numbers_are_given_once.Goals as goal

pub returns-clause-items : goal.returns-clause-items
returns-clause-items c = λ limit events l r. items_rise (opening_ledger limit) events l r

pub returns-clause-tasks : goal.returns-clause-tasks
returns-clause-tasks c = λ limit events l r. tasks_rise (opening_ledger limit) events l r
