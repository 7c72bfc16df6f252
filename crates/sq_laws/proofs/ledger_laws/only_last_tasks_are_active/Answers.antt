use Rattle.sq_laws.proofs.LedgerLaws.{last_is_active}
use Rattle.sq_laws.proofs.ledger_laws.only_last_tasks_are_active.Goals as goal

pub returns : goal.returns
returns c = last_is_active
