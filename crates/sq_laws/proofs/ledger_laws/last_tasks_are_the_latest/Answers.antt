use Rattle.sq_laws.proofs.LedgerLaws.{last_of_source}
use Rattle.sq_laws.proofs.ledger_laws.last_tasks_are_the_latest.Goals as goal

pub returns : goal.returns
returns c = last_of_source
