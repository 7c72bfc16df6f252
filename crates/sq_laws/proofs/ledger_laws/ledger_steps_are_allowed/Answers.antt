use Rattle.sq_laws.proofs.LedgerLaws.{ledger_allowed}
use Rattle.sq_laws.proofs.ledger_laws.ledger_steps_are_allowed.Goals as goal

pub returns : goal.returns
returns c = ledger_allowed
