use Rattle.sq_laws.proofs.LedgerLaws.{ledger_possible}
use Rattle.sq_laws.proofs.ledger_laws.ledger_steps_are_possible.Goals as goal

pub returns : goal.returns
returns c = ledger_possible
