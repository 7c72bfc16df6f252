use Rattle.sq_laws.proofs.LedgerLaws.{ledger_holds}
use Rattle.sq_laws.proofs.ledger_laws.ledgers_add_up.Goals as goal

pub returns : goal.returns
returns c = ledger_holds
