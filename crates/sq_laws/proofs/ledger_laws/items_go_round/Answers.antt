use Rattle.sq_laws.proofs.LedgerLaws.{items_after}
use Rattle.sq_laws.proofs.ledger_laws.items_go_round.Goals as goal

pub returns : goal.returns
returns c = items_after
