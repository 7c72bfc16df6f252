use Rattle.sq_laws.proofs.SharedLaws.{shared_possible}
use Rattle.sq_laws.proofs.ledger_laws.shared_steps_are_possible.Goals as goal

pub returns : goal.returns
returns c = shared_possible
