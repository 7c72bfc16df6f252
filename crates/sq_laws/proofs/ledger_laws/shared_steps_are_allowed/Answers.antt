use Rattle.sq_laws.proofs.SharedLaws.{shared_allowed}
use Rattle.sq_laws.proofs.ledger_laws.shared_steps_are_allowed.Goals as goal

pub returns : goal.returns
returns c = shared_allowed
