use Rattle.sq_laws.proofs.SharedLaws.{stamp_above}
use Rattle.sq_laws.proofs.ledger_laws.shared_stamps_are_above.Goals as goal

pub returns : goal.returns
returns c = stamp_above
