use Rattle.sq_laws.proofs.SharedLaws.{unrecorded_is_none}
use Rattle.sq_laws.proofs.ledger_laws.unrecorded_leaves_are_no_steps.Goals as goal

pub returns : goal.returns
returns c = unrecorded_is_none
