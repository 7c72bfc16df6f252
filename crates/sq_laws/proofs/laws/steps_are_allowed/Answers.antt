use Rattle.sq_laws.proofs.Refusals.{step_allowed}
use Rattle.sq_laws.proofs.laws.steps_are_allowed.Goals as goal

pub returns : goal.returns
returns c = step_allowed
