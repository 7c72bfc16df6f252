use Rattle.sq_laws.proofs.Progress.{step_possible}
use Rattle.sq_laws.proofs.laws.steps_are_possible.Goals as goal

pub returns : goal.returns
returns c = step_possible
