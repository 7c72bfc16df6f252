use Rattle.sq_laws.proofs.LineageLaws.{home_law}
use Rattle.sq_laws.proofs.laws.steps_lose_nothing.Goals as goal

pub returns : goal.returns
returns c = home_law
