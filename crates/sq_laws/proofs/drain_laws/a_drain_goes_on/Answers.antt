use Rattle.sq_laws.proofs.DrainLaws.{goes_on}
use Rattle.sq_laws.proofs.drain_laws.a_drain_goes_on.Goals as goal

pub returns : goal.returns
returns c = goes_on
