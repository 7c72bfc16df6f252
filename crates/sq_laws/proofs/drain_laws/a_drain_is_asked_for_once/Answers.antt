use Rattle.sq_laws.proofs.DrainLaws.{asked_again}
use Rattle.sq_laws.proofs.drain_laws.a_drain_is_asked_for_once.Goals as goal

pub returns : goal.returns
returns c = asked_again
