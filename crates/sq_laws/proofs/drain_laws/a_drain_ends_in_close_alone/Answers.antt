use Rattle.sq_laws.proofs.DrainLaws.{drained_stays, draining_goes_on, none_for_good}
use Rattle.sq_laws.proofs.drain_laws.a_drain_ends_in_close_alone.Goals as goal

pub returns-clause-draining : goal.returns-clause-draining
returns-clause-draining c = draining_goes_on

pub returns-clause-drained : goal.returns-clause-drained
returns-clause-drained c = drained_stays

pub returns-clause-for_good : goal.returns-clause-for_good
returns-clause-for_good c = none_for_good
