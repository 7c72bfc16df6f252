use Rattle.sq_model.specs.Homes.{Unopened}
use Rattle.sq_laws.proofs.DrainLaws.{empty_in_run, empty_replay}
use Rattle.sq_laws.proofs.drain_laws.a_drained_home_is_empty.Goals as goal

pub returns-clause-replayed : goal.returns-clause-replayed
returns-clause-replayed c site events home r = empty_replay site Unopened events home r tt

pub returns-clause-in_a_run : goal.returns-clause-in_a_run
returns-clause-in_a_run c = empty_in_run
