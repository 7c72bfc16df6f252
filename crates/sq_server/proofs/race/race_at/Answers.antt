use Rattle.sq_server.proofs.VerdictLaws.{has_fault}
use Rattle.sq_server.proofs.race.race_at.Goals as goal

pub returns-clause-fault : goal.returns-clause-fault
returns-clause-fault g c = has_fault _ _ c.conclude.result c.conclude.ensures.fault
