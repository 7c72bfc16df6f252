use Rattle.sq_actions.proofs.PathLaws.{answered_records}
use Rattle.sq_actions.proofs.client.call.Goals as goal

pub returns-clause-leaves_records : goal.returns-clause-leaves_records
returns-clause-leaves_records g c = answered_records _ g.S.LockSteps.journal g.met.S.LockSteps.leaves _ _ _ _ c.answer.ensures
