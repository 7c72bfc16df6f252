use Rattle.sq_merge.proofs.WorldStepLaws.{answered_by_ledger, answered_told}
use Rattle.sq_merge.proofs.world_steps.WorldStepsLockSteps.ledger_step.Goals as goal

pub returns-clause-reply : goal.returns-clause-reply
returns-clause-reply c = answered_told _ _ _ _ c.args.act.now c.ledger_step.result c.ledger_step.ensures.stepped

pub returns-clause-refusal : goal.returns-clause-refusal
returns-clause-refusal c = answered_by_ledger c.args.self.now.world.now c.args.self.now.actor c.args.self.now.clock c.args.act.now c.ledger_step.result c.ledger_step.ensures.refusal
