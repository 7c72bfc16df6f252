use Rattle.sq_merge.proofs.WorldStepLaws.{answered_shared}
use Rattle.sq_merge.proofs.world_steps.WorldStepsLockSteps.shared_step.Goals as goal

pub returns-clause-refusal : goal.returns-clause-refusal
returns-clause-refusal c = answered_shared c.args.self.now.world.now c.args.self.now.actor c.args.self.now.clock c.args.at.now.name c.args.at.now.id c.args.what c.shared_step.result c.shared_step.ensures.refusal
