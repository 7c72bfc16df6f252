use Rattle.sq_merge.proofs.WorldStepLaws.{answered_directory, answered_call, answered_known}
use Rattle.sq_merge.proofs.world_steps.WorldStepsLockSteps.directory_step.Goals as goal

pub returns-clause-reply : goal.returns-clause-reply
returns-clause-reply c = answered_call _ _ _ _ c.args.call.now c.directory_step.result c.directory_step.ensures.stepped

pub returns-clause-refusal : goal.returns-clause-refusal
returns-clause-refusal c = answered_directory c.args.self.now.world.now c.args.self.now.actor c.args.self.now.clock c.args.call.now c.directory_step.result c.directory_step.ensures.refusal

pub returns-clause-known : goal.returns-clause-known
returns-clause-known c = answered_known c.args.self.now.world.now _ c.args.self.now.actor c.args.self.now.clock c.args.call.now c.directory_step.result c.directory_step.ensures.stepped c.directory_step.ensures.made
